-- Bytes as they are read: those of one read, and read after read; and what is written for them.
use Rattle.std.specs.Prelude.{Option}
use Rattle.std.proofs.KnownBytes.{Appends-nil, Appends-trans, Consumes-nil, Consumes-trans}
use Rattle.std.specs.Io.KnownBytes.{Consumes, Appends, IsAtEnd}
use Rattle.std.proofs.Common.{◌≡◌, refl, sym, ap, subst, ◌∙◌, List, [], ◌∷◌, ◌++◌, ℕ, ◌+◌, ◌-◌, ◌*◌, ◌^◌, ◌≤◌, ◌<◌, arith, append_assoc, append-nil, length, take, drop, length-take, length-drop, length-append, take-add}
use Rattle.std.proofs.lemmas.List.{take_all}
use Rattle.automata.specs.Format.{narrow}
use Rattle.card.specs.Judge.{judge}
use Rattle.plans.specs.Plans.{begun, ended, last_plan}
use Rattle.plans.proofs.PlansLaws.{begun_append, ended_append, begun_few, plans_pieces}
use Rattle.reply.specs.Text.{reply_line, reply_lines}
use Rattle.judging.specs.declared.State.{State}
use Rattle.judging.specs.declared.Fed.{Fed}
use Rattle.judging.specs.Lines.{Since, Counted, Feeds, Finishes}
use Rattle.judge.specs.Lines.{AllReplies}

-- the lines of plans behind plans
lines_append : (c : List ℕ) (ps qs : List (List ℕ)) → reply_lines c (ps ++ qs) ≡ reply_lines c ps ++ reply_lines c qs
lines_append c [] qs = refl
lines_append c (p ∷ ps) qs = ap (λ x. reply_line (judge narrow c p) ++ x) (lines_append c ps qs)
    ∙ sym (append_assoc (reply_line (judge narrow c p)) (reply_lines c ps) (reply_lines c qs))

-- ---- all bytes of a read

-- the bytes from `from` on
abbrev tail : List ℕ → ℕ → List ℕ
tail s from = take (length s - from) (drop from s)

tail_is : (s : List ℕ) (from : ℕ) → tail s from ≡ drop from s
tail_is s from = take_all (length s - from) (drop from s) (omega (arith, length-drop from s))

-- The first `from` bytes lead from one state to the other, and the lines of the plans that ended in them were written.
pub record Taken (c s : List ℕ) (st₀ : State) (o₀ : Option (List ℕ)) (from : ℕ) (st : State) (o : Option (List ℕ)) : Type 0 where
  pub inside : from ≤ length s
  pub since : (u : List ℕ) → Since c u st₀ → Since c (begun u (take from s)) st
  pub text : (u : List ℕ) → Since c u st₀ → Appends o₀ o (reply_lines c (ended u (take from s)))

module _ (c s : List ℕ) (st₀ : State) (o₀ : Option (List ℕ)) where
  pub taken_none : Taken c s st₀ o₀ 0 st₀ o₀
  taken_none = record { inside = omega arith; since = λ u w. w; text = λ u w. Appends-nil o₀ }

  module _ (from : ℕ) (st : State) (o : Option (List ℕ)) (t : Taken c s st₀ o₀ from st o) where
    pub taken_counted : Counted c st₀ (length s) → Counted c st (length (tail s from))
    taken_counted w = record {
      bytes = begun w.bytes (take from s);
      since = t.since w.bytes w.since;
      fits = omega (arith, w.fits, begun_few w.bytes (take from s), length-take from s, ap length (tail_is s from), length-drop from s, t.inside);
    }

    tail_long : length (tail s from) ≡ length s - from
    tail_long = ap length (tail_is s from) ∙ length-drop from s

    pub taken_less : (out : List ℕ) (r : Fed) → Feeds c st (tail s from) out r → from < length s → length s - (from + r.used) < length s - from
    taken_less out r f h = omega (arith, f.some (omega (arith, tail_long)), f.used, tail_long)

    pub taken_more : (out : List ℕ) (r : Fed) (o' : Option (List ℕ)) → Feeds c st (tail s from) out r → Appends o o' (take r.at out) → Taken c s st₀ o₀ (from + r.used) r.state o'
    taken_more out r o' f a = record {
      inside = omega (arith, f.used, tail_long, t.inside);
      since = λ u w. subst (λ x. Since c x r.state) (sym (ap (begun u) split ∙ begun_append u (take from s) (take r.used (tail s from)))) (f.since (begun u (take from s)) (t.since u w));
      text = λ u w.
          subst (λ x. Appends o₀ o' x)
          (sym (ap (λ x. reply_lines c (ended u x)) split ∙ ap (reply_lines c) (ended_append u (take from s) (take r.used (tail s from)))
          ∙ lines_append c (ended u (take from s)) (ended (begun u (take from s)) (take r.used (tail s from)))))
          (Appends-trans o₀ o o' _ _ (t.text u w) (subst (λ x. Appends o o' x) (f.text (begun u (take from s)) (t.since u w)) a));
    }
      where
        split : take (from + r.used) s ≡ take from s ++ take r.used (tail s from)
        split = take-add from r.used s ∙ ap (λ x. take from s ++ take r.used x) (sym (tail_is s from))

    pub taken_all : length s ≤ from → (u : List ℕ) → Since c u st₀ → Since c (begun u s) st
    taken_all h u w = subst (λ x. Since c (begun u x) st) (take_all from s h) (t.since u w)

    pub taken_text : length s ≤ from → (u : List ℕ) → Since c u st₀ → Appends o₀ o (reply_lines c (ended u s))
    taken_text h u w = subst (λ x. Appends o₀ o (reply_lines c (ended u x))) (take_all from s h) (t.text u w)

-- ---- read after read

-- What has come and what was written for it, and as many reads of 65,536 bytes as there were.
pub record Reading (c : List ℕ) (i₀ o₀ : Option (List ℕ)) (reads : ℕ) (st : State) (i o : Option (List ℕ)) : Type 0 where
  pub bytes : List ℕ
  pub since : Since c (begun [] bytes) st
  pub few : length (begun [] bytes) ≤ 65536 * reads
  pub many : reads ≤ length bytes
  pub read : Consumes i₀ i bytes
  pub written : Appends o₀ o (reply_lines c (ended [] bytes))

module _ (c : List ℕ) (i₀ o₀ : Option (List ℕ)) where
  pub reading_start : (st : State) → Since c [] st → Reading c i₀ o₀ 0 st i₀ o₀
  reading_start st w = record { bytes = []; since = w; few = omega arith; many = omega arith; read = Consumes-nil i₀; written = Appends-nil o₀ }

  module _ (reads : ℕ) (st : State) (i o : Option (List ℕ)) (r : Reading c i₀ o₀ reads st i o) where
    pub reading_counted : (n : ℕ) → reads < 2 ^ 47 → n ≤ 65536 → Counted c st n
    reading_counted n b h = record { bytes = begun [] r.bytes; since = r.since; fits = omega (arith, r.few) }

    -- one read more
    pub reading_more : (s : List ℕ) (st' : State) (i' o' : Option (List ℕ)) → ((u : List ℕ) → Since c u st → Since c (begun u s) st')
        → ((u : List ℕ) → Since c u st → Appends o o' (reply_lines c (ended u s))) → Consumes i i' s → length s ≤ 65536 → 0 < length s → Reading c i₀ o₀ (reads + 1) st' i' o'
    reading_more s st' i' o' f g q h some = record {
      bytes = r.bytes ++ s;
      since = subst (λ x. Since c x st') (sym (begun_append [] r.bytes s)) (f (begun [] r.bytes) r.since);
      few = omega (arith, r.few, begun_few (begun [] r.bytes) s, ap length (begun_append [] r.bytes s));
      many = omega (arith, r.many, length-append r.bytes s);
      read = Consumes-trans i₀ i i' _ _ r.read q;
      written =
          subst (λ x. Appends o₀ o' x) (sym (ap (reply_lines c) (ended_append [] r.bytes s) ∙ lines_append c (ended [] r.bytes) (ended (begun [] r.bytes) s)))
          (Appends-trans o₀ o o' _ _ r.written (g (begun [] r.bytes) r.since));
    }

    -- the input's end
    pub reading_all : (n : ℕ) (buf out : List ℕ) (last : ℕ) (i' o' : Option (List ℕ)) → Consumes i i' (take n buf) × (n ≡ 0 → 0 < length buf → IsAtEnd i') → n ≡ 0 → 0 < length buf
        → Finishes c st out last → Appends o o' (take last out) → AllReplies c i₀ i' o₀ o'
    reading_all n buf out last i' o' q z h f a = record {
      bytes = r.bytes;
      read = subst (λ x. Consumes i₀ i' x) (append-nil r.bytes) (Consumes-trans i₀ i i' _ _ r.read (subst (λ k. Consumes i i' (take k buf)) z q.0));
      all = q.1 z h;
      written =
          subst (λ x. Appends o₀ o' x) (sym (ap (reply_lines c) (plans_pieces r.bytes) ∙ lines_append c (ended [] r.bytes) (last_plan (begun [] r.bytes))))
          (Appends-trans o₀ o o' _ _ r.written (subst (λ x. Appends o o' x) (f.text (begun [] r.bytes) r.since) a));
    }
