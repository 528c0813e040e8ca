-- Bytes as they are taken in: what is known so far, one line more, and the ends.
use mathlib.Core.Path.{◌≡◌, refl, sym, ap, subst, ◌∙◌}
use mathlib.Core.Bool.{Bool, true, false, true≢false}
use mathlib.Core.List.{List, [], ◌∷◌, ◌++◌, append-nil}
use Prim.Native.Nat.{ℕ, zero, suc, ◌+◌, ◌-◌, ◌^◌, ◌≤◌, ◌<◌}
use native.Mathlib.Omega.{arith}
use lib.ListN.{length, take, length-take}
use Rattle.automata.specs.Format.{narrow}
use Rattle.card.specs.Judge.{judge}
use Rattle.std.specs.Prelude.{Result}
use Rattle.card.specs.Load.{load_test}
use Rattle.run.specs.declared.Run.{Run}
use Rattle.run.specs.declared.Verdict.{Verdict}
use Rattle.board.specs.declared.refusals.Refusal.{Refusal}
use Rattle.plans.specs.Plans.{ended, begun, last_plan, line_of, LineEnd}
use Rattle.plans.proofs.PlansLaws.{line_length, ended_line, begun_line, ended_last, begun_last, begun_few}
use Rattle.judging.specs.declared.State.{State}
use Rattle.judging.specs.Plan.{Goes, Judges, More, Answers}
use Rattle.reply.specs.Text.{reply_line, reply_lines, longest, PutLine}
use Rattle.judging.specs.Lines.{is_open, Since, Counted, Feeds, Finishes}
use Rattle.judging.proofs.PlanLaws.{judges_goes, letters_few}
use Rattle.reply.proofs.TextLaws.{lines_more}

-- ---- taking in

abbrev state : Run → Bool → State
state j o = record { run = j; «open» = o }

-- The first `from` bytes are taken in, from the plan j₀ on.
pub record Upto (c s : List ℕ) (j₀ : Run) (o₀ : Bool) (from : ℕ) (j : Run) (o : Bool) (out : List ℕ) (at : ℕ) : Type 0 where
  pub inside : from ≤ length s
  pub within : at ≤ length out
  pub start : from ≡ 0 → at ≡ 0
  pub judges : (u : List ℕ) → Judges c u j₀ → Judges c (begun u (take from s)) j
  pub opened : (u : List ℕ) → o₀ ≡ is_open u → o ≡ is_open (begun u (take from s))
  pub text : (u : List ℕ) → Judges c u j₀ → take at out ≡ reply_lines c (ended u (take from s))

module _ (c s : List ℕ) (j₀ : Run) (o₀ : Bool) where
  pub upto_none : (out : List ℕ) → Upto c s j₀ o₀ 0 j₀ o₀ out 0
  upto_none out = record { inside = omega arith; within = omega arith; start = λ _. refl; judges = λ u w. w; opened = λ u e. e; text = λ u w. refl }

  module _ (from : ℕ) (j : Run) (o : Bool) (out : List ℕ) (at : ℕ) (x : Upto c s j₀ o₀ from j o out at) where
    -- the letters can be counted
    pub upto_fits : (n e : ℕ) → Counted c (state j₀ o₀) n → length s ≤ n → LineEnd s from e → load_test narrow c ≡ 0 → j.letters + length (line_of s from e) < 2 ^ 64
    upto_fits n e w h l z = omega (
      arith,
      w.fits,
      line_length s from e l,
      l.most,
      l.low,
      letters_few c _ j (x.judges w.bytes w.since.judges) z,
      begun_few w.bytes (take from s),
      length-take from s,
      x.inside,
    )

    pub upto_goes : (n : ℕ) → Counted c (state j₀ o₀) n → Goes c j
    upto_goes n w = judges_goes c _ j (x.judges w.bytes w.since.judges)

    module _ (e : ℕ) (l : LineEnd s from e) (j' : Run) (m : More c j (line_of s from e) j') where
      -- A LINE ENDS: its plan's answer stands behind the text, and the next plan begins.
      pub upto_line : e < length s → (a : Result Verdict Refusal) → Answers c j' a → (out' : List ℕ) (r : ℕ) → PutLine out at a out' r → at + longest ≤ length out' → (j'' : Run) → Judges c [] j''
          → Upto c s j₀ o₀ (e + 1) j'' false out' r
      upto_line h a v out' r p b j'' k = let z : e + 1 ≡ suc e = omega arith in rw z (record {
        inside = omega arith;
        within = omega (arith, p.most);
        start = λ y. absurd (omega arith);
        judges = λ u w. rw (begun_line s from e l u h) k;
        opened = λ u w. rw (begun_line s from e l u h);
        text = λ u w. p.put.is ∙ (λ i. x.text u w i ++ reply_line (v.is (begun u (take from s) ++ line_of s from e) (m.judges (begun u (take from s)) (x.judges u w)) i))
            ∙ sym (lines_more c (ended u (take from s)) (begun u (take from s) ++ line_of s from e)) ∙ ap (reply_lines c) (sym (ended_line s from e l u h));
      })

      -- THE BYTES END within a plan.
      pub feeds_last : from < length s → length s ≤ e → Feeds c (state j₀ o₀) s out (record { state = state j' true; used = e; at = at })
      feeds_last b h = record {
        used = l.most;
        some = λ y. omega arith;
        room = λ y. absurd (omega arith);
        within = x.within;
        text = λ u w. x.text u w.judges ∙ ap (reply_lines c) (sym (ended_last s from e l u));
        since = λ u w. record {
          judges = subst (λ y. Judges c y j') (sym (begun_last s from e l u)) (m.judges (begun u (take from s)) (x.judges u w.judges));
          opened = sym (ap is_open (begun_last s from e l u) ∙ behind (begun u (take from s)) (line_of s from e) (omega (arith, line_length s from e l)));
        };
      }
        where
          behind : (v w : List ℕ) → 0 < length w → is_open (v ++ w) ≡ true
          behind (b ∷ v) w h = refl
          behind [] (b ∷ w) h = refl
          behind [] [] h = absurd (omega arith)

    here : (u : List ℕ) → Since c u (state j₀ o₀) → Since c (begun u (take from s)) (state j o)
    here u w = record { judges = x.judges u w.judges; opened = x.opened u w.opened }

    -- there is no room for a line more,
    pub feeds_full : longest ≤ length out → length out - at < longest → Feeds c (state j₀ o₀) s out (record { state = state j o; used = from; at = at })
    feeds_full b h = record {
      used = x.inside;
      some = λ y. go from x.start;
      room = λ y. omega (arith, x.within);
      within = x.within;
      text = λ u w. x.text u w.judges;
      since = here;
    }
      where
        go : (k : ℕ) → (k ≡ 0 → at ≡ 0) → 0 < k
        go zero f = absurd (let z : at ≡ 0 = f refl in omega arith)
        go (suc k) f = omega arith

    -- or all bytes are taken in
    pub feeds_all : length s ≤ from → Feeds c (state j₀ o₀) s out (record { state = state j o; used = from; at = at })
    feeds_all h = record {
      used = x.inside;
      some = λ y. omega arith;
      room = λ y. absurd (omega arith);
      within = x.within;
      text = λ u w. x.text u w.judges;
      since = here;
    }

-- ---- the last plan

module _ (c : List ℕ) (st : State) (out' : List ℕ) where
  pub finishes_open : st.«open» ≡ true → (a : Result Verdict Refusal) → Answers c st.run a → (out : List ℕ) (r : ℕ) → PutLine out 0 a out' r → longest ≤ length out' → Finishes c st out' r
  finishes_open t a v out r p h = record { within = omega (arith, p.most); text = λ u w. go u w (sym w.opened ∙ t) }
    where
      go : (u : List ℕ) → Since c u st → is_open u ≡ true → take r out' ≡ reply_lines c (last_plan u)
      go [] w e = absurd (true≢false (sym e))
      go (b ∷ u) w e = p.put.is ∙ ap reply_line (v.is (b ∷ u) w.judges) ∙ sym (append-nil (reply_line (judge narrow c (b ∷ u))))

  pub finishes_closed : st.«open» ≡ false → Finishes c st out' 0
  finishes_closed t = record { within = omega arith; text = λ u w. go u (sym w.opened ∙ t) }
    where
      go : (u : List ℕ) → is_open u ≡ false → take 0 out' ≡ reply_lines c (last_plan u)
      go [] e = refl
      go (b ∷ u) e = absurd (true≢false e)
