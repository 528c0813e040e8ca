-- Plan after plan: what was judged so far, one plan more, and the end.
use mathlib.Core.Path.{◌≡◌, refl, sym, ap, ◌∙◌}
use mathlib.Core.List.{List, [], ◌∷◌, ◌++◌, append_assoc}
use Prim.Native.Nat.{ℕ, zero, suc, ◌+◌, ◌-◌, ◌*◌, ◌≤◌, ◌<◌}
use native.Mathlib.Numerals.{add-one}
use native.Mathlib.Omega.{arith}
use mir.Syntax.{w64}
use mir.Val.{Fits}
use borrow.Rule.Slice.PartMut.{put_mid}
use lib.ListN.{length, take, drop, length-append, length-drop, drop_of_length-le}
use lib.Seq.{sets, sets-eq, take_at, drop_at, drop-drop, length-take-le}
use Rattle.automata.specs.Format.{narrow}
use Rattle.card.specs.Load.{load_test}
use Rattle.card.specs.Judge.{judge}
use Rattle.card.specs.Answer.{Numbers, reply_numbers, rejected, load}
use Rattle.std.specs.Prelude.{Result, Ok, Err}
use Rattle.loading.specs.declared.Fault.{Fault}
use Rattle.loading.specs.Faults.{fault_number}
use Rattle.run.specs.declared.Verdict.{Verdict as Verdict'}
use Rattle.run.specs.declared.UnknownLetter.{UnknownLetter}
use Rattle.run.specs.Reading.{reply_of}
use Rattle.board.proofs.EntryLaws.{rejected_test}
use Rattle.plans.specs.Plans.{plans_of, consumed, line_of, LineEnd}
use Rattle.plans.proofs.PlansLaws.{consumed_next, plans_line, plans_end, consumed_line, consumed_end}
use Rattle.plans.specs.Many.{three, replies_to, judged_count, many_numbers, many_replies, JudgesLines}

-- ---- lists

take_next : {A : Type 0} (k : ℕ) (l : List A) (x : A) (r : List A) → drop k l ≡ x ∷ r → take (suc k) l ≡ take k l ++ (x ∷ [])
take_next zero [] x r e = absurd (let z : ◌≡◌ {A = ℕ} 0 (suc (length r)) = ap length e in omega arith)
take_next zero (y ∷ l) x r e = let z : y ≡ x = cc in rw z
take_next (suc k) [] x r e = absurd (let z : ◌≡◌ {A = ℕ} 0 (suc (length r)) = ap length e in omega arith)
take_next (suc k) (y ∷ l) x r e = ap (λ t. y ∷ t) (take_next k l x r e)

drop_next : {A : Type 0} (k : ℕ) (l : List A) (x : A) (r : List A) → drop k l ≡ x ∷ r → drop (suc k) l ≡ r
drop_next zero [] x r e = absurd (let z : ◌≡◌ {A = ℕ} 0 (suc (length r)) = ap length e in omega arith)
drop_next zero (y ∷ l) x r e = cc
drop_next (suc k) [] x r e = absurd (let z : ◌≡◌ {A = ℕ} 0 (suc (length r)) = ap length e in omega arith)
drop_next (suc k) (y ∷ l) x r e = drop_next k l x r e

replies_append : (c : List ℕ) (ps qs : List (List ℕ)) → replies_to c (ps ++ qs) ≡ replies_to c ps ++ replies_to c qs
replies_append c [] qs = refl
replies_append c (p ∷ ps) qs = ap (λ x. three (reply_numbers (judge narrow c p)) ++ x) (replies_append c ps qs)

replies_length : (c : List ℕ) (ps : List (List ℕ)) → length (replies_to c ps) ≡ 3 * length ps
replies_length c [] = refl
replies_length c (p ∷ ps) = omega (arith, replies_length c ps)

-- ---- numbers in their place

pub three_put : (l ys : List ℕ) (at k : ℕ) (n : Numbers) → ys ≡ three n → k ≡ 3 → at + 3 ≤ length l → put_mid at k l ys ≡ sets l at (three n)
three_put l ys at k n e f h = rw (e, f, drop-drop 3 at l) (sym (sets-eq (three n) l at h ∙ append_assoc (take at l) (three n) (drop (at + 3) l)))

-- less of the text is left behind a plan's line end, and behind the last plan
pub line_less : (l a e : ℕ) → a ≤ e → e < l → l - (e + 1) < l - a
line_less l a e h g = omega arith

pub end_less : (l a e : ℕ) → a < l → l ≤ e → l - e < l - a
end_less l a e h g = omega arith

-- ---- what was judged so far

-- The first k plans are judged, and the next one begins at `from`.
pub record Upto (c s old : List ℕ) (k at from : ℕ) (new : List ℕ) : Type 0 where
  pub count : k ≤ length (plans_of s)
  pub place : at ≡ 3 * k
  pub room : at ≤ length old
  pub inside : from ≤ length s
  pub used : from ≡ consumed k s
  pub rest : plans_of (drop from s) ≡ drop k (plans_of s)
  pub is : new ≡ replies_to c (take k (plans_of s)) ++ drop at old

module _ (c s old : List ℕ) where
  pub upto_none : Upto c s old 0 0 0 old
  upto_none = record { count = omega arith; place = omega arith; room = omega arith; inside = omega arith; used = refl; rest = refl; is = refl }

  module _ (k at from : ℕ) (new : List ℕ) (u : Upto c s old k at from new) where
    abbrev done : ℕ → List ℕ
    done j = replies_to c (take j (plans_of s))

    long : length (done k) ≡ at
    long = omega (arith, replies_length c (take k (plans_of s)), length-take-le k (plans_of s) u.count, u.place)

    pub upto_length : length new ≡ length old
    upto_length = omega (arith, ap length u.is, length-append (done k) (drop at old), long, length-drop at old, u.room)

    -- the replies that are stored, and room for three numbers more
    pub upto_within : at ≤ length new
    upto_within = omega (arith, upto_length, u.room)

    pub upto_full : length new - at < 3 → length old - at < 3
    upto_full h = omega (arith, upto_length)

    pub upto_fits : 3 ≤ length new - at → at + 3 ≤ length new
    upto_fits h = omega (arith, upto_within)

    pub upto_more : 3 ≤ length new - at → at + 3 ≤ length old
    upto_more h = omega (arith, upto_length, u.room)

    pub upto_count : Fits w64 (at + 3) → Fits w64 (k + 1)
    upto_count f = record { fits = omega (arith, u.place, f.fits) }

    -- one plan more, which begins at `from` and ends at e
    module _ (b : from < length s) (e : ℕ) (l : LineEnd s from e) (a : Result Verdict' UnknownLetter) (j : reply_of a ≡ judge narrow c (line_of s from e)) (h : at + 3 ≤ length old)
        (new' : List ℕ) (w : new' ≡ sets new at (three (reply_numbers (reply_of a)))) where
      module _ (next : ℕ) (low : from ≤ next) (in' : next ≤ length s) (p : plans_of (drop from s) ≡ line_of s from e ∷ plans_of (drop next s)) (g : consumed 1 (drop from s) ≡ next - from) where
        head : drop k (plans_of s) ≡ line_of s from e ∷ plans_of (drop next s)
        head = sym u.rest ∙ p

        more : done (suc k) ≡ done k ++ three (reply_numbers (reply_of a))
        more = ap (replies_to c) (take_next k (plans_of s) _ _ head) ∙ replies_append c (take k (plans_of s)) (line_of s from e ∷ [])
            ∙ ap (λ x. done k ++ three (reply_numbers x)) (sym j)

        stored : sets new at (three (reply_numbers (reply_of a))) ≡ done (suc k) ++ drop (at + 3) old
        stored = sets-eq (three (reply_numbers (reply_of a))) new at (omega (arith, upto_length))
            ∙ (λ i. front i ++ three (reply_numbers (reply_of a)) ++ back i) ∙ ap (λ x. x ++ drop (at + 3) old) (sym more)
          where
            front : take at new ≡ done k
            front = ap (take at) u.is ∙ take_at (done k) (drop at old) at long

            back : drop (at + 3) new ≡ drop (at + 3) old
            back = sym (drop-drop 3 at new) ∙ ap (λ x. drop 3 (drop at x)) u.is ∙ ap (drop 3) (drop_at (done k) (drop at old) at long) ∙ drop-drop 3 at old

        pub upto_next : Upto c s old (k + 1) (at + 3) next new'
        upto_next = rw (add-one k) (record {
          count = omega (arith, ap length head, length-drop k (plans_of s));
          place = omega (arith, u.place);
          room = h;
          inside = in';
          used = sym (consumed_next k s ∙ ap (λ x. x + consumed 1 (drop x s)) (sym u.used) ∙ ap (λ x. from + x) g ∙ omega arith);
          rest = sym (drop_next k (plans_of s) _ _ head);
          is = w ∙ stored;
        })

      pub upto_line : e < length s → Upto c s old (k + 1) (at + 3) (e + 1) new'
      upto_line x = let z : suc e ≡ e + 1 = omega arith in
          upto_next (e + 1) (omega (arith, l.low)) (omega arith) (plans_line s from e l x ∙ ap (λ y. line_of s from e ∷ plans_of (drop y s)) z) (consumed_line s from e l x ∙ omega arith)

      pub upto_end : length s ≤ e → Upto c s old (k + 1) (at + 3) e new'
      upto_end x = upto_next e l.low l.most (plans_end s from e l b x) (consumed_end s from e l x)

    -- ---- the end

    module _ (loads : load_test narrow c ≡ 0) where
      judges : k ≡ judged_count s (length old) → JudgesLines c s old new (Ok (record { plans = k; bytes = from }))
      unfolding many_numbers many_replies
      judges e = record {
        answer = rw loads (λ i. record { number = 0; first = e i; second = (u.used ∙ ap (λ x. consumed x s) e) i });
        replies = rw loads (u.is ∙ ap (λ x. replies_to c (take k (plans_of s)) ++ drop x old) u.place ∙ ap (λ x. replies_to c (take x (plans_of s)) ++ drop (3 * x) old) e);
      }

      -- no plan is left
      pub judges_all : length s ≤ from → JudgesLines c s old new (Ok (record { plans = k; bytes = from }))
      judges_all h = judges (omega (arith, u.place, u.room, ap length (sym u.rest ∙ ap plans_of (drop_of_length-le s {i = from} h)), length-drop k (plans_of s), u.count))

      -- or no room
      pub judges_full : length old - at < 3 → JudgesLines c s old new (Ok (record { plans = k; bytes = from }))
      judges_full h = judges (omega (arith, u.place, u.room, u.count))

-- the card is refused
pub judges_refused : (c s old : List ℕ) (f : Fault) → rejected (fault_number f) ≡ load narrow c → JudgesLines c s old old (Err f)
unfolding many_numbers many_replies
judges_refused c s old f e = let (z, t) = rejected_test c (fault_number f) e in
    record { answer = rw t (λ i. record { number = sym z i; first = 0; second = 0 }); replies = rw t }
