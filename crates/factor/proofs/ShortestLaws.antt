-- The search gives the right answer for any test of factors that is exact.
use Rattle.std.specs.Prelude.{◌≡◌, refl, Bool, true, false, not, ◌↔◌, List, length, ltb}
use Rattle.std.proofs.Common.{sym, subst, inl, inr, arith}
use Prim.Native.Nat.{ℕ, suc, ◌+◌, ◌≤◌, ◌<◌}
use Rattle.std.proofs.Math.Seq.{take-length}
use Rattle.automata.specs.Basics.{LtCases, lt_cases, ltb_lt}
use Rattle.automata.specs.Decide.{contradict, First, first_from_lem}
use Rattle.factor.specs.Factor.{factor, Inside, Blames, is_none, is_at}
use Rattle.factor.specs.Shortest.{places, leftmost, least, shortest_by}

-- ---- by an exact test

pub passed : (b : Bool) → not b ≡ false → b ≡ true
passed true e = refl
passed false e = sym e

pub failed : (b : Bool) → not b ≡ true → b ≡ false
failed true e = sym e
failed false e = refl

module _ (inside : List ℕ → Bool) (ok : List ℕ → Bool) (plan : List ℕ)
    (exact : (i k : ℕ) → i + k ≤ length plan → (inside (factor plan i k) ≡ true) ↔ Inside ok (factor plan i k)) where
  abbrev fails : ℕ → ℕ → Bool
  fails k i = not (inside (factor plan i k))

  -- Before the leftmost place a factor lies inside, and there it does not.
  before_leftmost : (k j : ℕ) → k ≤ length plan → j < places plan k → j < leftmost inside plan k → Inside ok (factor plan j k)
  unfolding leftmost
  before_leftmost k j h b c = (exact j k (omega arith)).0 (passed (inside (factor plan j k)) ((first_from_lem (fails k) 0 (places plan k)).before j (omega arith) c))

  at_leftmost : (k : ℕ) → k ≤ length plan → leftmost inside plan k < places plan k → ¬ Inside ok (factor plan (leftmost inside plan k) k)
  unfolding leftmost
  at_leftmost k h b s = contradict ((exact (leftmost inside plan k) k (omega arith)).1 s)
      (failed (inside (factor plan (leftmost inside plan k) k)) ((first_from_lem (fails k) 0 (places plan k)).passes (omega arith)))

  -- the lengths for which some factor fails
  abbrev some : ℕ → Bool
  some k = ltb (leftmost inside plan k) (places plan k)

  search : First some 0 (suc (length plan)) (least inside plan)
  unfolding least
  search = first_from_lem some 0 (suc (length plan))

  -- THE SEARCH gives the right answer.
  pub shortest_blames : Blames ok plan (shortest_by inside plan)
  unfolding shortest_by
  shortest_blames = go (lt_cases k (suc (length plan)))
    where
      k : ℕ
      k = least inside plan

      -- every factor of a length before the least lies inside
      shorter : (j l : ℕ) → j + l ≤ length plan → l < k → Inside ok (factor plan j l)
      shorter j l h b = at (lt_cases (leftmost inside plan l) (places plan l))
        where
          at : LtCases (leftmost inside plan l) (places plan l) → Inside ok (factor plan j l)
          at (inl p) = contradict p.1 (search.before l (omega arith) b)
          at (inr p) = before_leftmost l j (omega arith) (omega arith) (omega (arith, p.0))

      go : LtCases k (suc (length plan)) → Blames ok plan (shortest_by inside plan)
      go (inl p) =
          let b : leftmost inside plan k < places plan k = ltb_lt (leftmost inside plan k) (places plan k) (search.passes (omega (arith, p.0))) in
          rw p.1 (is_at (leftmost inside plan k) k (record {
            most = omega (arith, p.0);
            outside = at_leftmost k (omega (arith, p.0)) b;
            shorter = shorter;
            left = λ j h. before_leftmost k j (omega (arith, p.0)) (omega arith) h;
          }))
      go (inr p) = rw p.1 (is_none (subst (Inside ok) (take-length plan) (shorter 0 (length plan) (omega arith) (omega (arith, p.0)))))
