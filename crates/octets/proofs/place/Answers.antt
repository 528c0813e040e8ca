-- `place` meets its contract: no byte before the place is the one looked for, and the place's is, if there is one.
use Rattle.std.proofs.Common.{◌≡◌, ◌≢◌, ℕ, ◌<◌, List, Option, None, Some, length, ◌∙◌, inl, inr, arith, rules}
use borrow.Author.Tests.{tests}
use Rattle.std.specs.List.{AllWithin, HoldsAt}
use Rattle.std.specs.Option.{MatchOption, unwrap_or}
use Rattle.std.proofs.lemmas.Iterator.{YieldsList-from_slice, IsFirst-from_position}
use Rattle.automata.specs.Basics.{LtCases, lt_cases, nat_test, find, find_le, find_at, find_least}
use Rattle.octets.proofs.place.Goals as goal

found : (s : List ℕ) (b : ℕ) (r : Option ℕ)
    → MatchOption r (AllWithin (λ x. x ≢ b) s 0 (length s)) (λ i. (i < length s) × HoldsAt (λ x. x ≡ b) s i × AllWithin (λ x. x ≢ b) s 0 i) → unwrap_or r (length s) ≡ find nat_test b s
found s b None h = go (lt_cases (find nat_test b s) (length s))
  where
    go : LtCases (find nat_test b s) (length s) → length s ≡ find nat_test b s
    go (inl p) = absurd (h (find nat_test b s) 0 (omega arith) p.0 (find_at nat_test 0 b s p.0))
    go (inr p) = omega (arith, p.0, find_le nat_test b s)
found s b (Some i) (l, e, n) = go (lt_cases (find nat_test b s) i)
  where
    go : LtCases (find nat_test b s) i → i ≡ find nat_test b s
    go (inl p) = absurd (n (find nat_test b s) 0 (omega arith) p.0 (find_at nat_test 0 b s (omega (arith, p.0, l))))
    go (inr p) = omega (arith, p.0, find_least nat_test 0 b s i l (e 0))

pub returns : goal.returns
returns c =
    let a = c.args in
    c.unwrap_or.ensures ∙ found a.bytes.now a.byte c.position.result
    (IsFirst-from_position _ _ _ (λ x. x ≡ a.byte) (λ x. x ≢ a.byte) c.position.ensures.ran (YieldsList-from_slice a.bytes.now c.iter.ensures.rest) (λ x q k. search (rules, tests)) (λ x q k. search (rules, tests)))
