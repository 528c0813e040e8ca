-- What holds in the loop over a letter's moves: the states so far.
use mathlib.Core.Path.{◌≡◌, sym, ◌∙◌}
use mathlib.Core.Logic.{◌⊎◌, inl, inr}
use mathlib.Core.List.{List}
use Prim.Native.Nat.{ℕ, ◌+◌, ◌≤◌, ◌<◌}
use native.Mathlib.Omega.{arith}
use lib.ListN.{length, get_or, set, length-set}
use lib.Seq.{get_or-set_same, get_or-set_other}
use Rattle.automata.specs.Basics.{SameCases, same_cases, nat_test}
use Rattle.ends.specs.Ends.{next_place}

-- ---- one letter

pub record SteppedTo (moves : List ℕ) (m column : ℕ) (before old new : List ℕ) (last q : ℕ) : Type 0 where
  pub long : length new ≡ length old
  pub done : (p : ℕ) → p < q → get_or new p 0 ≡ next_place moves m column before p
  pub most : (p : ℕ) → p < q → next_place moves m column before p ≤ last
  pub attained : (last ≡ 0) ⊎ ((p : ℕ) × (p < q) × (next_place moves m column before p ≡ last))

module _ (moves : List ℕ) (m column : ℕ) (before old new : List ℕ) (last q : ℕ) (s : SteppedTo moves m column before old new last q) where
  -- where the place is, the last so far is as `last'` says
  pub stepped_next : (end last' : ℕ) → q < length old → end ≡ next_place moves m column before q
      → ((last < end) × (last' ≡ end)) ⊎ ((end ≤ last) × (last' ≡ last)) → SteppedTo moves m column before old (set new q end) last' (q + 1)
  stepped_next end last' h e w = record {
    long = length-set new q end ∙ s.long;
    done = λ p b. at p b (same_cases nat_test p q);
    most = λ p b. low w p b (same_cases nat_test p q);
    attained = some w s.attained;
  }
    where
      at : (p : ℕ) → p < q + 1 → SameCases nat_test p q → get_or (set new q end) p 0 ≡ next_place moves m column before p
      at p b (inl z) = rw z.0 (get_or-set_same new q end 0 (omega (arith, s.long)) ∙ e)
      at p b (inr z) = get_or-set_other new q p end 0 z.0 ∙ s.done p (omega (arith, z.0))

      low : ((last < end) × (last' ≡ end)) ⊎ ((end ≤ last) × (last' ≡ last)) → (p : ℕ) → p < q + 1 → SameCases nat_test p q → next_place moves m column before p ≤ last'
      low (inl y) p b (inl z) = rw z.0 (omega (arith, e, y.1))
      low (inr y) p b (inl z) = rw z.0 (omega (arith, e, y.1, y.0))
      low (inl y) p b (inr z) = omega (arith, y.0, y.1, s.most p (omega (arith, z.0)))
      low (inr y) p b (inr z) = omega (arith, y.1, s.most p (omega (arith, z.0)))

      some : ((last < end) × (last' ≡ end)) ⊎ ((end ≤ last) × (last' ≡ last)) → (last ≡ 0) ⊎ ((p : ℕ) × (p < q) × (next_place moves m column before p ≡ last))
          → (last' ≡ 0) ⊎ ((p : ℕ) × (p < q + 1) × (next_place moves m column before p ≡ last'))
      some (inl y) t = inr (q, omega arith, sym e ∙ sym y.1)
      some (inr y) (inl z) = inl (y.1 ∙ z)
      some (inr y) (inr (p, b, z)) = inr (p, omega arith, z ∙ sym y.1)
