-- Laws of what specs/Restrict.antt defines.
use Rattle.std.specs.Prelude.{◌≡◌, false, ◌⊎◌, length, get_or}
use Rattle.std.proofs.Common.{sym, ap, ◌∙◌, inl, inr, arith}
use mathlib.Core.List.{List, [], ◌∷◌, ◌++◌}
use Prim.Native.Nat.{ℕ, zero, suc, ◌≤◌, ◌<◌}
use Rattle.automata.specs.Booleans.{not_true}
use Rattle.automata.specs.Basics.{LtCases, lt_cases, nat_test}
use Rattle.automata.specs.Automaton.{Over, over_append, run, run_append, Reachable, over_more}
use Rattle.automata.specs.Listing.{listing, listed, listing_bound}
use Rattle.automata.specs.Machine.{Machine, size, automaton, WellFormed, Numbered, Reduced, Canonical, Agree, SameWords, run_inside}
use Rattle.automata.specs.Smallest.{tabulated, tabulated_size, tabulated_formed, tabulated_numbered, tabulated_words, tabulated_agree}
use Rattle.automata.specs.Restrict.{Unmarked, restrict}

pub over_dec : (m : ℕ) (w : List ℕ) → Over m w ⊎ (Over m w → ⊥)
over_dec m [] = inl tt
over_dec m (c ∷ w) = go (lt_cases c m) (over_dec m w)
  where
    go : LtCases c m → Over m w ⊎ (Over m w → ⊥) → Over m (c ∷ w) ⊎ (Over m (c ∷ w) → ⊥)
    go (inl p) (inl o) = inl (p.0, o)
    go (inl p) (inr f) = inr (λ o. f o.1)
    go (inr p) r = inr (λ o. let b : c < m = o.0 in omega arith)

over_right : (m : ℕ) (u w : List ℕ) → Over m (u ++ w) → Over m w
over_right m [] w o = o
over_right m (c ∷ u) w o = over_right m u w o.1

module _ (m : ℕ) (M : Machine) (F : WellFormed (suc m) M) where
  bound : length (listing nat_test (automaton M) m (size M)) ≤ size M
  bound = listing_bound nat_test (automaton M) m (λ s. s) (size M)
      (λ s r. rw r.2 at (run_inside (suc m) M F zero r.0 F.some (over_more m r.0 r.1))) (λ s t _ _ e. e) (size M)

  pub restrict_formed : WellFormed m (restrict m M)
  unfolding restrict
  restrict_formed = tabulated_formed nat_test (automaton M) m (size M) bound

  pub restrict_numbered : Numbered m (restrict m M)
  unfolding restrict
  restrict_numbered = tabulated_numbered nat_test (automaton M) m (size M) bound

  -- It accepts the same plans.
  pub restrict_words : SameWords m (automaton M) (automaton (restrict m M))
  unfolding restrict
  restrict_words = tabulated_words nat_test (automaton M) m (size M) bound

  pub restrict_size : size (restrict m M) ≤ size M
  unfolding restrict
  restrict_size = rw (tabulated_size nat_test (automaton M) m (listing nat_test (automaton M) m (size M))) bound

-- THE RESTRICTION of a canonical machine that accepts no word with the mark is canonical over the letters.
module _ (m : ℕ) (M : Machine) (C : Canonical (suc m) M) (U : Unmarked m M) where
  -- what letters reach accepts no word with the mark
  marked : (p : ℕ) → Reachable m (automaton M) p → (w : List ℕ) → Over (suc m) w → (Over m w → ⊥) → (automaton M).accepting (run (automaton M) p w) ≡ false
  marked p (u, o, e) w v f = not_true _ λ t. f (over_right m u w (U (u ++ w) (over_append (suc m) u w (over_more m u o) v)
      (ap (automaton M).accepting (run_append (automaton M) zero u w ∙ ap (λ s. run (automaton M) s w) e) ∙ t)))

  pub restrict_canonical : Canonical m (restrict m M)
  unfolding restrict
  restrict_canonical = record { formed = restrict_formed m M C.formed; numbered = restrict_numbered m M C.formed; apart = apart }
    where
      L : List ℕ
      L = listing nat_test (automaton M) m (size M)

      inn : (i : ℕ) → i < size (tabulated nat_test (automaton M) m L) → i < length L
      inn i h = rw (tabulated_size nat_test (automaton M) m L) at h

      way : (i : ℕ) → i < length L → Reachable m (automaton M) (get_or L i zero)
      way i h = (listed nat_test (automaton M) m (size M)).reached i h

      low : (i : ℕ) → i < length L → get_or L i zero < size M
      low i h = let r = way i h in rw r.2 at (run_inside (suc m) M C.formed zero r.0 C.formed.some (over_more m r.0 r.1))

      up : (i : ℕ) → i < length L → Agree m (automaton M) (automaton (tabulated nat_test (automaton M) m L)) (get_or L i zero) i
      up i h = tabulated_agree nat_test (automaton M) m (size M) (bound m M C.formed) i h

      apart : Reduced m (tabulated nat_test (automaton M) m L)
      apart i j hi hj a = (listed nat_test (automaton M) m (size M)).distinct i j (inn i hi) (inn j hj)
          (C.apart (get_or L i zero) (get_or L j zero) (low i (inn i hi)) (low j (inn j hj)) λ w o. at w o (over_dec m w))
        where
          at : (w : List ℕ) → Over (suc m) w → Over m w ⊎ (Over m w → ⊥) → (automaton M).accepting (run (automaton M) (get_or L i zero) w) ≡ (automaton M).accepting (run (automaton M) (get_or L j zero) w)
          at w o (inl v) = up i (inn i hi) w v ∙ a w v ∙ sym (up j (inn j hj) w v)
          at w o (inr f) = marked (get_or L i zero) (way i (inn i hi)) w o f ∙ sym (marked (get_or L j zero) (way j (inn j hj)) w o f)
