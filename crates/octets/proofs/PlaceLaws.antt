-- What the first place of a byte from a place on says of the bytes before it and at it.
use Rattle.std.specs.Prelude.{◌≡◌, ◌≢◌, List, ℕ, ◌+◌, ◌-◌, ◌≤◌, ◌<◌, length, get_or, drop}
use Rattle.std.proofs.Common.{◌∙◌, sym, ap, arith, length-drop}
use Rattle.std.proofs.lemmas.List.{get_or-drop}
use Rattle.automata.specs.Basics.{nat_test, find, find_le, find_at, find_least}

module _ (s : List ℕ) (at b e : ℕ) (h : at ≤ length s) (q : e ≡ at + find nat_test b (drop at s)) where
  pub place_within : (at ≤ e) × (e ≤ length s)
  place_within = (omega arith, omega (arith, find_le nat_test b (drop at s), length-drop at s))

  pub place_before : (j : ℕ) → at ≤ j → j < e → get_or s j 0 ≢ b
  place_before j l m x =
      let z : at + (j - at) ≡ j = omega arith in
      let y : get_or (drop at s) (j - at) 0 ≡ b = get_or-drop at s (j - at) 0 ∙ ap (λ i. get_or s i 0) z ∙ x in
      omega (arith, find_least nat_test 0 b (drop at s) (j - at) (omega (arith, length-drop at s, place_within.1)) y)

  pub place_found : e < length s → get_or s e 0 ≡ b
  place_found l = ap (λ i. get_or s i 0) q ∙ sym (get_or-drop at s (find nat_test b (drop at s)) 0) ∙ find_at nat_test 0 b (drop at s) (omega (arith, length-drop at s))
