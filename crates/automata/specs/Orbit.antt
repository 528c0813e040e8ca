-- A node that silent moves lead to is led to by fewer silent moves than there are nodes.
use Rattle.std.specs.Prelude.{◌≡◌, refl}
use Rattle.std.proofs.Math.Path.{sym}
use Rattle.std.proofs.Common.{ap, ◌∙◌, inl, inr, le_refl, arith}
use Prim.Native.Nat.{ℕ, zero, suc, ◌+◌, ◌-◌, ◌≤◌, ◌<◌}
use Rattle.automata.specs.Basics.{LtCases, lt_cases, nat_test, find, find_at, find_least, tab, length_tab, get_or_tab, Inj, pigeonhole}
use Rattle.automata.specs.Subset.{NFA, epsilons}

module _ (H : NFA) (inside : (x : ℕ) → x < H.nodes → H.epsilon x < H.nodes) where
  epsilons_add : (a d x : ℕ) → epsilons H (a + d) x ≡ epsilons H d (epsilons H a x)
  epsilons_add zero d x = let z : 0 + d ≡ d = omega arith in ap (λ n. epsilons H n x) z
  epsilons_add (suc a) d x = let z : suc a + d ≡ suc (a + d) = omega arith in ap (λ n. epsilons H n x) z ∙ epsilons_add a d (H.epsilon x)

  epsilons_below : (i x : ℕ) → x < H.nodes → epsilons H i x < H.nodes
  epsilons_below zero x h = h
  epsilons_below (suc i) x h = epsilons_below i (H.epsilon x) (inside x h)

  module _ (x : ℕ) (h : x < H.nodes) (i : ℕ) where
    -- the first time that the node is met
    first : ℕ
    first = find nat_test (epsilons H i x) (tab (λ j. epsilons H j x) (suc i))

    first_least : (j : ℕ) → j < suc i → epsilons H j x ≡ epsilons H i x → first ≤ j
    unfolding first
    first_least j b e = find_least nat_test zero (epsilons H i x) (tab (λ j. epsilons H j x) (suc i)) j (rw (length_tab (λ j. epsilons H j x) (suc i)) b) (get_or_tab (λ j. epsilons H j x) (suc i) j zero b ∙ e)

    first_low : first ≤ i
    first_low = first_least i (le_refl (suc i)) refl

    first_at : epsilons H first x ≡ epsilons H i x
    unfolding first
    first_at =
        let b : first < suc i = omega (arith, first_low) in
        sym (get_or_tab (λ j. epsilons H j x) (suc i) first zero b) ∙ find_at nat_test zero (epsilons H i x) (tab (λ j. epsilons H j x) (suc i)) (rw (length_tab (λ j. epsilons H j x) (suc i)) b)

    -- until then no node is met twice
    apart : (a b : ℕ) → a < b → b ≤ first → epsilons H a x ≡ epsilons H b x → ⊥
    apart a b l h e =
        let d : ℕ = first - b in
        let z : b + d ≡ first = omega arith in
        let q : epsilons H (a + d) x ≡ epsilons H i x = epsilons_add a d x ∙ ap (epsilons H d) e ∙ sym (epsilons_add b d x) ∙ ap (λ n. epsilons H n x) z ∙ first_at in
        omega (arith, first_least (a + d) (omega (arith, first_low)) q)

    once : Inj (suc first) (λ a. epsilons H a x)
    once a b ha hb e = go (lt_cases a b) (lt_cases b a)
      where
        go : LtCases a b → LtCases b a → a ≡ b
        go (inl p) c = absurd (apart a b p.0 (omega arith) e)
        go (inr p) (inl q) = absurd (apart b a q.0 (omega arith) (sym e))
        go (inr p) (inr q) = omega arith

    pub met_early : (j : ℕ) × (j < H.nodes) × (epsilons H j x ≡ epsilons H i x)
    met_early = (first, pigeonhole H.nodes (suc first) (λ a. epsilons H a x) (λ a b. epsilons_below a x h) once, first_at)
