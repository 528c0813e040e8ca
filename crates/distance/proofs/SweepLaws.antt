-- The sweeps that find how far a change is: the laws of distances for numbers in a list.
use Rattle.std.specs.Prelude.{◌≡◌, Bool, true, false, not, ◌||◌, ◌⊎◌, ◌≢◌, List, ℕ, suc, ◌+◌, ◌≤◌, ◌<◌, get_or, set, min, eqb}
use Rattle.std.proofs.Common.{refl, ap, ◌∙◌, inl, inr, arith, true≢false, get_or-set_same, get_or-set_other, length-set}
use Rattle.std.proofs.lemmas.Bool.{false≢true}
use Rattle.automata.specs.Basics.{LtCases, lt_cases, SameCases, same_cases, nat_test}
use Rattle.distance.specs.Distance.{after}
use Rattle.distance.specs.Changes.{Stepping, far, Near, Unknown, Numbers, Lowered, Swept, Settled}
use Rattle.distance.proofs.DistanceLaws as laws

-- ---- the least of some letters

module _ (S : Stepping) (l : List ℕ) (p : ℕ) where
  pub near_start : (r : ℕ) → suc r ≡ S.states → Near S l p 0 r
  near_start r e = record { least = laws.near_start S.states (after S.key S.step (far l) p) r e }

  module _ (c t : ℕ) (a : Bool) (e : t ≡ S.step p c) (i : a ≡ eqb (S.key t) (S.key p)) where
    -- a letter that changes the answer
    pub near_change : c < S.letters → a ≡ false → 0 < S.states → Near S l p S.letters 0
    near_change h n z = record { least = laws.near_zero S.states (after S.key S.step (far l) p) S.letters c h (rw (← e) (laws.behind_other (S.key t) (S.key p) (far l t) (other (same_cases nat_test (S.key t) (S.key p))))) z }
      where
        other : SameCases nat_test (S.key t) (S.key p) → S.key t ≢ S.key p
        other (inl x) = absurd (true≢false (rw (i, x.1) at n))
        other (inr x) = x.0

    -- a letter that does not
    pub near_next : (b r : ℕ) → a ≡ true → Near S l p c b → r ≡ min b (get_or l t 0 + 1) → Near S l p (c + 1) r
    near_next b r n u m = record { least = laws.near_next S.states (after S.key S.step (far l) p) c b (get_or l t 0 + 1) r u.least behind (omega arith, omega arith, either (lt_cases b (get_or l t 0 + 1))) }
      where
        same : SameCases nat_test (S.key t) (S.key p) → S.key t ≡ S.key p
        same (inl x) = x.0
        same (inr x) = absurd (false≢true (rw (i, x.1) at n))

        behind : after S.key S.step (far l) p c ≡ get_or l t 0 + 1
        behind = rw (← e) (laws.behind_same (S.key t) (S.key p) (far l t) (same (same_cases nat_test (S.key t) (S.key p))) ∙ omega arith)

        either : LtCases b (get_or l t 0 + 1) → (r ≡ b) ⊎ (r ≡ get_or l t 0 + 1)
        either (inl x) = inl (omega (arith, x.0))
        either (inr x) = inr (omega (arith, x.0))

-- ---- one state

module _ (S : Stepping) (l : List ℕ) (N : Numbers S l) (p x : ℕ) (h : p < S.states) (u : Near S l p S.letters x) where
  pub lowered : x < get_or l p 0 → Lowered S l (set l p x) p true
  lowered b = record {
    numbers = record {
      long = length-set l p x ∙ N.long;
      backed = laws.lowered_backed S.states S.states S.letters S.key S.step (far l) (far (set l p x)) p x (ap suc (get_or-set_same l p x 0 (omega (arith, N.long))))
          (λ q d. ap suc (get_or-set_other l p q x 0 d)) (omega (arith, b)) N.backed u.least.met;
    };
    yes = λ z. (x, refl, b, shown u.least.met);
    no = λ z. absurd (true≢false z);
  }
    where
      -- the number is less than that of a change which is not known
      shown : (suc x ≡ S.states) ⊎ ((c : ℕ) × (c < S.letters) × (after S.key S.step (far l) p c ≡ x)) → (c : ℕ) × (c < S.letters) × (after S.key S.step (far l) p c ≡ x)
      shown (inl e) = absurd (omega (arith, e, b, N.backed.most p h))
      shown (inr m) = m

  pub stays : get_or l p 0 ≤ x → Lowered S l l p false
  stays b = record { numbers = N; yes = λ z. absurd (false≢true z); no = λ z. (refl, λ c v. omega (arith, b, u.least.low c v)) }

-- ---- the sweep up

module _ (S : Stepping) (l : List ℕ) where
  pub swept_start : Numbers S l → (changed : Bool) → Swept S l 0 changed
  swept_start N changed = record { numbers = N; closed = λ z. laws.closed_start S.letters S.key S.step (far l) }

  pub swept_next : (l' : List ℕ) (p : ℕ) (changed r : Bool) → Swept S l p changed → Lowered S l l' p r → Swept S l' (p + 1) (changed || r)
  swept_next l' p true r W L = record { numbers = L.numbers; closed = λ z. absurd (true≢false z) }
  swept_next l' p false true W L = record { numbers = L.numbers; closed = λ z. absurd (true≢false z) }
  swept_next l' p false false W L = record { numbers = L.numbers; closed = λ z. rw (L.no refl).0 (laws.closed_more S.letters S.key S.step (far l) p (W.closed refl) (L.no refl).1) }

  -- ---- the numbers

  pub unknown : Unknown S l → Numbers S l
  unknown U = record { long = U.long; backed = laws.unknown_backed S.states S.states S.letters S.key S.step (far l) U.none }

  pub settled : (r : Bool) → not r ≡ true → Swept S l S.states r → Settled S l true
  settled true z W = absurd (false≢true z)
  settled false z W = record { numbers = W.numbers; closed = λ _. W.closed refl }

  pub unsettled : Numbers S l → Settled S l false
  unsettled N = record { numbers = N; closed = λ z. absurd (false≢true z) }
