-- Numbers that are backed and closed are the same for equivalent states; how a sweep makes them so.
use Rattle.std.specs.Prelude.{◌≡◌, true, ◌⊎◌, ◌≢◌, ◌∷◌, ℕ, zero, suc, ◌+◌, ◌≤◌, ◌<◌, eqb}
use Rattle.std.proofs.Common.{sym, ap, ◌∙◌, inl, inr, zero-le, le_refl, not-suc-le-zero, arith}
use Rattle.automata.specs.Basics.{LtCases, lt_cases, SameCases, same_cases, nat_test}
use Rattle.automata.specs.Machine.{Machine, automaton, Equivalent}
use Rattle.distance.specs.Distance.{behind, after, Nearest, Backed, Closed}

-- ---- behind one move

pub behind_same : (a b f : ℕ) → a ≡ b → behind a b f ≡ f
unfolding behind
behind_same a b f e = let t : eqb a b ≡ true = rw e (nat_test.whole b) in rw t

pub behind_other : (a b f : ℕ) → a ≢ b → behind a b f ≡ 0
unfolding behind
behind_other a b f d = go (same_cases nat_test a b)
  where
    go : SameCases nat_test a b → behind a b f ≡ 0
    go (inl e) = absurd (d e.0)
    go (inr e) = rw (behind, e.1)

abbrev Behind : ℕ → ℕ → ℕ → Type 0
Behind a b f = ((a ≡ b) × (behind a b f ≡ f)) ⊎ ((a ≢ b) × (behind a b f ≡ 0))

behind_cases : (a b f : ℕ) → Behind a b f
behind_cases a b f = go (same_cases nat_test a b)
  where
    go : SameCases nat_test a b → Behind a b f
    go (inl e) = inl (e.0, behind_same a b f e.0)
    go (inr e) = inr (e.0, behind_other a b f e.0)

-- less is known behind where the number is less
behind_mono : (a b f g : ℕ) → g ≤ f → behind a b g ≤ behind a b f
behind_mono a b f g h = go (behind_cases a b f) (behind_cases a b g)
  where
    go : Behind a b f → Behind a b g → behind a b g ≤ behind a b f
    go (inl x) (inl y) = omega (arith, x.1, y.1)
    go (inl x) (inr y) = absurd (y.0 x.0)
    go (inr x) (inl y) = absurd (x.0 y.0)
    go (inr x) (inr y) = omega (arith, x.1, y.1)

-- ---- the least of some letters

module _ (top : ℕ) (f : ℕ → ℕ) where
  pub near_start : (r : ℕ) → suc r ≡ top → Nearest top f 0 r
  near_start r e = record { most = omega arith; low = λ c h. absurd (not-suc-le-zero h); met = inl e }

  pub near_next : (c b x r : ℕ) → Nearest top f c b → f c ≡ x → (r ≤ b) × (r ≤ x) × ((r ≡ b) ⊎ (r ≡ x)) → Nearest top f (c + 1) r
  near_next c b x r u e l = record { most = omega (arith, u.most, l.0); low = λ j h. low j h (lt_cases j c); met = which l.2 u.met }
    where
      low : (j : ℕ) → j < c + 1 → LtCases j c → r ≤ f j
      low j h (inl y) = omega (arith, u.low j y.0, l.0)
      low j h (inr y) = let z : j ≡ c = omega arith in rw z (omega (arith, l.1, e))

      which : (r ≡ b) ⊎ (r ≡ x) → (suc b ≡ top) ⊎ ((j : ℕ) × (j < c) × (f j ≡ b)) → (suc r ≡ top) ⊎ ((j : ℕ) × (j < c + 1) × (f j ≡ r))
      which (inl y) (inl z) = inl (ap suc y ∙ z)
      which (inl y) (inr (j, h, z)) = inr (j, omega arith, z ∙ sym y)
      which (inr y) w = inr (c, omega arith, e ∙ sym y)

  -- nothing is less than 0
  pub near_zero : (m c : ℕ) → c < m → f c ≡ 0 → 0 < top → Nearest top f m 0
  near_zero m c h e z = record { most = z; low = λ j b. zero-le; met = inr (c, h, e) }

  pub near_done : (m c r : ℕ) → c ≡ m → Nearest top f c r → Nearest top f m r
  near_done m c r e u = rw e at u

-- ---- the number of one state is lowered

module _ (top n k : ℕ) (key : ℕ → ℕ) (step : ℕ → ℕ → ℕ) (far far' : ℕ → ℕ) (p x : ℕ)
    (same : far' p ≡ suc x) (other : (q : ℕ) → q ≢ p → far' q ≡ far q) (less : suc x < far p) where
  lower : (q : ℕ) → far' q ≤ far q
  lower q = go (same_cases nat_test q p)
    where
      go : SameCases nat_test q p → far' q ≤ far q
      go (inl e) = rw e.0 (omega (arith, same, less))
      go (inr e) = omega (arith, other q e.0)

  after_less : (q c : ℕ) → after key step far' q c ≤ after key step far q c
  after_less q c = behind_mono (key (step q c)) (key q) (far (step q c)) (far' (step q c)) (lower (step q c))

  pub lowered_backed : Backed top n k key step far → (suc x ≡ top) ⊎ ((c : ℕ) × (c < k) × (after key step far p c ≡ x)) → Backed top n k key step far'
  lowered_backed B m = record { most = λ q h. omega (arith, lower q, B.most q h); back = λ q h. back q h (same_cases nat_test q p) }
    where
      back : (q : ℕ) → q < n → SameCases nat_test q p → (far' q ≡ top) ⊎ ((c : ℕ) × (c < k) × (after key step far' q c < far' q))
      back q h (inl e) = rw e.0 (found m)
        where
          found : (suc x ≡ top) ⊎ ((c : ℕ) × (c < k) × (after key step far p c ≡ x)) → (far' p ≡ top) ⊎ ((c : ℕ) × (c < k) × (after key step far' p c < far' p))
          found (inl y) = inl (same ∙ y)
          found (inr (c, b, y)) = inr (c, b, omega (arith, same, y, after_less p c))
      back q h (inr e) = kept (B.back q h)
        where
          kept : (far q ≡ top) ⊎ ((c : ℕ) × (c < k) × (after key step far q c < far q)) → (far' q ≡ top) ⊎ ((c : ℕ) × (c < k) × (after key step far' q c < far' q))
          kept (inl y) = inl (other q e.0 ∙ y)
          kept (inr (c, b, y)) = inr (c, b, omega (arith, other q e.0, y, after_less q c))

-- ---- no letter shows a nearer change

pub unknown_backed : (top n k : ℕ) (key : ℕ → ℕ) (step : ℕ → ℕ → ℕ) (far : ℕ → ℕ) → ((p : ℕ) → p < n → far p ≡ top) → Backed top n k key step far
unknown_backed top n k key step far h = record { most = λ p b. omega (arith, h p b); back = λ p b. inl (h p b) }

module _ (k : ℕ) (key : ℕ → ℕ) (step : ℕ → ℕ → ℕ) (far : ℕ → ℕ) where
  pub closed_start : Closed k key step far 0
  closed_start = record { near = λ p c h. absurd (not-suc-le-zero h) }

  pub closed_more : (p : ℕ) → Closed k key step far p → ((c : ℕ) → c < k → far p ≤ suc (after key step far p c)) → Closed k key step far (p + 1)
  closed_more p L h = record { near = λ q c b v. go q c b v (lt_cases q p) }
    where
      go : (q c : ℕ) → q < p + 1 → c < k → LtCases q p → far q ≤ suc (after key step far q c)
      go q c b v (inl y) = L.near q c y.0 v
      go q c b v (inr y) = let e : q ≡ p = omega arith in rw e (h c v)

  pub closed_done : (m n : ℕ) → n ≤ m → Closed k key step far m → Closed k key step far n
  closed_done m n h L = record { near = λ p c b v. L.near p c (omega arith) v }

-- ---- equivalent states have the same number

module _ (top n k : ℕ) (key : ℕ → ℕ) (step : ℕ → ℕ → ℕ) (far : ℕ → ℕ) (B : Backed top n k key step far) (L : Closed k key step far n) (M : Machine)
    (inside : (p c : ℕ) → p < n → c < k → step p c < n) (steps : (p c : ℕ) → p < n → c < k → (automaton M).step p c ≡ step p c)
    (answers : (p q : ℕ) → p < n → q < n → Equivalent k M p q → key p ≡ key q) where
  move : (p q c : ℕ) → p < n → q < n → c < k → Equivalent k M p q → Equivalent k M (step p c) (step q c)
  move p q c h b v e = rw (← steps p c h v, ← steps q c b v) (λ w o. e (c ∷ w) (v, o))

  -- by induction on a bound of the first number
  no_farther : (m p q : ℕ) → far p ≤ m → p < n → q < n → Equivalent k M p q → far q ≤ far p
  no_farther zero p q z h b e = go (B.back p h)
    where
      go : (far p ≡ top) ⊎ ((c : ℕ) × (c < k) × (after key step far p c < far p)) → far q ≤ far p
      go (inl x) = omega (arith, x, B.most q b)
      go (inr (c, v, x)) = absurd (omega arith)
  no_farther (suc m) p q z h b e = go (B.back p h) (no_farther m)
    where
      go : (far p ≡ top) ⊎ ((c : ℕ) × (c < k) × (after key step far p c < far p))
          → ((p q : ℕ) → far p ≤ m → p < n → q < n → Equivalent k M p q → far q ≤ far p) → far q ≤ far p
      go (inl x) r = omega (arith, x, B.most q b)
      go (inr (c, v, x)) r = cases (behind_cases (key s) (key p) (far s)) (behind_cases (key t) (key q) (far t))
        where
          s : ℕ
          s = step p c

          t : ℕ
          t = step q c

          w : Equivalent k M s t
          w = move p q c h b v e

          keys : key s ≡ key t
          keys = answers s t (inside p c h v) (inside q c b v) w

          cases : Behind (key s) (key p) (far s) → Behind (key t) (key q) (far t) → far q ≤ far p
          cases (inl f) (inl g) = omega (arith, x, f.1, g.1, L.near q c b v, r s t (omega (arith, x, f.1, z)) (inside p c h v) (inside q c b v) w)
          cases (inl f) (inr g) = absurd (g.0 (sym keys ∙ f.0 ∙ answers p q h b e))
          cases (inr f) (inl g) = absurd (f.0 (keys ∙ g.0 ∙ sym (answers p q h b e)))
          cases (inr f) (inr g) = omega (arith, x, f.1, g.1, L.near q c b v)

  pub closed_alike : (p q : ℕ) → p < n → q < n → Equivalent k M p q → far p ≡ far q
  closed_alike p q h b e = omega (arith, no_farther (far p) p q (le_refl (far p)) h b e, no_farther (far q) q p (le_refl (far q)) b h (λ w o. sym (e w o)))
