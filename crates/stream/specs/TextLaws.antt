-- Text behind text, and how many digits a number has.
use Rattle.std.specs.Prelude.{◌≡◌, List, [], ◌∷◌, ◌++◌, ℕ, zero, suc, ◌+◌, ◌-◌, ◌*◌, ◌^◌, ◌≤◌, ◌<◌, take}
use Rattle.std.proofs.Common.{ap, ◌∙◌, inl, inr, append_assoc, arith, length-append}
use native.Mathlib.Nat.{pow-le-pow_right, zero-lt-suc, mod-eq_of_lt}
use Rattle.automata.specs.Basics.{LtCases, lt_cases}
use Rattle.stream.specs.Text.{Put, places, decimal}

-- one text behind another
pub put_put : (a : List ℕ) (at : ℕ) (t b : List ℕ) (q : ℕ) (u c : List ℕ) (r : ℕ) → Put a at t b q → Put b q u c r → Put a at (t ++ u) c r
put_put a at t b q u c r x y = record {
  place = omega (arith, x.place, y.place, length-append t u);
  is = y.is ∙ ap (λ l. l ++ u) x.is ∙ append_assoc (take at a) t u;
}

pub put_as : (a : List ℕ) (at : ℕ) (t u b : List ℕ) (r : ℕ) → Put a at t b r → t ≡ u → Put a at u b r
put_as a at t u b r p e = rw e at p

-- ---- digits

grows : (j k : ℕ) → j ≤ k → 10 ^ j ≤ 10 ^ k
grows j k h = pow-le-pow_right (zero-lt-suc 9) h

-- n takes k decimal digits
abbrev pub IsDigitCount : ℕ → ℕ → Type 0
IsDigitCount n k = (1 ≤ k) × (n < 10 ^ k) × (1 < k → 10 ^ (k - 1) ≤ n)

-- a 64-bit number has at most 20 digits
pub digits_few : (n k : ℕ) → n < 2 ^ 64 → IsDigitCount n k → k ≤ 20
digits_few n k h f = go (lt_cases 20 k)
  where
    go : LtCases 20 k → k ≤ 20
    go (inl x) = absurd (omega (arith, f.2 (omega arith), grows 20 (k - 1) (omega arith)))
    go (inr x) = x.0

below_power : (k : ℕ) → k < 10 ^ k
below_power zero = omega arith
below_power (suc k) = let z : 10 ^ suc k ≡ 10 ^ k * 10 = native.Mathlib.Nat.pow-suc 10 k in omega (arith, below_power k, z)

module _ (n k : ℕ) (w : IsDigitCount n k) where
  from : (f j : ℕ) → 1 ≤ j → j ≤ k → k ≤ j + f → places f n j ≡ k
  from zero j a b c = omega arith
  from (suc f) j a b c = go (lt_cases n (10 ^ j)) (λ x. from f (suc j) (omega arith) x (omega arith))
    where
      go : LtCases n (10 ^ j) → (suc j ≤ k → places f n (suc j) ≡ k) → places (suc f) n j ≡ k
      go (inl x) r = rw x.1 (last (lt_cases j k))
        where
          last : LtCases j k → j ≡ k
          last (inl y) = absurd (omega (arith, x.0, w.2 (omega (arith, y.0)), grows j (k - 1) (omega (arith, y.0))))
          last (inr y) = omega (arith, y.0)
      go (inr x) r = rw x.1 (r (more (lt_cases j k)))
        where
          more : LtCases j k → suc j ≤ k
          more (inl y) = y.0
          more (inr y) = absurd (omega (arith, x.0, w.1, grows k j y.0))

  few : LtCases 1 k → k ≤ 1 + n
  few (inl x) = omega (arith, w.2 x.0, below_power (k - 1))
  few (inr x) = omega (arith, x.0)

  pub fewest_places : places n n 1 ≡ k
  fewest_places = from n 1 (omega arith) w.0 (few (lt_cases 1 k))

-- a number below 10 is its digit
pub one_digit : (n : ℕ) → n < 10 → decimal n ≡ (48 + n) ∷ []
one_digit n h =
    let z : places n n 1 ≡ 1 = fewest_places n 1 (omega arith, omega arith, λ x. absurd (omega arith)) in
    rw (z, mod-eq_of_lt h)
