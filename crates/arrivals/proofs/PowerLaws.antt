-- A power is tested factor by factor.
use mathlib.Core.Path.{◌≡◌, sym, ap}
use mathlib.Core.Bool.{true, false, not}
use mathlib.Core.Logic.{inl, inr}
use Prim.Native.Nat.{ℕ, zero, suc, ◌*◌, ◌^◌, ◌≤◌, ◌<◌}
use native.Mathlib.Nat.{pow-suc, pow-zero, mul-zero, pow-le-pow_right, le_trans}
use native.Mathlib.Omega.{arith}
use Rattle.automata.specs.Basics.{LtCases, lt_cases, lt_ltb, ltb_false}
use Rattle.automata.specs.Decide.{contradict}
use Rattle.arrivals.specs.Weights.{most_words, fits}

-- a number that fits, or not
pub fits_most : (n : ℕ) → n ≤ most_words → true ≡ fits n
unfolding fits
fits_most n h = sym (ap not (ltb_false most_words n h))

pub fits_not : (n : ℕ) → most_words < n → false ≡ fits n
unfolding fits
fits_not n h = sym (ap not (lt_ltb most_words n h))

pub fits_true : (n : ℕ) → true ≡ fits n → n ≤ most_words
unfolding fits
fits_true n e = go (lt_cases most_words n)
  where
    go : LtCases most_words n → n ≤ most_words
    go (inl p) = contradict (sym e) (ap not p.1)
    go (inr p) = p.0

pub fits_false : (n : ℕ) → false ≡ fits n → most_words < n
unfolding fits
fits_false n e = go (lt_cases most_words n)
  where
    go : LtCases most_words n → most_words < n
    go (inl p) = p.0
    go (inr p) = contradict (ap not p.1) (sym e)

-- no letters
pub power_none : (k : ℕ) → 0 ^ k ≤ most_words
power_none zero = omega (arith, pow-zero 0)
power_none (suc k) = omega (arith, pow-suc 0 k, mul-zero (0 ^ k))

-- Where a power fits, so do those of fewer factors.
pub powers_fit : (m k : ℕ) → m ^ k ≤ most_words → (j : ℕ) → j ≤ k → m ^ j ≤ most_words
powers_fit m k h j b = go (lt_cases 0 m)
  where
    go : LtCases 0 m → m ^ j ≤ most_words
    go (inl p) = le_trans (pow-le-pow_right p.0 b) h
    go (inr p) = let z : m ≡ 0 = omega arith in rw z (power_none j)

-- A product on the way that does not fit
pub power_past : (m i k power : ℕ) → power ≡ m ^ i → most_words < power * m → i < k → most_words < m ^ k
power_past m i k power e b c = go (lt_cases 0 m)
  where
    go : LtCases 0 m → most_words < m ^ k
    go (inl p) = let x : power * m ≤ m ^ k = rw (e, ← pow-suc m i) (pow-le-pow_right p.0 c) in omega (arith, b, x)
    go (inr p) = let z : m ≡ 0 = omega arith in absurd (omega (arith, b, ap (λ x. power * x) z, mul-zero power))
