-- Sums by weights: a row that is changed in one place, an empty row, one entry; and weights some letters before: one letter more on either side, and how many
-- words there are.
use Rattle.std.specs.Prelude.{◌≡◌, refl, List, length, set}
use Rattle.std.proofs.Common.{sym, ap₂, ◌∙◌, inl, inr, le_refl, not-suc-le-zero, mul-one, mul-zero, mul-suc, one-mul, pow-suc, add-le-add, length-set, get_or-set_same, get_or-set_other}
use Rattle.std.proofs.Math.Path.{ap}
use Prim.Native.Nat.{ℕ, zero, suc, ◌+◌, ◌*◌, ◌^◌, ◌≤◌, ◌<◌}
use Rattle.std.proofs.Math.Nat.{zero-mul, add-mul, pow-zero}
use native.Mathlib.Omega.{arith}
use Rattle.std.proofs.Math.ListN.{get_or}
use Rattle.automata.specs.Basics.{LtCases, lt_cases}
use Rattle.arrivals.specs.Weights.{sum_below, weighed, behind, before, earlier, each}

-- ---- sums

pub sum_alike : (f g : ℕ → ℕ) (n : ℕ) → ((i : ℕ) → i < n → f i ≡ g i) → sum_below f n ≡ sum_below g n
sum_alike f g zero h = refl
sum_alike f g (suc n) h = ap₂ ◌+◌ (sum_alike f g n (λ i b. h i (omega arith))) (h n (le_refl (suc n)))

pub sum_most : (f g : ℕ → ℕ) (n : ℕ) → ((i : ℕ) → f i ≤ g i) → sum_below f n ≤ sum_below g n
sum_most f g zero h = omega arith
sum_most f g (suc n) h = add-le-add (sum_most f g n h) (h n)

-- One below n is less than the sum below n, and with it the sum below it.
pub sum_at : (f : ℕ → ℕ) (n i : ℕ) → i < n → sum_below f i + f i ≤ sum_below f n
sum_at f zero i h = absurd (not-suc-le-zero h)
sum_at f (suc n) i h = go (lt_cases i n) (sum_at f n i)
  where
    go : LtCases i n → (i < n → sum_below f i + f i ≤ sum_below f n) → sum_below f i + f i ≤ sum_below f n + f n
    go (inl p) r = omega (arith, r p.0)
    go (inr p) r = let z : i ≡ n = omega arith in rw z (le_refl (sum_below f n + f n))

-- the first one apart
pub sum_front : (f : ℕ → ℕ) (n : ℕ) → sum_below f (suc n) ≡ f 0 + sum_below (λ i. f (suc i)) n
sum_front f zero = omega arith
sum_front f (suc n) = omega (arith, sum_front f n)

sum_none : (n : ℕ) → sum_below (λ _. 0) n ≡ 0
sum_none zero = refl
sum_none (suc n) = omega (arith, sum_none n)

sum_each : (x n : ℕ) → sum_below (λ _. x) n ≡ x * n
sum_each x zero = sym (mul-zero x)
sum_each x (suc n) = omega (arith, sum_each x n, mul-suc x n)

-- ---- a row

module _ (w : ℕ → ℕ) (row : List ℕ) where
  -- so many more in one place
  module _ (t v : ℕ) (h : t < length row) where
    changed : List ℕ
    changed = set row t (get_or row t 0 + v)

    ahead : (n : ℕ) → n ≤ t → sum_below (λ p. get_or changed p 0 * w p) n ≡ sum_below (λ p. get_or row p 0 * w p) n
    unfolding changed
    ahead n b = sum_alike _ _ n (λ p c. ap (λ x. x * w p) (get_or-set_other row t p (get_or row t 0 + v) 0 (λ e. absurd (omega arith))))

    past : (n : ℕ) → t < n → sum_below (λ p. get_or changed p 0 * w p) n ≡ sum_below (λ p. get_or row p 0 * w p) n + v * w t
    unfolding changed
    past zero b = absurd (not-suc-le-zero b)
    past (suc n) b = go (lt_cases t n) (past n)
      where
        go : LtCases t n → (t < n → sum_below (λ p. get_or changed p 0 * w p) n ≡ sum_below (λ p. get_or row p 0 * w p) n + v * w t)
            → sum_below (λ p. get_or changed p 0 * w p) (suc n) ≡ sum_below (λ p. get_or row p 0 * w p) (suc n) + v * w t
        go (inl c) r =
            let e : get_or changed n 0 * w n ≡ get_or row n 0 * w n = ap (λ x. x * w n) (get_or-set_other row t n (get_or row t 0 + v) 0 (λ e. absurd (omega (arith, c.0)))) in
            omega (arith, r c.0, e)
        go (inr c) r =
            let z : n ≡ t = omega arith in
            let e : get_or changed t 0 * w t ≡ get_or row t 0 * w t + v * w t = ap (λ x. x * w t) (get_or-set_same row t (get_or row t 0 + v) 0 h) ∙ add-mul (get_or row t 0) v (w t) in
            rw z (omega (arith, ahead t (le_refl t), e))

    pub weighed_more : weighed w (set row t (get_or row t 0 + v)) ≡ weighed w row + v * w t
    unfolding weighed changed
    weighed_more = ap (sum_below (λ p. get_or changed p 0 * w p)) (length-set row t (get_or row t 0 + v)) ∙ past (length row) h

  -- no words
  pub weighed_none : ((p : ℕ) → p < length row → get_or row p 0 ≡ 0) → weighed w row ≡ 0
  unfolding weighed
  weighed_none f = sum_alike _ (λ _. 0) (length row) (λ p b. ap (λ x. x * w p) (f p b) ∙ zero-mul (w p)) ∙ sum_none (length row)

-- An entry is not above the row's sum.
pub weighed_at : (row : List ℕ) (t : ℕ) → t < length row → get_or row t 0 ≤ weighed each row
unfolding weighed
weighed_at row t h = omega (arith, sum_at (λ p. get_or row p 0 * 1) (length row) t h, mul-one (get_or row t 0))

-- ---- moves

pub behind_each : (bs : List ℕ) (at m : ℕ) → behind bs at m each ≡ m
unfolding behind
behind_each bs at m = sum_each 1 m ∙ one-mul m

-- One letter more in front is one letter more behind.
pub earlier_front : (bs : List ℕ) (m k : ℕ) (w : ℕ → ℕ) → earlier bs m (suc k) w ≡ before bs m (earlier bs m k w)
earlier_front bs m zero w = refl
earlier_front bs m (suc k) w = earlier_front bs m k (before bs m w)

-- HOW MANY WORDS of k letters there are.
pub earlier_each : (bs : List ℕ) (m k p : ℕ) → earlier bs m k each p ≡ m ^ k
unfolding behind
earlier_each bs m zero p = sym (pow-zero m)
earlier_each bs m (suc k) p = ap (λ f. f p) (earlier_front bs m k each) ∙ many (earlier_each bs m k)
  where
    -- each of the m states behind p has as many
    many : ((q : ℕ) → earlier bs m k each q ≡ m ^ k) → before bs m (earlier bs m k each) p ≡ m ^ suc k
    many f = sum_alike _ (λ _. m ^ k) m (λ i b. f _) ∙ sum_each (m ^ k) m ∙ sym (pow-suc m k)
