-- The sum of a row: it fits, and goes on flag by flag.
use mathlib.Core.Path.{◌≡◌, refl, sym, ap, ◌∙◌}
use mathlib.Core.Bool.{true, false}
use mathlib.Core.Logic.{◌⊎◌, inl, inr}
use mathlib.Core.List.{List, [], ◌∷◌}
use Prim.Native.Nat.{ℕ, zero, suc, ◌+◌, ◌*◌, ◌/◌, ◌%◌, ◌≤◌, ◌<◌}
use native.Mathlib.Nat.{mul-le-mul, not-suc-le-zero, le_of_suc-le-suc, zero-mul}
use native.Mathlib.Omega.{arith}
use lib.ListN.{length, get_or, set, replicate, length-set, length-replicate}
use lib.Seq.{ext_get_or, get_or-set_same, get_or-set_other}
use Rattle.automata.specs.Basics.{SameCases, same_cases, nat_test}
use Rattle.automata.specs.Booleans.{bool_cases}
use Rattle.rows.specs.Rows.{bit, flag_at}
use Rattle.rows.specs.Sums.{Bits, weight, row_sum, row_hash, Summed}
use Rattle.rows.proofs.BitLaws.{bits_set}

pub weight_small : (i : ℕ) → weight i < 65536
unfolding weight
weight_small i = omega arith

-- a weight fits while it is made
pub weight_fits : (i : ℕ) → i < 65540 → (i * 40503 + 12347) * i ≤ 200000000000000
weight_fits i h = omega (arith, mul-le-mul {n₁ = i * 40503 + 12347} {m₁ = i} {n₂ = 2654578967} {m₂ = 65540} (omega arith) (omega arith))

pub weight_is : (i : ℕ) → ((i * 40503 + 12347) * i + 30011) % 65536 ≡ weight i
unfolding weight
weight_is i = refl

-- ---- one flag more

later : (a b c d : ℕ) → b ≡ c + d → a + b ≡ a + c + d
later a b c d e = omega arith

pub sum_set : (j i : ℕ) (r : List ℕ) → i < length r → get_or r i 0 ≡ 0 → row_sum j (set r i 1) ≡ row_sum j r + weight (j + i)
unfolding row_sum
sum_set j i [] h e = absurd (not-suc-le-zero h)
sum_set j zero (x ∷ r) h e =
    let z : j ≡ j + 0 = omega arith in
    rw (e, zero-mul (weight j)) (first (weight j) (row_sum (suc j) r) ∙ ap (λ (v : ℕ). 0 + row_sum (suc j) r + weight v) z)
  where
    first : (a b : ℕ) → 1 * a + b ≡ 0 + b + a
    first a b = omega arith
sum_set j (suc i) (x ∷ r) h e =
    let z : suc j + i ≡ j + suc i = omega arith in
    later (x * weight j) (row_sum (suc j) (set r i 1)) (row_sum (suc j) r) (weight (j + suc i)) (sum_set (suc j) i r (le_of_suc-le-suc h) e ∙ ap (λ (v : ℕ). row_sum (suc j) r + weight v) z)

pub sum_none : (j n : ℕ) → row_sum j (replicate n 0) ≡ 0
unfolding row_sum
sum_none j zero = refl
sum_none j (suc n) = let z : 0 * weight j ≡ 0 = zero-mul (weight j) in omega (arith, z, sum_none (suc j) n)

-- ---- the sum of flags fits

small : (x w : ℕ) → x ≤ 1 → w < 65536 → x * w ≤ 65536
small x w h b = omega (arith, mul-le-mul {n₁ = x} {m₁ = w} {n₂ = 1} {m₂ = 65535} h (omega arith))

bit_small : (x : ℕ) (l : List ℕ) → get_or l x 0 ≡ bit (flag_at l x) → get_or l x 0 ≤ 1
bit_small x l e = go (bool_cases (flag_at l x))
  where
    go : (flag_at l x ≡ true) ⊎ (flag_at l x ≡ false) → get_or l x 0 ≤ 1
    go (inl t) = rw (e, t) (omega arith)
    go (inr t) = rw (e, t) (omega arith)

pub sum_small : (j : ℕ) (r : List ℕ) → Bits r → row_sum j r ≤ length r * 65536
unfolding row_sum
sum_small j [] b = omega arith
sum_small j (x ∷ r) b = omega (arith, small x (weight j) (bit_small 0 (x ∷ r) (b 0)) (weight_small j), sum_small (suc j) r (λ i. b (suc i)))

-- ---- rows of flags with their sums

pub bits_none : (n : ℕ) → Bits (replicate n 0)
bits_none n x = rw (all n x 0)
  where
    all : (m y v : ℕ) → get_or (replicate m v) y v ≡ v
    all zero y v = refl
    all (suc m) zero v = refl
    all (suc m) (suc y) v = all m y v

-- no flag is set
pub summed_none : (first n : ℕ) (r : List ℕ) → r ≡ replicate n 0 → first + n ≤ 65540 → Summed first r 0
summed_none first n r e h = rw e (record { is = sym (sum_none first n); bits = bits_none n; small = rw (length-replicate {A = ℕ} n 0) h })

pub summed_fits : {first : ℕ} {row : List ℕ} {sum : ℕ} → Summed first row sum → sum ≤ 4295229440
summed_fits {first} {row} S = omega (arith, S.is, sum_small first row S.bits, S.small)

-- the flag is set already
pub flag_there : {first : ℕ} {row : List ℕ} {sum : ℕ} (i : ℕ) → Summed first row sum → i < length row → (get_or row i 0 ≡ 0 → ⊥) → row ≡ set row i 1
flag_there {first} {row} i S h o = ext_get_or 0 row (set row i 1) (sym (length-set row i 1)) (λ t b. go t (same_cases nat_test t i))
  where
    one : get_or row i 0 ≡ 1
    one = omega (arith, bit_small i row (S.bits i), o)

    go : (t : ℕ) → SameCases nat_test t i → get_or row t 0 ≡ get_or (set row i 1) t 0
    go t (inl p) = rw (p.0, get_or-set_same row i 1 0 h) one
    go t (inr p) = sym (get_or-set_other row i t 1 0 p.0)

-- the flag is set now
pub flag_more : {first : ℕ} {row : List ℕ} {sum : ℕ} (i w : ℕ) → Summed first row sum → i < length row → get_or row i 0 ≡ 0 → w ≡ weight (first + i) → Summed first (set row i 1) (sum + w)
flag_more {first} {row} {sum} i w S h e y = record {
  is = rw (S.is, y) (sym (sum_set first i row h e));
  bits = bits_set row i h S.bits;
  small = rw (length-set row i 1) S.small;
}

-- ---- rows with numbers

pub hash_is : (row : List ℕ) (sum h : ℕ) → sum ≡ row_sum 0 row → h ≡ sum / 64 % 512 → h ≡ row_hash row
unfolding row_hash
hash_is row sum h e y = y ∙ ap (λ (v : ℕ). v / 64 % 512) e

pub sum_two : (first u v : ℕ) (r : List ℕ) → u * weight first + (v * weight (first + 1) + row_sum (first + 2) r) ≡ row_sum first (u ∷ v ∷ r)
unfolding row_sum
sum_two first u v r =
    let y : first + 1 ≡ suc first = omega arith in
    let z : first + 2 ≡ suc (suc first) = omega arith in
    rw (y, z)

pub sum_nothing : (j : ℕ) → 0 ≡ row_sum j []
unfolding row_sum
sum_nothing j = refl

-- a number's part of a sum is small
pub number_small : (p first sum r : ℕ) → p < 65536 → r ≡ p % 256 * weight first + (p / 256 * weight (first + 1) + sum) → r ≤ 33422850 + sum
number_small p first sum r h e = omega (
  arith,
  e,
  mul-le-mul {n₁ = p % 256} {m₁ = weight first} {n₂ = 255} {m₂ = 65535} (omega arith) (omega (arith, weight_small first)),
  mul-le-mul {n₁ = p / 256} {m₁ = weight (first + 1)} {n₂ = 255} {m₂ = 65535} (omega arith) (omega (arith, weight_small (first + 1))),
)
