-- Pairs of states as rows of four bytes: their sum, and their numbers.
use mathlib.Core.Path.{◌≡◌, ap, ap₂, ◌∙◌}
use mathlib.Core.List.{List, [], ◌∷◌}
use Prim.Native.Nat.{ℕ, ◌+◌, ◌*◌, ◌/◌, ◌%◌, ◌<◌}
use native.Mathlib.Omega.{arith}
use lib.ListN.{get_or, drop}
use lib.Seq.{get_or-take, get_or-drop}
use Rattle.rows.specs.Rows.{row_at, number_at, pair_row}
use Rattle.rows.specs.Sums.{weight, row_sum}
use Rattle.rows.proofs.SumLaws.{sum_two, sum_nothing}

-- the sum of a pair's row
pub pair_sum : (x y high total : ℕ) → high ≡ y % 256 * weight 2 + (y / 256 * weight 3 + 0) → total ≡ x % 256 * weight 0 + (x / 256 * weight 1 + high) → total ≡ row_sum 0 (pair_row x y)
pair_sum x y high total h t =
    let two : high ≡ row_sum 2 (y % 256 ∷ y / 256 ∷ []) = h ∙ ap (λ (v : ℕ). y % 256 * weight 2 + (y / 256 * weight 3 + v)) (sum_nothing 4) ∙ sum_two 2 (y % 256) (y / 256) [] in
    t ∙ ap (λ (v : ℕ). x % 256 * weight 0 + (x / 256 * weight 1 + v)) two ∙ sum_two 0 (x % 256) (x / 256) (y % 256 ∷ y / 256 ∷ [])

pub four_at : (rows : List ℕ) (j i : ℕ) → i < 4 → get_or (row_at 4 j rows) i 0 ≡ get_or rows (j * 4 + i) 0
four_at rows j i h = get_or-take 4 (drop (j * 4) rows) i 0 h ∙ get_or-drop (j * 4) rows i 0

pub number_left : (rows : List ℕ) (j : ℕ) → number_at (row_at 4 j rows) 0 ≡ number_at rows (j * 4)
number_left rows j = let z : j * 4 + 0 ≡ j * 4 = omega arith in ap₂ (λ (u v : ℕ). u + 256 * v) (four_at rows j 0 (omega arith) ∙ ap (λ (n : ℕ). get_or rows n 0) z) (four_at rows j 1 (omega arith))

pub number_right : (rows : List ℕ) (j : ℕ) → number_at (row_at 4 j rows) 2 ≡ number_at rows (j * 4 + 2)
number_right rows j = let z : j * 4 + 3 ≡ j * 4 + 2 + 1 = omega arith in ap₂ (λ (u v : ℕ). u + 256 * v) (four_at rows j 2 (omega arith)) (four_at rows j 3 (omega arith) ∙ ap (λ (n : ℕ). get_or rows n 0) z)
