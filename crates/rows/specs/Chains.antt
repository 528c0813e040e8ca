-- Rows found by their hash: rows with the same hash are chained. What looking one up answers, and what putting one behind the others leaves.
use Rattle.std.specs.Prelude.{◌≡◌, List, ℕ, ◌+◌, ◌≤◌, ◌<◌, get_or, Option, Some, None}
use Rattle.rows.specs.Rows.{row_at}
use Rattle.rows.specs.Sums.{row_hash}

-- x is 1 more than the last place below n whose number is b, or 0 where there is none.
pub record Last (number : ℕ → ℕ) (n b x : ℕ) : Type 0 where
  pub within : x ≤ n
  pub is : (i : ℕ) → i + 1 ≡ x → number i ≡ b
  pub none : (i : ℕ) → x ≤ i → i < n → number i ≡ b → ⊥

-- Rows with the same hash are chained, the last first: a head for each hash, a link for each row.
pub record Chained (w count : ℕ) (rows links heads : List ℕ) : Type 0 where
  pub head : (b : ℕ) → b < 512 → Last (λ i. row_hash (row_at w i rows)) count b (get_or heads b 0)
  pub link : (j : ℕ) → j < count → Last (λ i. row_hash (row_at w i rows)) j (row_hash (row_at w j rows)) (get_or links j 0)

-- A row is one of the first count, or none of them.
abbrev pub Looked : ℕ → ℕ → List ℕ → List ℕ → Option ℕ → Type 0
Looked w count rows row (Some j) = (j < count) × (row_at w j rows ≡ row)
Looked w count rows row None = (j : ℕ) → j < count → row_at w j rows ≡ row → ⊥

-- The row stands behind the first count, which are unchanged.
pub record Appended (w count : ℕ) (rows row rows' : List ℕ) : Type 0 where
  pub before : (i : ℕ) → i < count → row_at w i rows' ≡ row_at w i rows
  pub here : row_at w count rows' ≡ row
