-- The number by which a row is looked up: the sum of its bytes by the weights of their places.
use Rattle.std.specs.Prelude.{◌≡◌, List, [], ◌∷◌, ℕ, suc, ◌+◌, ◌*◌, ◌/◌, ◌%◌, ◌≤◌, length, get_or}
use Rattle.rows.specs.Rows.{bit, flag_at}

-- every flag is 0 or 1
abbrev pub Bits : List ℕ → Type 0
Bits row = (x : ℕ) → get_or row x 0 ≡ bit (flag_at row x)

-- the weight of a place
unfoldable pub weight : ℕ → ℕ
weight i = ((i * 40503 + 12347) * i + 30011) % 65536

-- the sum of bytes that stand from the place i on
unfoldable pub row_sum : ℕ → List ℕ → ℕ
row_sum i [] = 0
row_sum i (x ∷ r) = x * weight i + row_sum (suc i) r

-- a number that equal rows share
unfoldable pub row_hash : List ℕ → ℕ
row_hash r = row_sum 0 r / 64 % 512

-- A row of flags from the place `first` on, and its sum.
pub record Summed (first : ℕ) (row : List ℕ) (sum : ℕ) : Type 0 where
  pub is : sum ≡ row_sum first row
  pub bits : Bits row
  pub small : first + length row ≤ 65540
