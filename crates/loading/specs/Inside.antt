-- Test 23: each move is to a state.
use Rattle.std.specs.Prelude.{◌≡◌, Bool, true, false, List, ℕ, ◌≤◌, ◌<◌, length, get_or}

-- The answer r is exact: each move is to a state below n, or here is one that is not.
pub record InsideExactly (n : ℕ) (bs : List ℕ) (r : Bool) : Type 0 where
  pub all : r ≡ true → (q : ℕ) → q < length bs → get_or bs q 0 < n
  pub past : r ≡ false → (q : ℕ) × (q < length bs) × (n ≤ get_or bs q 0)
