-- The lent buffer around the code that a function writes.
use Rattle.std.specs.Prelude.{◌≡◌, List, ℕ, ◌≤◌, take, drop}

-- The code, which stood up to a, now stands up to b. What lies before a and what lies past b is as it was.
pub record Grown (o : List ℕ) (a : ℕ) (o' : List ℕ) (b : ℕ) : Type 0 where
  pub up : a ≤ b
  pub before : take a o' ≡ take a o
  pub past : drop b o' ≡ drop b o
