-- Text in a lent buffer, and a number as text.
use Rattle.std.specs.Prelude.{◌≡◌, List, [], ◌∷◌, ◌++◌, ℕ, zero, suc, ◌+◌, ◌/◌, ◌%◌, ◌^◌, ◌≤◌, length, take, ltb}
use Rattle.automata.specs.Booleans.{choose}

-- The text stands in the buffer from the place `at` on, behind what was there, and r is the place after it.
pub record Put (out : List ℕ) (at : ℕ) (text out' : List ℕ) (r : ℕ) : Type 0 where
  pub place : r ≡ at + length text
  pub is : take r out' ≡ take at out ++ text

-- the last k decimal digits of n, the most significant first
abbrev pub last_digits : ℕ → ℕ → List ℕ
last_digits zero n = []
last_digits (suc k) n = last_digits k (n / 10) ++ ((48 + n % 10) ∷ [])

-- the least number from k on, and at most k + f, of decimal digits that hold n
abbrev pub places : ℕ → ℕ → ℕ → ℕ
places zero n k = k
places (suc f) n k = choose (ltb n (10 ^ k)) (λ _. k) (λ _. places f n (suc k))

-- A number in as few decimal digits as hold it, one at least; no number has more than n + 1 of them.
abbrev pub decimal : ℕ → List ℕ
decimal n = last_digits (places n n 1) n

pub record PutNumber (out : List ℕ) (at n : ℕ) (out' : List ℕ) (r : ℕ) : Type 0 where
  pub most : r ≤ at + 20
  pub put : Put out at (decimal n) out' r
