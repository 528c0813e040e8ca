-- Numbers as bytes, low byte first, for any width; and lists of such numbers laid end to end.
use Rattle.std.specs.Prelude.{ℕ, zero, suc, ◌+◌, ◌*◌, ◌/◌, ◌%◌, ◌<◌, length, get_or, drop}
use mathlib.Core.List.{List, [], ◌∷◌, ◌++◌}

-- ---- definitions

-- Each entry is below b.
abbrev pub Below : ℕ → List ℕ → Type 0
Below b l = (i : ℕ) → i < length l → get_or l i 0 < b

-- Each entry is a byte.
abbrev pub Bytes : List ℕ → Type 0
Bytes l = Below 256 l

-- How many numbers w bytes can tell apart: 256 to the power w.
abbrev pub capacity : ℕ → ℕ
capacity zero = 1
capacity (suc w) = 256 * capacity w

-- x as w bytes, "low byte first"
abbrev pub little_endian : ℕ → ℕ → List ℕ
little_endian zero x = []
little_endian (suc w) x = x % 256 ∷ little_endian w (x / 256)

-- the number of w bytes from place i on, low byte first
abbrev pub number_at : ℕ → List ℕ → ℕ → ℕ
number_at zero bs i = 0
number_at (suc w) bs i = get_or bs i 0 + 256 * number_at w bs (suc i)

-- numbers of w bytes each, end to end
abbrev pub bytes_of : ℕ → List ℕ → List ℕ
bytes_of w [] = []
bytes_of w (x ∷ xs) = little_endian w x ++ bytes_of w xs

-- the first n numbers of w bytes each
abbrev pub numbers_of : ℕ → ℕ → List ℕ → List ℕ
numbers_of w zero bs = []
numbers_of w (suc n) bs = number_at w bs 0 ∷ numbers_of w n (drop w bs)
