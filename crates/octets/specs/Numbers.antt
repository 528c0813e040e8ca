-- Numbers of two bytes.
use Rattle.std.specs.Prelude.{List, ℕ, ◌+◌, ◌*◌, get_or}

-- the number in two bytes of a list, low byte first
abbrev pub number_at : List ℕ → ℕ → ℕ
number_at r i = get_or r i 0 + 256 * get_or r (i + 1) 0
