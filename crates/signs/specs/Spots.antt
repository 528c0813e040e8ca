-- A spot: what is left of the line there, and of the lent buffer.
use Rattle.std.specs.Prelude.{List, ℕ, ◌+◌, ◌*◌, ◌-◌, ◌≤◌, length, drop}
use Rattle.book.specs.Text.{tokens}
use Rattle.signs.specs.declared.Spot.{Spot}

-- the tokens from a spot on
abbrev pub left : List ℕ → Spot → List ℕ
left s c = tokens (drop c.cursor.at s)

-- two bytes of the buffer for each byte left
abbrev pub Room : List ℕ → List ℕ → Spot → Type 0
Room s o c = c.pos + 2 * (length s - c.cursor.at) ≤ length o
