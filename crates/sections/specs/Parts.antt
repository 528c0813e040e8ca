-- The parts of a kept machine's card behind its letters.
use Rattle.std.specs.Prelude.{List, ℕ, ◌+◌, get_or}
use Rattle.automata.specs.Basics.{tab}
use Rattle.automata.specs.Restrict.{restrict}
use Rattle.automata.specs.Rows.{flat}
use Rattle.card.specs.Mark.{marks}
use Rattle.card.specs.Number.{bytes_of}
use Rattle.numbering.specs.Arrival.{kept_machine}

-- its marks bytes
abbrev pub mark_bytes : ℕ → ℕ → List ℕ → List ℕ
mark_bytes n m t = marks m (restrict m (kept_machine n m t))

-- its moves
abbrev pub move_bytes : ℕ → ℕ → List ℕ → List ℕ
move_bytes n m t = bytes_of 1 (flat (restrict m (kept_machine n m t)).moves)

-- the numbers of what the m moves from place `at` of the table lead to
abbrev pub row_bytes : ℕ → ℕ → List ℕ → List ℕ → List ℕ
row_bytes at m t number = tab (λ c. get_or number (get_or t (at + c) 0) 0) m
