-- The rows of an operation on its operands, and what making them asks of the row that is started from.
use Rattle.std.specs.Prelude.{◌≡◌, Bool, List, ℕ, ◌+◌, ◌-◌, ◌≤◌, ◌<◌, length, set}
use Rattle.automata.specs.Booleans.{choose}
use Rattle.automata.specs.Automaton.{Automaton}
use Rattle.automata.specs.Machine.{automaton}
use Rattle.entries.specs.Entries.{machine_of}
use Rattle.rows.specs.Rows.{flag_at, number_at}
use Rattle.flags.specs.Members.{Lists}
use Rattle.sets.specs.Operations.{Operation, pairing, concatenation, star, erase, operation_of, rows_of}
use Rattle.sets.specs.declared.operands.Operands.{Operands}

abbrev pub left_of : Operands → Automaton ℕ
left_of s = automaton (machine_of s.left)

abbrev pub right_of : Operands → Automaton ℕ
right_of s = automaton (machine_of s.right)

-- the rows of the operation on the machines of its operands; erase takes the last column away
abbrev pub rows_for : Operands → Automaton (List ℕ)
rows_for s = rows_of (operation_of s.op) (s.left.columns - 1) s.left.states (left_of s) s.right.states (right_of s)

-- The states that a row names by number are states.
abbrev pub RowFits : Operation → ℕ → ℕ → List ℕ → Type 0
RowFits (pairing o) na nb r = (number_at r 0 < na) × (number_at r 2 < nb)
RowFits concatenation na nb r = number_at r 0 < na
RowFits star na nb r = Unit {0}
RowFits erase na nb r = Unit {0}

-- a row from which the next is made
pub record Source (s : Operands) (r : List ℕ) : Type 0 where
  pub long : length r ≡ s.width
  pub fits : RowFits (operation_of s.op) s.left.states s.right.states r

-- all that making the next row asks
pub record Step (s : Operands) (c : ℕ) (from row : List ℕ) : Type 0 where
  pub column : c < s.left.columns
  pub source : Source s from
  pub long : length row ≡ s.width

-- the states that a row of an operation has as flags, listed
abbrev pub Listed : Operation → ℕ → ℕ → List ℕ → ℕ → List ℕ → Type 0
Listed (pairing o) na nb r held members = Unit {0}
Listed concatenation na nb r held members = Lists (λ q. flag_at r (2 + q)) nb held members
Listed star na nb r held members = Lists (flag_at r) na held members
Listed erase na nb r held members = Lists (flag_at r) na held members

-- the same for a row of the operands
abbrev pub ListedFor : Operands → List ℕ → ℕ → List ℕ → Type 0
ListedFor s r held members = Listed (operation_of s.op) s.left.states s.right.states r held members

-- room for all states of an operand
pub record Listing (s : Operands) (members : List ℕ) : Type 0 where
  pub left : s.left.states ≤ length members
  pub right : s.right.states ≤ length members
  pub small : length members ≤ 65536

-- flags, with the first set where a test says so
unfoldable pub with_zero : Bool → List ℕ → List ℕ
with_zero b r = choose b (λ _. set r 0 1) (λ _. r)
