-- What entries of lists say: the state that a column of a table leads to, a state's class, a state's flag.
use Rattle.std.specs.Prelude.{◌≡◌, Bool, List, ℕ, zero, ◌<◌, get_or}
use Rattle.automata.specs.Machine.{Machine, automaton}
use Rattle.automata.specs.Partition.{bit}
use Rattle.automata.specs.Table.{flag_of, table_machine}
use Rattle.entries.specs.declared.table.Table.{Table}

-- the machine that a table holds
abbrev pub machine_of : Table → Machine
machine_of T = table_machine T.base T.states T.columns T.cells.now

-- r is the state that column c of the table leads to from state p.
pub record Target (T : Table) (p c r : ℕ) : Type 0 where
  pub step : r ≡ (automaton (machine_of T)).step p c
  pub inside : r < T.states

-- the class of a state
abbrev pub class_of : List ℕ → ℕ → ℕ
class_of cls p = get_or cls p zero

-- a state's flag
abbrev pub flag_at : List ℕ → ℕ → Bool
flag_at t p = flag_of (get_or t p 0)

-- the same as 0 or 1
abbrev pub flag_bit : List ℕ → ℕ → ℕ
flag_bit t p = bit (flag_at t p)
