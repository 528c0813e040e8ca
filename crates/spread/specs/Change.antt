-- How far a change is from the states of a table: a list has of each state the fewest letters that are read before one which changes its answer.
use Rattle.std.specs.Prelude.{◌≡◌, Bool, true, List, ℕ, ◌<◌}
use Rattle.automata.specs.Machine.{automaton}
use Rattle.automata.specs.Refinement.{Coarse}
use Rattle.distance.specs.Changes.{Stepping}
use Rattle.entries.specs.declared.table.Table.{Table}
use Rattle.entries.specs.Entries.{class_of, flag_bit, machine_of}

-- Where column c leads from state p.
abbrev pub leads : Table → ℕ → ℕ → ℕ
leads T p c = (automaton (machine_of T)).step p c

-- A table as the sweeps read it.
abbrev pub stepping : Table → Stepping
stepping T = record { states = T.states; letters = T.columns; key = flag_bit T.cells.now; step = leads T }

-- Equivalent states have the same number.
abbrev pub Alike : Table → List ℕ → Type 0
Alike T far = Coarse T.columns (machine_of T) (class_of far)

-- The numbers are settled, or say nothing.
pub record Settling (T : Table) (far : List ℕ) (r : Bool) : Type 0 where
  pub most : (p : ℕ) → p < T.states → class_of far p < T.states
  pub alike : r ≡ true → Alike T far
