-- Columns that lead every state of both operands to the same place.
use Rattle.std.specs.Prelude.{◌≡◌, List, ℕ, ◌+◌, ◌<◌, get_or, Option, Some, None}
use Rattle.automata.specs.Machine.{automaton}
use Rattle.entries.specs.Entries.{machine_of}
use Rattle.entries.specs.declared.table.Table.{Table}
use Rattle.sets.specs.declared.operands.Operands.{Operands}

-- columns d and c of a table lead state q to the same place
abbrev pub LeadAlike : Table → ℕ → ℕ → ℕ → Type 0
LeadAlike T d c q = (automaton (machine_of T)).step q d ≡ (automaton (machine_of T)).step q c

-- Columns d and c, neither the last, lead each state of both operands to the same place.
pub record Twins (s : Operands) (d c : ℕ) : Type 0 where
  pub left : (q : ℕ) → q < s.left.states → LeadAlike s.left d c q
  pub right : (q : ℕ) → q < s.right.states → LeadAlike s.right d c q
  pub low : d + 1 < s.left.columns
  pub high : c + 1 < s.left.columns

-- Of each of the first 64 columns an earlier one that is its twin, where one is known.
pub record TwinTable (s : Operands) (l : List (Option ℕ)) : Type 0 where
  pub twin : (c d : ℕ) → c < 64 → get_or l c None ≡ Some d → (d < c) × Twins s d c
