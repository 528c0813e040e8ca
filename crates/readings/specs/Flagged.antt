-- What laying out the flags of rows asks, and what it leaves.
use Rattle.std.specs.Prelude.{◌≡◌, List, ℕ, ◌*◌, ◌≤◌, ◌<◌, length, get_or}
use Rattle.automata.specs.Automaton.{Automaton}
use Rattle.rows.specs.Rows.{row_at, bit}
use Rattle.sets.specs.Fits.{RowFits}
use Rattle.sets.specs.Operations.{operation_of}
use Rattle.sets.specs.declared.operands.Operands.{Operands}

-- all that the flags ask: rows that are there, and a place for each flag before the limit
pub record Flagging (s : Operands) (count : ℕ) (rows table : List ℕ) : Type 0 where
  pub within : count ≤ s.limit
  pub rows_long : count * s.width ≤ length rows
  pub table_long : count ≤ length table
  pub sources : (p : ℕ) → p < count → RowFits (operation_of s.op) s.left.states s.right.states (row_at s.width p rows)

-- The flags of the rows are set, and nothing from the limit on is changed.
pub record Flagged (R : Automaton (List ℕ)) (w limit n : ℕ) (rows table table' : List ℕ) : Type 0 where
  pub set : (p : ℕ) → p < n → get_or table' p 0 ≡ bit (R.accepting (row_at w p rows))
  pub kept : (i : ℕ) → limit ≤ i → get_or table' i 0 ≡ get_or table i 0
