-- Transitions that repeat an earlier one: what looking for one asks, and what is found.
use Rattle.std.specs.Prelude.{◌≡◌, ◌⊎◌, List, ℕ, ◌+◌, ◌*◌, ◌≤◌, ◌<◌, length}
use Rattle.rows.specs.Rows.{row_at}
use Rattle.sets.specs.Fits.{rows_for, RowFits, Source, ListedFor}
use Rattle.sets.specs.Operations.{operation_of}
use Rattle.sets.specs.declared.operands.Operands.{Operands}

-- The transition by column c of row p lies before that by `column` of row `state`.
abbrev pub Earlier : ℕ → ℕ → ℕ → ℕ → Type 0
Earlier p c state column = (p < state) ⊎ ((p ≡ state) × (c < column))

-- The place r is that of an earlier transition, by the column `by` of the row `row`, and leads where the one by `column` of the row `state` does.
pub record Repeats (s : Operands) (rows : List ℕ) (state column r : ℕ) : Type 0 where
  pub row : ℕ
  pub by : ℕ
  pub within : by < s.left.columns
  pub before : Earlier row by state column
  pub place : r ≡ row * s.left.columns + by
  pub same : (rows_for s).step (row_at s.width row rows) by ≡ (rows_for s).step (row_at s.width state rows) column

-- all that looking for one asks: a row whose states are listed, and the place of its transition
pub record Asking (s : Operands) (rows : List ℕ) (held : ℕ) (members : List ℕ) (state column q : ℕ) : Type 0 where
  pub within : column < s.left.columns
  pub place : q ≡ state * s.left.columns + column
  pub room : state * s.width + s.width ≤ length rows
  pub states : RowFits (operation_of s.op) s.left.states s.right.states (row_at s.width state rows)
  pub listed : ListedFor s (row_at s.width state rows) held members

-- all that comparing a column with the one before asks
pub record Looks (s : Operands) (c : ℕ) (from : List ℕ) : Type 0 where
  pub some : 0 < c
  pub column : c < s.left.columns
  pub source : Source s from
