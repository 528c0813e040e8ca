-- What an operation's two operands have in common, and how wide its rows are.
use Rattle.std.specs.Prelude.{◌≡◌, ℕ, ◌≤◌}
use Rattle.entries.specs.declared.table.Table.{Table}
use Rattle.sets.specs.Operations.{operation_of, row_width}
use Rattle.sets.specs.declared.Operation.{Operation as Code}

-- The operands are tables over the same columns, one at least, whose states fit two bytes; a row is as wide as the operation says.
pub record Fits (op : Code) (left right : Table) (w : ℕ) : Type 0 where
  pub columns : 1 ≤ left.columns
  pub same : right.columns ≡ left.columns
  pub left_small : left.states ≤ 65536
  pub right_small : right.states ≤ 65536
  pub width : w ≡ row_width (operation_of op) left.states right.states
