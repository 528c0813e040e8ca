-- `columns` meets its contract: the table has the columns of the letters from i on.
use Prim.Native.Nat.{◌-◌}
use native.Mathlib.Omega.{arith}
use Rattle.run.proofs.ColumnLaws.{table_start, table_next, table_done}
use Rattle.run.proofs.columns.columns.Goals as goal

pub loop-i-init : goal.loop-i-init
loop-i-init c =
    table_start _

pub loop-i-preserved : goal.loop-i-preserved
loop-i-preserved c =
    table_next _ _ _ (omega arith) (omega arith) c.loop-i.invariant (omega (arith, c.type_inv.letters (c.loop-i.i - 1)))

pub returns : goal.returns
returns c =
    table_done _ _ _ (omega arith) c.loop-i.invariant
