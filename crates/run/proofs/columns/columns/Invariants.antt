-- `columns` meets its contract: the table has the columns of the letters from i on.
use Rattle.run.proofs.ColumnLaws.{TableFrom}
use Rattle.run.proofs.columns.columns.Given as goal

abbrev pub invariant-loop-i : goal.invariant-loop-i
invariant-loop-i l =
    TableFrom l.letters l.table l.i
