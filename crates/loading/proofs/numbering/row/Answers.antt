-- `row` meets its contract: the invariant says how many states are seen after the first moves.
use Rattle.std.proofs.Common.{arith}
use Rattle.loading.proofs.RowLaws.{row_start, row_next}
use Rattle.loading.proofs.numbering.row.Goals as goal

pub loop-target-init : goal.loop-target-init
loop-target-init c = row_start _ _ _

pub loop-target-preserved : goal.loop-target-preserved
loop-target-preserved c =
    let i = c.loop-target.target-index in
    row_next _ c.row-target-items.result.now _ _ i _ (c.row-target-items.ensures.entry i (omega (arith, c.row-target-items.ensures.long))) c.loop-target.invariant _ (omega arith) c.max-s.ensures
