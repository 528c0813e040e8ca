-- `put_row` meets its contract: the moves of the letters below c are laid down.
use Rattle.std.proofs.Common.{get_or, arith, ap}
use Rattle.sections.proofs.LaidLaws.{laid_next}
use Rattle.sections.proofs.targets.put_row.Goals as goal

pub loop-c-preserved : goal.loop-c-preserved
loop-c-preserved c =
    laid_next _ _ _ _ _ _ c.loop-c.invariant (omega (arith, c.loop-c.invariant.long, c.row-target-items.ensures.long, c.loop-c-test.true, c.requires.m_in_bounds))
    (ap (λ x. get_or c.args.number.now x 0) (c.row-target-items.ensures.entry c.loop-c.c (omega (arith, c.row-target-items.ensures.long, c.loop-c-test.true))))
