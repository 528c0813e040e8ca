-- `row` meets its contract: what the letters passed lead to has numbers.
use Rattle.std.proofs.Common.{arith}
use Rattle.numbering.proofs.ArrivalLaws.{rowed_start, rowed_next}
use Rattle.numbering.proofs.Numbering.row.Goals as goal

pub loop-state-init : goal.loop-state-init
loop-state-init c = rowed_start c.args.self.now.roll _ _

pub loop-state-preserved : goal.loop-state-preserved
loop-state-preserved c =
    rowed_next _ _ _ _ _ _ _ _ _ _ c.loop-state.invariant _ (c.row-state-items.ensures.entry c.loop-state.state-index (omega (arith, c.row-state-items.ensures.long, c.loop-state-test.true))) _ _ _ c.arrive.ensures
