-- `ascend` meets its contract: the states below p are visited.
use native.Mathlib.Omega.{arith}
use Rattle.live.proofs.LiveLaws.{sweep_more, one_above}
use Rattle.live.proofs.ascend.Goals as goal

pub loop-p-preserved : goal.loop-p-preserved
loop-p-preserved c =
    sweep_more _ _ _ _ _ _ _ c.args.states.table _ _ _ c.loop-p.invariant _ (omega arith) _ _ (one_above _) _ c.visit-changed.ensures
