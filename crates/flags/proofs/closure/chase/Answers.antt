-- `chase` meets its contract: each turn sets one flag more.
use native.Mathlib.Omega.{arith}
use Rattle.flags.proofs.ClosureLaws.{unset_less, chase_more, chase_end}
use Rattle.flags.proofs.FlagLaws.{flag_set}
use Rattle.flags.proofs.TableLaws.{target_is}
use Rattle.flags.proofs.closure.chase.Goals as goal

pub loop-row-smaller : goal.loop-row-smaller
loop-row-smaller c =
    rw c.flag-all.ensures.0 (unset_less c.loop-row.row c.loop-row.q (omega (arith, c.loop-row.invariant.0.long, c.loop-row.invariant.0.within)) c.loop-row-test.true)

pub loop-row-preserved : goal.loop-row-preserved
loop-row-preserved c =
    let q = target_is c.args.table.now c.loop-row.invariant.0.within (omega (arith, c.requires.closes.columns)) c.target-q.ensures in
    (rw c.flag-all.ensures.0 (chase_more c.loop-row.invariant.0 c.target-q.result q c.target-q.ensures.inside), c.flag-all.ensures.1)

pub returns : goal.returns
returns c =
    (chase_end c.loop-row.invariant.0 (flag_set c.loop-row.row c.loop-row.q c.loop-row-test.false), c.loop-row.invariant.1)
