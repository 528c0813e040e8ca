-- `signs::negate` meets its contract: each turn writes one complement more.
use Rattle.std.proofs.Common.{◌≡◌, arith}
use Rattle.signs.proofs.StepLaws.{negated_none, negated_more}
use Rattle.signs.proofs.negate.Goals as goal

pub loop-init : goal.loop-init
loop-init c = negated_none _ _

pub put-here-requires : goal.put-here-requires
put-here-requires c = omega (arith, c.loop.invariant.pos_is)

pub loop-preserved : goal.loop-preserved
loop-preserved c = negated_more c.loop.invariant c.put-here.ensures

pub returns : goal.returns
returns c =
    let e : c.loop.counter ≡ c.args.count = omega arith in
    rw (← e) c.loop.invariant
