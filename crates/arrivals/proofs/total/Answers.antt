-- `total` meets its contract: the entries passed are summed.
use mathlib.Core.Path.{◌≡◌}
use native.Mathlib.Omega.{arith}
use lib.ListN.{length}
use Rattle.arrivals.specs.Weights.{weighed}
use Rattle.arrivals.proofs.RoundLaws.{total_fits}
use Rattle.arrivals.proofs.total.Goals as goal

pub overflow_add-sum : goal.overflow_add-sum
overflow_add-sum c =
    omega (arith, c.loop-p.invariant, total_fits _ _ c.args.mark c.requires _ c.loop-p-test.true)

pub returns : goal.returns
unfolding weighed
returns c =
    let z : c.loop-p.p ≡ length c.args.words.now = omega arith in rw (← z) c.loop-p.invariant
