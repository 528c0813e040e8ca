-- `signs::nots` meets its contract: the loop keeps that only `!` were passed, and how many.
use Rattle.std.proofs.Common.{◌-◌, length}
use Rattle.signs.specs.Steps.{Passed}
use Rattle.signs.proofs.nots.Given as goal

abbrev pub invariant-loop-t : goal.invariant-loop-t
invariant-loop-t l = Passed l.s l.initial.here.at l.here.at l.count

abbrev pub decreases-loop-t : goal.decreases-loop-t
decreases-loop-t l = length l.s - l.here.at
