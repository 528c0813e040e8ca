-- `find` meets its contract: each state with the key is still ahead.
use Rattle.std.proofs.Common.{◌-◌}
use Rattle.splits.proofs.ClassLaws.{FindUpto}
use Rattle.splits.proofs.find.Given as goal

abbrev pub invariant-loop-r : goal.invariant-loop-r
invariant-loop-r l = FindUpto l.keys l.link l.start l.key l.n l.r

abbrev pub decreases-loop-r : goal.decreases-loop-r
decreases-loop-r l = l.n - l.r
