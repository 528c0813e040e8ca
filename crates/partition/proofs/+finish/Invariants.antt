-- Each stretch but the last leaves more classes.
use Rattle.std.proofs.Common.{◌-◌, length}
use Rattle.partition.proofs.+finish.Given as goal

abbrev pub decreases-finish : goal.decreases-finish
decreases-finish l = length l.states.marks.now - l.begun
