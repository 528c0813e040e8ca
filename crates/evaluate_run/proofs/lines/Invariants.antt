-- Each line starts behind the one before.
use Rattle.std.proofs.Common.{length, ◌-◌}
use Rattle.evaluate_run.proofs.lines.Given as goal

abbrev pub decreases-loop-at : goal.decreases-loop-at
decreases-loop-at g l = length l.text - l.at
