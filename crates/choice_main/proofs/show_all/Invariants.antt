-- Each line starts behind the one before.
use Rattle.std.proofs.Common.{length, ◌-◌}
use Rattle.choice_main.proofs.show_all.Given as goal

abbrev pub decreases-loop-at : goal.decreases-loop-at
decreases-loop-at g l = length l.text - l.at
