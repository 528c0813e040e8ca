-- What is read of a text lies in front of the place.
use Rattle.std.proofs.Common.{◌≤◌}
use Rattle.reader_run.proofs.report_all.Given as goal

abbrev pub invariant-loop-i : goal.invariant-loop-i
invariant-loop-i g l = l.from ≤ l.i
