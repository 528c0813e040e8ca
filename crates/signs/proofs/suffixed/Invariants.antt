-- `signs::suffixed` meets its contract: each turn writes the code of one sign.
use Rattle.std.proofs.Common.{◌-◌, length}
use Rattle.signs.proofs.StepLaws.{Suffixing}
use Rattle.signs.proofs.suffixed.Given as goal

abbrev pub invariant-loop-t : goal.invariant-loop-t
invariant-loop-t l = Suffixing l.s l.initial.out l.initial.here l.out l.here

abbrev pub decreases-loop-t : goal.decreases-loop-t
decreases-loop-t l = length l.s - l.here.cursor.at
