-- `number` meets its contract: after i turns the order is the listing of i turns.
use Rattle.std.proofs.Common.{◌-◌}
use Rattle.numbering.proofs.NumberLaws.{Turns}
use Rattle.numbering.proofs.number.Given as goal

abbrev pub invariant-loop-i : goal.invariant-loop-i
invariant-loop-i l = Turns l.machine.states l.machine.letters l.machine.bytes.now l.numbering.order l.numbering.number l.i l.numbering.count

abbrev pub decreases-loop-i : goal.decreases-loop-i
decreases-loop-i l = 120 - l.i
