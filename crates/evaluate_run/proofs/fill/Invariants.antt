-- The slots below i hold machines.
use Rattle.operands.specs.Stack.{Slots}
use Rattle.evaluate_run.proofs.fill.Given as goal

abbrev pub invariant-loop-i : goal.invariant-loop-i
invariant-loop-i l = Slots 120 3 3362 l.i l.slots
