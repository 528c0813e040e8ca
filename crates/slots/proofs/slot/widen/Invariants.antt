-- `slots::slot::widen` meets its contract.
use Prim.Native.Nat.{◌+◌}
use lib.ListN.{get_or}
use Rattle.slots.specs.Slot.{Written}
use Rattle.slots.proofs.slot.widen.Given as goal

abbrev pub invariant-loop-i : goal.invariant-loop-i
invariant-loop-i l =
    Written l.initial.dst l.dst l.to l.i (λ j. get_or l.src (l.from + j) 0)
