-- `refine` meets its contract: as many rounds as there are states, and one more, are enough.
use Prim.Native.Nat.{suc, ◌-◌}
use Rattle.entries.specs.Classes.{Refining}
use Rattle.classes.proofs.refine.refine.Given as goal

abbrev pub invariant-loop-most : goal.invariant-loop-most
invariant-loop-most l =
    Refining l.table l.classes 0

abbrev pub decreases-loop-most : goal.decreases-loop-most
decreases-loop-most l =
    suc l.table.states - l.most
