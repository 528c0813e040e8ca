-- `alike` meets its contract: the columns so far lead to one class each.
use Prim.Native.Nat.{◌*◌}
use Rattle.entries.specs.Entries.{class_of, machine_of}
use Rattle.leaders.proofs.RoundLaws.{SameBelow}
use Rattle.leaders.proofs.alike.Given as goal

abbrev pub invariant-loop-h : goal.invariant-loop-h
invariant-loop-h l = SameBelow (machine_of l.table) (class_of l.classes) l.p l.q (2 * l.h)
