-- `lines::lines` meets its contract. The loop's invariant: the lines that are left, with the draft that the buffers hold, give what all the lines give. The
-- measure is what is left of the text.
use lib.ListN.{length}
use Prim.Native.Nat.{◌-◌}
use Rattle.lines.proofs.LinesLaws.{Lengths, Reached}
use Rattle.lines.proofs.lines.Given as goal

abbrev pub invariant-loop-book : goal.invariant-loop-book
invariant-loop-book l =
    Lengths l.initial.low l.initial.high l.initial.registers l.initial.stack l.initial.scratch l.initial.code
    l.low l.high l.registers l.stack l.scratch l.code
    × Reached l.text l.letters l.next l.book l.low l.high l.registers

abbrev pub decreases-loop-book : goal.decreases-loop-book
decreases-loop-book l =
    length l.text - l.book.at
