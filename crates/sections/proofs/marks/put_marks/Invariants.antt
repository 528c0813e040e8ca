-- `put_marks` meets its contract: the marks bytes of the states below i are laid down.
use Rattle.std.proofs.Common.{◌+◌, get_or}
use Rattle.automata.specs.Basics.{tab}
use Rattle.sections.specs.Laid.{Laid}
use Rattle.sections.specs.Parts.{mark_bytes}
use Rattle.sections.proofs.marks.put_marks.Given as goal

abbrev pub invariant-loop-i : goal.invariant-loop-i
invariant-loop-i l =
    Laid l.start (l.start + l.i) (tab (λ j. get_or (mark_bytes l.reached.machine.states l.reached.machine.letters l.reached.machine.bytes.now) j 0) l.i) l.initial.card l.card
