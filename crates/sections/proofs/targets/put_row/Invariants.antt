-- `put_row` meets its contract: the moves of the letters below c are laid down.
use Rattle.std.proofs.Common.{◌+◌}
use Rattle.numbering.specs.Arrival.{row_place}
use Rattle.sections.specs.Laid.{Laid}
use Rattle.sections.specs.Parts.{row_bytes}
use Rattle.sections.proofs.targets.put_row.Given as goal

abbrev pub invariant-loop-c : goal.invariant-loop-c
invariant-loop-c l = Laid l.to (l.to + l.c) (row_bytes (row_place l.machine.letters l.s) l.c l.machine.bytes.now l.number) l.initial.card l.card
