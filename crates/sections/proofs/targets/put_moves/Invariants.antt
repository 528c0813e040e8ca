-- `put_moves` meets its contract: the rows of the states below i are laid down.
use Rattle.std.proofs.Common.{◌+◌, ◌*◌}
use Rattle.sections.specs.Laid.{Laid}
use Rattle.sections.proofs.MoveLaws.{rows_upto}
use Rattle.sections.proofs.targets.put_moves.Given as goal

abbrev pub invariant-loop-i : goal.invariant-loop-i
invariant-loop-i l =
    Laid l.start (l.start + l.i * l.m) (rows_upto l.m l.reached.machine.bytes.now l.reached.numbering.order l.reached.numbering.number l.i) l.initial.card l.card
