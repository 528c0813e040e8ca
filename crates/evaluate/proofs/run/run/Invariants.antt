-- `evaluate::run::run` meets its contract. The loop's invariant: the rest of the codes, on the machines that the slots hold, gives what all the codes give.
use Rattle.evaluate.specs.Run.{Going}
use Rattle.evaluate.proofs.run.run.Given as goal

abbrev pub invariant-loop-c : goal.invariant-loop-c
invariant-loop-c l =
    Going l.l l.letters l.names.low.now l.names.high.now l.code l.initial.registers l.initial.stack l.initial.scratch l.registers l.stack l.scratch l.sp l.peak l.c-index
