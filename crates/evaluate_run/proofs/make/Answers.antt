use Rattle.std.proofs.Common.{arith}
use Rattle.evaluate_run.specs.ReadyLaws.{running, one_machine}
use Rattle.evaluate_run.proofs.make.Goals as goal

pub run-r-requires-clause-running : goal.run-r-requires-clause-running
run-r-requires-clause-running g c =
    running c.requires.coded _ _ _ _ _ c.requires.value c.names-names.ensures c.registers-registers.ensures (omega arith) (omega arith)
    (omega arith) (omega arith) (omega arith) (omega arith)

pub run-r-requires-clause-code_value : goal.run-r-requires-clause-code_value
run-r-requires-clause-code_value g c = one_machine c.requires.coded
