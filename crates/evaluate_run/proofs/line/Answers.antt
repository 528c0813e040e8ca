-- `evaluate_run::line` meets its contract: the code of a line that was read is its program.
use Rattle.evaluate_run.specs.ReadyLaws.{line_coded}
use Rattle.evaluate_run.proofs.line.Goals as goal

pub make-requires-clause-coded : goal.make-requires-clause-coded
make-requires-clause-coded g c =
    let (f, C, n) = line_coded c.read_line.ensures c.in-Ok.is in
    rw c.program_length.ensures C
