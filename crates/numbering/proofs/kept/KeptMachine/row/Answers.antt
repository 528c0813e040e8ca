-- `row` meets its contract.
use Rattle.numbering.proofs.NumberLaws.{letter_row}
use Rattle.numbering.proofs.kept.KeptMachine.row.Goals as goal

pub returns : goal.returns
returns c = letter_row _ _ _ c.args.self.now.closed _ c.requires
