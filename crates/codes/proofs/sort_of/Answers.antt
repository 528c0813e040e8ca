use Rattle.std.proofs.Common.{arith}
use Rattle.codes.specs.Codes.{letter_sorted, name_sorted}
use Rattle.codes.proofs.sort_of.Goals as goal

pub returns-in-97-to-122 : goal.returns-in-97-to-122
returns-in-97-to-122 c =
    letter_sorted _ (omega arith) (omega arith)

pub returns-in-65-to-90 : goal.returns-in-65-to-90
returns-in-65-to-90 c =
    name_sorted _ (omega arith) (omega arith)
