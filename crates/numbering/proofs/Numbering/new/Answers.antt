-- `new` meets the invariant.
use Rattle.numbering.proofs.NumberLaws.{roll_start}
use Rattle.numbering.proofs.Numbering.new.Goals as goal

pub invariant_of-result : goal.invariant_of-result
invariant_of-result c = record { roll = roll_start }
