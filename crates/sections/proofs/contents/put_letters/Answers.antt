-- `put_letters` meets its contract.
use Rattle.std.proofs.Common.{◌+◌, arith, length}
use Rattle.sections.proofs.LaidLaws.{laid_copied}
use Rattle.sections.proofs.contents.put_letters.Goals as goal

pub returns : goal.returns
returns c = laid_copied 12 (12 + length c.args.letters.now) _ _ _ c.requires (omega arith) (omega arith) c.copy.ensures
