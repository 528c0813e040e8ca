-- `put_contents` meets its contract: six numbers, one behind the other.
use Rattle.sections.proofs.LaidLaws.{laid_contents}
use Rattle.sections.proofs.contents.put_contents.Goals as goal

pub returns : goal.returns
returns c =
    laid_contents _ _ _ _ _ _ _ _ _
    c.put_number.ensures
    c.put_number-2.ensures
    c.put_number-3.ensures
    c.put_number-4.ensures
    c.put_number-5.ensures
    c.put_number-6.ensures
