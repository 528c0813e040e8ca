-- `marks` meets its contract.
use Rattle.fields.proofs.ReadLaws.{marks_part}
use Rattle.fields.proofs.parts.Layout.marks.Goals as goal

pub returns : goal.returns
returns c =
    marks_part _ _ _ c.args.self.now.right
