-- `letters` meets its contract.
use Rattle.fields.proofs.ReadLaws.{letters_part}
use Rattle.fields.proofs.parts.Layout.letters.Goals as goal

pub returns : goal.returns
returns c =
    letters_part _ _ _ c.args.self.now.right
