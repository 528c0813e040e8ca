-- `moves` meets its contract.
use Rattle.fields.proofs.ReadLaws.{moves_part}
use Rattle.fields.proofs.parts.Layout.moves.Goals as goal

pub returns : goal.returns
returns c =
    moves_part _ _ _ c.args.self.now.right
