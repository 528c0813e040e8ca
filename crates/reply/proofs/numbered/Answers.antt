-- `numbered` meets its contract: the word, the number, the line's end.
use Rattle.reply.proofs.TextLaws.{numbered_line}
use Rattle.reply.proofs.numbered.Goals as goal

pub returns : goal.returns
returns c =
    numbered_line _ _ _ _ _ _ _ _ _ _ c.put-next.ensures c.put_number-last.ensures c.put.ensures
