-- `owed_table` meets its contract: the distances on the card's table of moves.
use Rattle.run.proofs.OwedLaws.{owed_table}
use Rattle.run.specs.Cards.{ready_of}
use Rattle.run.proofs.owed.owed_table.Goals as goal

pub returns : goal.returns
returns c =
    owed_table _ _ _ (ready_of c.args.card.now) _ c.states.ensures.marks _ c.states.ensures.moves _ (rw c.states.ensures.letters at c.distances.ensures)
