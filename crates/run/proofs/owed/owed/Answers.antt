-- `owed` meets its contract: the distance on the card's table of moves.
use Rattle.run.proofs.WalkLaws.{mark_room}
use Rattle.run.proofs.OwedLaws.{not_accepting, owed_is}
use Rattle.run.specs.Cards.{ready_of}
use Rattle.run.proofs.owed.owed.Goals as goal

pub distance-requires : goal.distance-requires
distance-requires c =
    let y = ready_of c.args.card.now in
    let f = c.states.ensures.marks in
    (mark_room _ _ _ y _ _ f c.requires.0, not_accepting _ _ _ y _ f _ c.states.ensures.moves _ c.requires.0 c.requires.1)

pub returns : goal.returns
returns c =
    owed_is _ _ _ (ready_of c.args.card.now) _ c.states.ensures.marks _ c.states.ensures.moves _ _ c.requires.0 c.requires.1 (rw c.states.ensures.letters at c.distance.ensures)
