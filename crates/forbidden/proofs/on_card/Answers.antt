-- `on_card` meets its contract: all letters are known where the pass is made.
use Rattle.run.specs.Cards.{ready_of}
use Rattle.forbidden.proofs.EntryLaws.{refused_letter, all_known, searched_reply}
use Rattle.forbidden.proofs.on_card.Goals as goal

pub returns-then-before-plan : goal.returns-then-before-plan
returns-then-before-plan c =
    rw c.of-walker.ensures at (refused_letter _ _ _ (ready_of c.of-walker.result.card) _ _ c.known-before.ensures c.if-before-plan.true)

pub pass-requires-clause-known : goal.pass-requires-clause-known
pass-requires-clause-known c =
    all_known _ _ _ (ready_of c.of-walker.result.card) _ _ c.known-before.ensures c.if-before-plan.false

pub returns : goal.returns
returns c =
    let y = ready_of c.of-walker.result.card in
    rw c.of-walker.ensures at (searched_reply _ _ _ y _ _ (all_known _ _ _ y _ _ c.known-before.ensures c.if-before-plan.false) c.pass.ensures)
