-- `step` meets its contract: the card's refusal, or a step on a card that was tested.
use Rattle.std.proofs.lemmas.Result.{err_from_is_err_and}
use Rattle.board.proofs.EntryLaws.{refused_step}
use Rattle.board.proofs.step.Goals as goal

pub returns-in_err-card : goal.returns-in_err-card
returns-in_err-card c =
    let p = err_from_is_err_and c.from_residual.result c.from_residual.ensures.1 in
    rw (p.1, p.2) (refused_step _ c.args.state c.args.letter _ c.in_err-card.ensures.loads)
