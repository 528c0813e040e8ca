-- `judge` meets its contract: the card is tested once, and the whole plan is one piece.
use Rattle.std.proofs.Common.{Ok, Err}
use Rattle.std.proofs.lemmas.Result.{err_from_is_err_and}
use Rattle.run.specs.Pieces.{after_start, after_reply}
use Rattle.run.specs.Cards.{ready_of}
use Rattle.board.proofs.EntryLaws.{refused_judge}
use Rattle.board.proofs.judge.Goals as goal

pub returns-in_err-card : goal.returns-in_err-card
returns-in_err-card c =
    let p = err_from_is_err_and c.from_residual.result c.from_residual.ensures.1 in
    rw (p.1, p.2) (refused_judge _ _ _ c.in_err-card.ensures.loads)

pub returns-in_err-verdict : goal.returns-in_err-verdict
returns-in_err-verdict c =
    let p = err_from_is_err_and c.from_residual-in_err-verdict.result c.from_residual-in_err-verdict.ensures.1 in
    rw (p.1, p.2, ← c.in_ok-card.ensures.same) (after_reply _ _ _ (ready_of c.in_ok-card.card) c.args.plan.now c.piece-run.result (Err c.in_err-verdict.field-0.0)
    (after_start _ _ c.args.plan.now c.start.result c.piece-run.result c.start.ensures c.piece-run.ensures) c.in_err-verdict.ensures)

pub returns : goal.returns
returns c =
    rw (← c.in_ok-card.ensures.same) (after_reply _ _ _ (ready_of c.in_ok-card.card) c.args.plan.now c.piece-run.result (Ok c.in_ok-verdict.verdict)
    (after_start _ _ c.args.plan.now c.start.result c.piece-run.result c.start.ensures c.piece-run.ensures) c.in_ok-verdict.ensures)
