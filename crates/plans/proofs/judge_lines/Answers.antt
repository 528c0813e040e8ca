-- `judge_lines` meets its contract: the card is tested once.
use Rattle.std.proofs.lemmas.Result.{err_from_is_err_and}
use Rattle.plans.proofs.ManyLaws.{judges_refused}
use Rattle.plans.proofs.judge_lines.Goals as goal

pub returns-in_err-card : goal.returns-in_err-card
returns-in_err-card c =
    let p = err_from_is_err_and c.from_residual.result c.from_residual.ensures.1 in
    rw (p.1, p.2) (judges_refused _ _ _ _ c.in_err-card.ensures.loads)

pub returns : goal.returns
returns c =
    rw (← c.in_ok-card.ensures.same, ← c.of.ensures) c.judge_each.ensures
