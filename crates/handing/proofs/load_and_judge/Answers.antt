-- `handing::load_and_judge` meets its contract.
use Rattle.std.proofs.Common.{ap, ap₂}
use Rattle.std.proofs.lemmas.Result.{err_from_is_err_and}
use Rattle.automata.specs.Format.{narrow}
use Rattle.card.specs.Judge.{judge}
use Rattle.handing.specs.Answers.{board_says}
use Rattle.handing.proofs.load_and_judge.Goals as goal

pub returns-in_err-card : goal.returns-in_err-card
returns-in_err-card c =
    let p = err_from_is_err_and c.from_residual.result c.from_residual.ensures.1 in
    rw (p.1, p.2) (ap (λ x. board_says x (judge narrow c.args.bytes.now c.args.plan.now)) c.in_err-card.ensures.loads)

pub returns : goal.returns
returns c =
    ap₂ board_says c.in_ok-card.ensures.loads c.judge.ensures
