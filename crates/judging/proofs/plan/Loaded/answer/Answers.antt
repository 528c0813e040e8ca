-- `answer` meets its contract.
use mathlib.Core.Path.{subst}
use Rattle.std.proofs.Common.{Ok, Err}
use Rattle.std.proofs.lemmas.Result.{err_from_is_err_and}
use Rattle.board.specs.declared.refusals.Refusal.TheVariants.{Letter}
use Rattle.judging.specs.Plan.{Answers}
use Rattle.judging.proofs.PlanLaws.{answers, refused_answers}
use Rattle.judging.proofs.plan.Loaded.answer.Goals as goal

pub returns-in_err-reply_by-in-Ok : goal.returns-in_err-reply_by-in-Ok
returns-in_err-reply_by-in-Ok c =
    let p = err_from_is_err_and c.from_residual.result c.from_residual.ensures.1 in
    rw (p.1, p.2) (subst (λ x. Answers x c.args.run (Err (Letter c.in_err-reply_by-in-Ok.field-0.0))) (c.args.self.now.loads.accepted _ c.in-Ok.is)
    (record { is = answers c.in-Ok.card c.args.run (Err c.in_err-reply_by-in-Ok.field-0.0) c.in_err-reply_by-in-Ok.ensures }))

pub returns-in_ok-reply_by-in-Ok : goal.returns-in_ok-reply_by-in-Ok
returns-in_ok-reply_by-in-Ok c =
    subst (λ x. Answers x c.args.run (Ok c.in_ok-reply_by-in-Ok.field-0)) (c.args.self.now.loads.accepted _ c.in-Ok.is)
    (record { is = answers c.in-Ok.card c.args.run (Ok c.in_ok-reply_by-in-Ok.field-0) c.in_ok-reply_by-in-Ok.ensures })

pub returns-in-Err : goal.returns-in-Err
returns-in-Err c =
    refused_answers _ _ (c.args.self.now.loads.refused _ c.in-Err.is) _
