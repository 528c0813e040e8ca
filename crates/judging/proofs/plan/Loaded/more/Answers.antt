-- `more` meets its contract.
use mathlib.Core.Path.{subst}
use Rattle.judging.specs.Plan.{More}
use Rattle.judging.proofs.PlanLaws.{goes_more, refused_more}
use Rattle.judging.proofs.plan.Loaded.more.Goals as goal

pub returns-in-Ok : goal.returns-in-Ok
returns-in-Ok c =
    subst (λ x. More x c.args.run c.args.piece.now c.piece.result) (c.args.self.now.loads.accepted _ c.in-Ok.is) (goes_more c.in-Ok.card _ _ _ c.piece.ensures)

pub returns-in-Err : goal.returns-in-Err
returns-in-Err c =
    refused_more _ _ (c.args.self.now.loads.refused _ c.in-Err.is) _ _
