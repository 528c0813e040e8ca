-- `begin` meets its contract on a card that is refused.
use Rattle.judging.proofs.PlanLaws.{refused_judges}
use Rattle.judging.proofs.plan.Loaded.begin.Goals as goal

pub returns-in-Err : goal.returns-in-Err
returns-in-Err c =
    refused_judges _ _ (c.args.self.now.loads.refused _ c.in-Err.is) _ _
