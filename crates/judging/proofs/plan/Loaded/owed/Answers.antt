-- `owed` meets its contract.
use mathlib.Core.Path.{subst}
use Rattle.judging.specs.Plan.{Owed}
use Rattle.judging.proofs.PlanLaws.{owed_of, refused_owed}
use Rattle.judging.proofs.plan.Loaded.owed.Goals as goal

pub returns-in-Ok : goal.returns-in-Ok
returns-in-Ok c =
    subst (λ x. Owed x c.owed_table.result) (c.args.self.now.loads.accepted _ c.in-Ok.is) (owed_of c.in-Ok.card _ c.owed_table.ensures)

pub returns-in-Err : goal.returns-in-Err
returns-in-Err c =
    refused_owed _ _ (c.args.self.now.loads.refused _ c.in-Err.is) _
