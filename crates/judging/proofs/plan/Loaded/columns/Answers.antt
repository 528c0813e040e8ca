-- `columns` meets its contract.
use mathlib.Core.Path.{subst}
use Rattle.judging.specs.Plan.{Columns}
use Rattle.judging.proofs.PlanLaws.{columns_of, refused_columns}
use Rattle.judging.proofs.plan.Loaded.columns.Goals as goal

pub returns-in-Ok : goal.returns-in-Ok
returns-in-Ok c =
    subst (λ x. Columns x c.of.result.columns) (c.args.self.now.loads.accepted _ c.in-Ok.is) (columns_of c.in-Ok.card _ (rw c.of.ensures at c.of.result.right))

pub returns-in-Err : goal.returns-in-Err
returns-in-Err c =
    refused_columns _ _ (c.args.self.now.loads.refused _ c.in-Err.is) _
