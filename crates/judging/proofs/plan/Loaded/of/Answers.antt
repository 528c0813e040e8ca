-- `of` meets its contract: what loading answers of the bytes.
use Rattle.judging.proofs.PlanLaws.{loads_of}
use Rattle.judging.proofs.plan.Loaded.of.Goals as goal

pub invariant_of-result : goal.invariant_of-result
invariant_of-result c =
    record { loads = loads_of _ _ c.load.ensures.loads c.load.ensures.same }
