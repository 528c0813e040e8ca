-- `put` meets its contract.
use mathlib.Core.Path.{◌∙◌}
use native.Mathlib.Omega.{arith}
use Rattle.plans.proofs.ManyLaws.{three_put}
use Rattle.plans.proofs.put.Goals as goal

pub returns : goal.returns
returns c =
    three_put _ _ _ _ _ (c.copy_from_slice.ensures.after ∙ c.numbers.ensures) (omega arith) c.requires
