-- `capi::pier_step` meets its contract.
use Rattle.numbers.specs.Handed.{step_handed}
use Rattle.numbers.specs.HandedLaws.{handed_as}
use Rattle.card.specs.Answer.{step_numbers}
use Rattle.capi.proofs.pier_step.Goals as goal

pub returns : goal.returns
returns c =
    handed_as (λ x. step_handed (step_numbers x)) _ _ _ c.stepped.ensures c.step.ensures
