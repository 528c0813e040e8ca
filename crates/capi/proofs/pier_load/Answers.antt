-- `capi::pier_load` meets its contract.
use Rattle.numbers.specs.Handed.{numbers}
use Rattle.numbers.specs.HandedLaws.{handed_as}
use Rattle.card.specs.Answer.{load_numbers}
use Rattle.capi.proofs.pier_load.Goals as goal

pub returns : goal.returns
returns c =
    handed_as (λ x. numbers (load_numbers x)) _ _ _ c.loaded.ensures c.counts.ensures
