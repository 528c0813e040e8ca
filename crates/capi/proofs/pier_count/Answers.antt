-- `capi::pier_count` meets its contract.
use Rattle.numbers.specs.Handed.{census_numbers}
use Rattle.numbers.specs.HandedLaws.{handed_as}
use Rattle.capi.proofs.pier_count.Goals as goal

pub returns : goal.returns
returns c =
    handed_as census_numbers _ _ _ c.census.ensures c.of_length.ensures
