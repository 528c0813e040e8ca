-- `capi::pier_shortest` meets its contract.
use Rattle.numbers.specs.Handed.{shortest_numbers}
use Rattle.numbers.specs.HandedLaws.{handed_as}
use Rattle.capi.proofs.pier_shortest.Goals as goal

pub returns : goal.returns
returns c =
    handed_as shortest_numbers _ _ _ c.blamed.ensures c.shortest.ensures
