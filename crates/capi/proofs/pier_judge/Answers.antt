-- `capi::pier_judge` meets its contract.
use Rattle.numbers.specs.Handed.{numbers}
use Rattle.numbers.specs.HandedLaws.{handed_as}
use Rattle.card.specs.Answer.{reply_numbers}
use Rattle.capi.proofs.pier_judge.Goals as goal

pub returns : goal.returns
returns c =
    handed_as (λ x. numbers (reply_numbers x)) _ _ _ c.judged.ensures c.judge.ensures
