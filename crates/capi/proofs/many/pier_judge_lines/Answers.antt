-- `capi::pier_judge_lines` meets its contract.
use Rattle.capi.specs.Lines.{many_as}
use Rattle.capi.proofs.many.pier_judge_lines.Goals as goal

pub returns : goal.returns
returns c =
    many_as _ _ _ _ _ _ _ c.judge_lines.ensures c.counted.ensures
