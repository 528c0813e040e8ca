-- `gain` meets its contract.
use mathlib.Core.Path.{◌∙◌}
use Rattle.sets.proofs.ConcatLaws.{gain_yes, gain_no}
use Rattle.concatenation.proofs.gain.Goals as goal

pub returns-then-accepts : goal.returns-then-accepts
returns-then-accepts c =
    (c.flag.ensures.0 ∙ gain_yes _ _ c.args.flags.now c.accepts.ensures c.if-accepts.true, c.flag.ensures.1)

pub returns : goal.returns
returns c =
    (gain_no _ _ c.args.flags.now c.accepts.ensures c.if-accepts.false, c.requires.summed)
