-- `accepts` of a star meets its contract.
use Rattle.sets.proofs.StarLaws.{star_width, star_accepts}
use mathlib.Core.Path.{refl}
use native.Mathlib.Omega.{arith}
use Rattle.star.proofs.accepts.Goals as goal

pub bounds-from-na : goal.bounds-from-na
bounds-from-na c =
    let args = c.args in
    omega (arith, c.requires.source.long, star_width args.operands.now c.requires.op_value)

pub returns : goal.returns
returns c =
    let args = c.args in
    star_accepts args.operands.now c.requires.op_value args.from.now _ refl
