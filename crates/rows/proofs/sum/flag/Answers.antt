-- `flag` meets its contract.
use mathlib.Core.Path.{refl}
use native.Mathlib.Omega.{arith}
use Rattle.rows.proofs.SumLaws.{summed_fits, flag_there, flag_more}
use Rattle.rows.proofs.sum.flag.Goals as goal

pub returns-then-row-i-ne0 : goal.returns-then-row-i-ne0
returns-then-row-i-ne0 c =
    let e = flag_there c.args.i c.requires.summed c.requires.i_in_bounds c.if-row-i-ne0.true in (e, c.requires.summed)

pub overflow_add-result : goal.overflow_add-result
overflow_add-result c =
    omega (arith, summed_fits c.requires.summed, c.weigh.ensures.1)

pub returns : goal.returns
returns c =
    (refl, flag_more c.args.i _ c.requires.summed c.requires.i_in_bounds c.if-row-i-ne0.false c.weigh.ensures.0)
