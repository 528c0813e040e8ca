-- `weigh` meets its contract.
use native.Mathlib.Omega.{arith}
use Rattle.rows.proofs.SumLaws.{weight_small, weight_fits, weight_is}
use Rattle.rows.proofs.sum.weigh.Goals as goal

pub overflow_mul-result-2 : goal.overflow_mul-result-2
overflow_mul-result-2 c =
    omega (arith, weight_fits c.args.i c.requires)

pub overflow_add-result-2 : goal.overflow_add-result-2
overflow_add-result-2 c =
    omega (arith, weight_fits c.args.i c.requires)

pub returns : goal.returns
returns c =
    let e = weight_is c.args.i in (e, rw e (weight_small c.args.i))
