-- `operations::apply::plus` meets its contract.
use native.Mathlib.Omega.{arith}
use mathlib.Core.Path.{refl}
use Rattle.operations.specs.Apply.{plus_done}
use Rattle.operations.proofs.apply.plus.Goals as goal

pub overflow_add-top : goal.overflow_add-top
overflow_add-top c =
    omega (arith, c.requires.low)

pub returns-clause-made : goal.returns-clause-made
returns-clause-made c =
    plus_done c.requires c.in_ok-starred.ensures.made _ refl _ c.in_ok-joined.ensures.made refl _ c.max.ensures
