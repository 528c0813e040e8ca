-- `operations::apply::star_above` meets its contract.
use mathlib.Core.Path.{◌∙◌}
use native.Mathlib.Omega.{arith}
use Rattle.operations.specs.Apply.{lent_columns, double_room, raise_asks, raised, star_asks, starred}
use Rattle.operations.proofs.apply.star_above.Goals as goal

pub overflow_mul-top : goal.overflow_mul-top
overflow_mul-top c =
    omega (arith, double_room c.requires)

pub overflow_add-m : goal.overflow_add-m
overflow_add-m c =
    omega (arith, lent_columns c.requires.lent)

pub raise-requires : goal.raise-requires
raise-requires c =
    let r = raise_asks c.requires in record { slot = r.0; k_bound = r.1 }

pub overflow_add-top : goal.overflow_add-top
overflow_add-top c =
    omega (arith, c.requires.low)

pub overflow_add-top-2 : goal.overflow_add-top-2
overflow_add-top-2 c =
    omega (arith, c.requires.low)

pub apply-requires : goal.apply-requires
apply-requires c =
    star_asks c.requires (raised c.requires _ c.raise.ensures)

pub shape_of-stack : goal.shape_of-stack
shape_of-stack c =
    c.apply.auto.stack ∙ c.raise.auto.s

pub returns-clause-made : goal.returns-clause-made
returns-clause-made c =
    starred c.requires (raised c.requires _ c.raise.ensures) c.apply.ensures.made
