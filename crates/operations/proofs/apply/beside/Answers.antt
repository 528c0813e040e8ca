use mathlib.Core.Path.{◌∙◌}
use native.Mathlib.Omega.{arith}
use Rattle.answers.specs.Scratch.{same_room}
use Rattle.operations.specs.Apply.{lent_columns, double_room, raise_asks, raised, beside_bring, beside_apply, beside_makes}
use Rattle.operations.proofs.apply.beside.Goals as goal

pub overflow_mul-top : goal.overflow_mul-top
overflow_mul-top c =
    omega (arith, double_room c.requires.doubling)

pub overflow_add-m : goal.overflow_add-m
overflow_add-m c =
    omega (arith, lent_columns c.requires.doubling.lent)

pub raise-requires : goal.raise-requires
raise-requires c =
    let r = raise_asks c.requires.doubling in record { slot = r.0; k_bound = r.1 }

pub bring-requires : goal.bring-requires
bring-requires c =
    beside_bring c.requires (raised c.requires.doubling _ c.raise.ensures)

pub overflow_add-top : goal.overflow_add-top
overflow_add-top c =
    omega (arith, c.requires.doubling.low)

pub apply-requires : goal.apply-requires
apply-requires c =
    beside_apply c.requires (raised c.requires.doubling _ c.raise.ensures) c.bring.ensures (same_room c.args.scratch.now)

pub shape_of-stack : goal.shape_of-stack
shape_of-stack c =
    c.apply.auto.stack ∙ c.bring.auto.stack ∙ c.raise.auto.s

pub returns-clause-made : goal.returns-clause-made
returns-clause-made c =
    beside_makes c.requires c.args.op (raised c.requires.doubling _ c.raise.ensures) c.bring.ensures c.apply.ensures.made
