-- `operations::apply::apply` meets its contract.
use native.Mathlib.Omega.{arith}
use Rattle.std.proofs.lemmas.Result.{err_from_is_err_and}
use Rattle.operations.specs.Apply.{apply_ready, apply_made, apply_stops, slot_room}
use Rattle.operations.proofs.apply.apply.Goals as goal

pub overflow_mul-left : goal.overflow_mul-left
overflow_mul-left c =
    omega (arith, slot_room c.requires.lent _ c.requires.low, slot_room c.requires.lent _ c.requires.high)

pub overflow_mul-right : goal.overflow_mul-right
overflow_mul-right c =
    omega (arith, slot_room c.requires.lent _ c.requires.low, slot_room c.requires.lent _ c.requires.high)

pub stage-requires : goal.stage-requires
stage-requires c =
    apply_ready c.requires

pub returns-in_err-made-clause-made : goal.returns-in_err-made-clause-made
returns-in_err-made-clause-made c =
    let p = err_from_is_err_and c.from_residual.result c.from_residual.ensures.1 in
    rw (p.1, p.2) (apply_stops _ _ _ _ _ _ _ _ c.in_err-made.ensures.done)

pub returns-clause-made : goal.returns-clause-made
returns-clause-made c =
    apply_made _ _ _ _ _ _ _ _ c.in_ok-made.ensures.done
