-- `next` meets its contract: a place of the part behind the first i is that place, i further.
use Prim.Native.Nat.{◌+◌, ◌*◌}
use native.Mathlib.Omega.{arith}
use Rattle.run.proofs.WalkLaws.{column_at}
use Rattle.run.proofs.next.Goals as goal

pub overflow_cast-result : goal.overflow_cast-result
overflow_cast-result c =
    omega (arith, column_at c.args.moves.now c.args.m c.args.s c.args.i c.requires, c.type_inv.moves (c.args.s * c.args.m + c.args.i))

pub returns : goal.returns
returns c =
    let e = column_at c.args.moves.now c.args.m c.args.s c.args.i c.requires in
    (e, omega (arith, e, c.type_inv.moves (c.args.s * c.args.m + c.args.i)))
