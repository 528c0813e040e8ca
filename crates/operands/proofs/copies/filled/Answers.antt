-- `operands::copies::filled` meets its contract: the length is that of the slot's machine.
use Rattle.std.proofs.Common.{refl, arith}
use Rattle.operands.specs.Stack.{counted}
use Rattle.operands.proofs.copies.filled.Goals as goal

pub read-requires : goal.read-requires
read-requires c =
    omega (arith, counted c.args.s.now c.args.at _ c.requires refl)

pub overflow_mul-len : goal.overflow_mul-len
overflow_mul-len c =
    omega (arith, counted c.args.s.now c.args.at _ c.requires c.read.ensures)

pub overflow_add-len : goal.overflow_add-len
overflow_add-len c =
    omega (arith, counted c.args.s.now c.args.at _ c.requires c.read.ensures)

pub overflow_add-len-2 : goal.overflow_add-len-2
overflow_add-len-2 c =
    omega (arith, counted c.args.s.now c.args.at _ c.requires c.read.ensures)

pub returns-clause-bytes : goal.returns-clause-bytes
returns-clause-bytes c =
    (counted c.args.s.now c.args.at _ c.requires c.read.ensures).0

pub returns-clause-bounds : goal.returns-clause-bounds
returns-clause-bounds c =
    let e = counted c.args.s.now c.args.at _ c.requires c.read.ensures in
    (e.1, omega (arith, e.2))
