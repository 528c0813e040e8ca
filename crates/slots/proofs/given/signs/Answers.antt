-- `slots::given::signs` meets its contract.
use native.Mathlib.Omega.{arith}
use Rattle.slots.specs.GivenSlots.{room_columns, signs_written}
use Rattle.slots.proofs.given.signs.Goals as goal

pub overflow_add-most-2 : goal.overflow_add-most-2
overflow_add-most-2 c =
    omega (arith, room_columns c.requires)

pub overflow_add-most-3 : goal.overflow_add-most-3
overflow_add-most-3 c =
    omega (arith, room_columns c.requires)

pub fill-requires-2 : goal.fill-requires-2
fill-requires-2 c =
    omega (arith, room_columns c.requires, c.requires.range.0, c.fill.ensures.long, c.header.ensures.long)

pub returns : goal.returns
returns c =
    let h = c.header in
    signs_written _ _ _ _ _ _ _ _ _ _ _ c.requires h.ensures c.fill.ensures c.fill-2.ensures
