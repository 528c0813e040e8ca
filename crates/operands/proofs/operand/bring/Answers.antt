use native.Mathlib.Omega.{arith}
use Rattle.operands.specs.Operand.{part_long, part_writable, column_most, brought_letter, brought_given, brought_low, brought_high, brought_register, low_room, high_room, register_room, columns_fit, low_asks, high_asks, register_asks}
use Rattle.operands.proofs.operand.bring.Goals as goal

pub overflow_mul-at : goal.overflow_mul-at
overflow_mul-at c =
    omega (arith, c.requires.room)

pub overflow_add-end : goal.overflow_add-end
overflow_add-end c =
    omega (arith, c.requires.room)

pub overflow_add-k : goal.overflow_add-k
overflow_add-k c =
    omega (arith, columns_fit c.requires)

pub slice_bounds-letter-count : goal.slice_bounds-letter-count
slice_bounds-letter-count c =
    omega arith

pub slice_bounds-letter-start : goal.slice_bounds-letter-start
slice_bounds-letter-start c =
    omega (arith, c.requires.room)

pub slice_bounds-letter-end : goal.slice_bounds-letter-end
slice_bounds-letter-end c =
    omega (arith, c.requires.room)

pub letter-requires : goal.letter-requires
letter-requires c =
    record { le_most = (c.requires.shelves.states, part_long c.requires); c_le_m = column_most c.args.letters.now c.in-Letter.b _ c.place-c.ensures }

pub overflow_sub-b : goal.overflow_sub-b
overflow_sub-b c =
    omega (arith, low_room c.requires _ c.in-Name.is c.if-b-le77.true)

pub overflow_mul-b : goal.overflow_mul-b
overflow_mul-b c =
    omega (arith, low_room c.requires _ c.in-Name.is c.if-b-le77.true)

pub copy-requires : goal.copy-requires
copy-requires c =
    let r = low_asks c.requires _ c.in-Name.is c.if-b-le77.true in record { slot = r.0; k_in_bounds = r.1 }

pub overflow_mul-b-else-b-le77 : goal.overflow_mul-b-else-b-le77
overflow_mul-b-else-b-le77 c =
    omega (arith, high_room c.requires _ c.in-Name.is c.if-b-le77.false)

pub copy-requires-else-b-le77 : goal.copy-requires-else-b-le77
copy-requires-else-b-le77 c =
    let r = high_asks c.requires _ c.in-Name.is c.if-b-le77.false in record { slot = r.0; k_in_bounds = r.1 }

pub slice_bounds-given-count : goal.slice_bounds-given-count
slice_bounds-given-count c =
    omega arith

pub slice_bounds-given-start : goal.slice_bounds-given-start
slice_bounds-given-start c =
    omega (arith, c.requires.room)

pub slice_bounds-given-end : goal.slice_bounds-given-end
slice_bounds-given-end c =
    omega (arith, c.requires.room)

pub given-requires : goal.given-requires
given-requires c =
    part_writable c.requires

pub overflow_mul-index : goal.overflow_mul-index
overflow_mul-index c =
    omega (arith, register_room c.requires _ _ c.index.ensures)

pub copy-requires-in-Register : goal.copy-requires-in-Register
copy-requires-in-Register c =
    let r = register_asks c.requires _ _ c.index.ensures c.in-Register.is in record { slot = r.0; k_in_bounds = r.1 }

pub returns-in-Letter : goal.returns-in-Letter
returns-in-Letter c =
    brought_letter c.requires _ _ _ c.in-Letter.is c.place-c.ensures c.letter.auto.slot c.letter.ensures

pub shape_of-stack-then-b-le77 : goal.shape_of-stack-then-b-le77
shape_of-stack-then-b-le77 c =
    c.copy.auto.dst

pub returns-then-b-le77 : goal.returns-then-b-le77
returns-then-b-le77 c =
    brought_low c.requires _ _ c.in-Name.is c.if-b-le77.true c.copy.ensures

pub shape_of-stack-else-b-le77 : goal.shape_of-stack-else-b-le77
shape_of-stack-else-b-le77 c =
    c.copy-else-b-le77.auto.dst

pub returns-else-b-le77 : goal.returns-else-b-le77
returns-else-b-le77 c =
    brought_high c.requires _ _ c.in-Name.is c.if-b-le77.false c.copy-else-b-le77.ensures

pub returns-in-Given : goal.returns-in-Given
returns-in-Given c =
    brought_given c.requires _ _ c.in-Given.is c.given.auto.slot c.given.ensures

pub shape_of-stack-in-Register : goal.shape_of-stack-in-Register
shape_of-stack-in-Register c =
    c.copy-in-Register.auto.dst

pub returns-in-Register : goal.returns-in-Register
returns-in-Register c =
    brought_register c.requires _ _ c.index.ensures _ c.in-Register.is c.copy-in-Register.ensures
