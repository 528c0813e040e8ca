-- `start` of a concatenation meets its contract.
use native.Mathlib.Omega.{arith}
use Rattle.rows.proofs.SumLaws.{summed_fits}
use Rattle.sets.proofs.ConcatLaws.{tail_long, concat_room, concat_tail, concat_put, concat_start}
use Rattle.concatenation.proofs.start.Goals as goal

pub slice_bounds-first_flags-count : goal.slice_bounds-first_flags-count
slice_bounds-first_flags-count c =
    omega (arith, c.requires.row_len, concat_room c.args.operands.now c.requires.op_value)

pub slice_bounds-first_flags-start : goal.slice_bounds-first_flags-start
slice_bounds-first_flags-start c =
    omega (arith, c.requires.row_len, concat_room c.args.operands.now c.requires.op_value)

pub first_flags-sum-requires : goal.first_flags-sum-requires
first_flags-sum-requires c =
    let n = concat_tail c.args.operands.now c.requires.op_value c.args.row.now c.requires.row_len in
    (omega (arith, n, c.args.operands.now.right.closed.some), omega (arith, n, c.args.operands.now.fits.right_small))

pub write-requires : goal.write-requires
write-requires c =
    let room = concat_room c.args.operands.now c.requires.op_value in
    record { i_in_bounds = omega (arith, tail_long c.args.row.now c.first_flags-sum.new.flags (omega (arith, c.requires.row_len, room)) c.first_flags-sum.auto.flags, c.requires.row_len, room); p_bound = omega arith }

pub with_number-requires : goal.with_number-requires
with_number-requires c =
    (omega arith, omega arith, summed_fits c.first_flags-sum.ensures.1)

pub returns : goal.returns
returns c =
    let a = c.args in
    let n = concat_tail a.operands.now c.requires.op_value a.row.now c.requires.row_len in
    let (z, y) = concat_put a.operands.now c.requires.op_value a.row.now c.first_flags-sum.new.flags _ 0 _ _ c.requires.row_len c.first_flags-sum.ensures.1 c.write.ensures c.with_number.ensures in
    (concat_start a.operands.now c.requires.op_value _ c.first_flags-sum.new.flags _ n c.first_flags-sum.ensures.0 z, y)
