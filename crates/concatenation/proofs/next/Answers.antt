-- `next` of a concatenation meets its contract.
use native.Mathlib.Omega.{arith}
use lib.ListN.{length}
use Rattle.rows.proofs.SumLaws.{summed_fits}
use Rattle.flags.proofs.TableLaws.{flag_in}
use Rattle.sets.proofs.ConcatLaws.{tail_long, concat_room, concat_tail, concat_long, concat_left, concat_put, concat_asks, concat_next}
use Rattle.concatenation.proofs.next.Goals as goal

pub read-p-requires : goal.read-p-requires
read-p-requires c =
    omega (arith, concat_long c.args.operands.now c.requires.op_value c.args.from.now c.requires.step.source)

pub target-x-requires : goal.target-x-requires
target-x-requires c =
    record { p_lt_states = rw c.read-p.ensures (concat_left c.args.operands.now c.requires.op_value c.args.from.now c.requires.step.source); c_lt_columns = c.requires.step.column }

pub slice_bounds-next_flags-count : goal.slice_bounds-next_flags-count
slice_bounds-next_flags-count c =
    omega (arith, c.requires.step.long, concat_room c.args.operands.now c.requires.op_value)

pub slice_bounds-next_flags-start : goal.slice_bounds-next_flags-start
slice_bounds-next_flags-start c =
    omega (arith, c.requires.step.long, concat_room c.args.operands.now c.requires.op_value)

pub next_flags-sum-requires : goal.next_flags-sum-requires
next_flags-sum-requires c =
    let a = c.args in
    let n = concat_tail a.operands.now c.requires.op_value a.row.now c.requires.step.long in record { x_in_bounds = (flag_in a.operands.now.left _ c.target-x.ensures.inside, omega (arith, n, c.args.operands.now.right.closed.some)); pours = concat_asks a.operands.now c.requires.op_value a.from.now c.requires.step.source a.c c.requires.step.column a.members.now (length a.members.now) c.requires.lists a.row.now c.requires.step.long }

pub write-requires : goal.write-requires
write-requires c =
    let a = c.args in
    let room = concat_room a.operands.now c.requires.op_value in record { i_in_bounds = omega (arith, tail_long a.row.now c.next_flags-sum.new.flags (omega (arith, c.requires.step.long, room)) c.next_flags-sum.auto.flags, c.requires.step.long, room); p_bound = omega (arith, c.target-x.ensures.inside, a.operands.now.fits.left_small) }

pub with_number-requires : goal.with_number-requires
with_number-requires c =
    let a = c.args in
    (omega (arith, c.target-x.ensures.inside, a.operands.now.fits.left_small), omega arith, summed_fits c.next_flags-sum.ensures.1)

pub returns : goal.returns
returns c =
    let a = c.args in
    let n = concat_tail a.operands.now c.requires.op_value a.row.now c.requires.step.long in
    let to = rw c.read-p.ensures at c.target-x.ensures in
    let (z, y) = concat_put a.operands.now c.requires.op_value a.row.now c.next_flags-sum.new.flags _ c.target-x.result _ _ c.requires.step.long c.next_flags-sum.ensures.1 c.write.ensures c.with_number.ensures in
    (concat_next a.operands.now c.requires.op_value a.from.now c.requires.step.source a.c c.requires.step.column a.members.now (length a.members.now) c.requires.lists _ c.next_flags-sum.new.flags _ c.target-x.result n to c.next_flags-sum.ensures.0 z, y)
