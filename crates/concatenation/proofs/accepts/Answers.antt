-- `accepts` of a concatenation meets its contract.
use Rattle.sets.proofs.ConcatLaws.{concat_long, concat_flags, concat_accepts}
use native.Mathlib.Omega.{arith}
use Rattle.concatenation.proofs.accepts.Goals as goal

pub slice_bounds-some_accepting-count : goal.slice_bounds-some_accepting-count
slice_bounds-some_accepting-count c =
    let args = c.args in
    omega (arith, concat_long args.operands.now c.requires.op_value args.from.now c.requires.source)

pub slice_bounds-some_accepting-start : goal.slice_bounds-some_accepting-start
slice_bounds-some_accepting-start c =
    let args = c.args in
    omega (arith, concat_long args.operands.now c.requires.op_value args.from.now c.requires.source)

pub some_accepting-requires : goal.some_accepting-requires
some_accepting-requires c =
    let args = c.args in
    omega (arith, args.operands.now.right.closed.long, args.operands.now.right.closed.flags, concat_flags args.operands.now c.requires.op_value args.from.now c.requires.source)

pub returns : goal.returns
returns c =
    let args = c.args in
    concat_accepts args.operands.now c.requires.op_value args.from.now c.requires.source _ _ (concat_flags args.operands.now c.requires.op_value args.from.now c.requires.source) c.some_accepting.ensures
