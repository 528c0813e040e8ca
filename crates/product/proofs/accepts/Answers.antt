-- `accepts` of a pair meets its contract.
use Rattle.sets.proofs.PairLaws.{pair_long, left_flag, right_flag, pair_accepts}
use native.Mathlib.Omega.{arith}
use Rattle.product.proofs.accepts.Goals as goal

pub read-p-requires : goal.read-p-requires
read-p-requires c =
    let args = c.args in
    omega (arith, pair_long args.operands.now args.from.now c.requires.source c.requires.pairs)

pub read-q-requires : goal.read-q-requires
read-q-requires c =
    let args = c.args in
    omega (arith, pair_long args.operands.now args.from.now c.requires.source c.requires.pairs)

pub accepts-x-requires : goal.accepts-x-requires
accepts-x-requires c =
    let args = c.args in
    rw c.read-p.ensures (left_flag args.operands.now args.from.now c.requires.source c.requires.pairs)

pub accepts-y-requires : goal.accepts-y-requires
accepts-y-requires c =
    let args = c.args in
    rw c.read-q.ensures (right_flag args.operands.now args.from.now c.requires.source c.requires.pairs)

pub returns : goal.returns
returns c =
    let args = c.args in
    pair_accepts args.operands.now args.from.now c.requires.source c.requires.pairs _ _ _
    (rw c.read-p.ensures at c.accepts-x.ensures) (rw c.read-q.ensures at c.accepts-y.ensures) c.combine.ensures
