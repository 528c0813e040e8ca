-- `start` of a pair meets its contract.
use native.Mathlib.Omega.{arith}
use Rattle.sets.proofs.PairLaws.{pair_room, pair_start}
use Rattle.product.proofs.start.Goals as goal

pub write-requires : goal.write-requires
write-requires c =
    record { i_in_bounds = omega (arith, c.requires.row_len, pair_room c.args.operands.now c.requires.pairs); p_bound = omega arith }

pub write-requires-2 : goal.write-requires-2
write-requires-2 c =
    record { i_in_bounds = omega (arith, c.write.auto.bytes, c.requires.row_len, pair_room c.args.operands.now c.requires.pairs); p_bound = omega arith }

pub returns : goal.returns
returns c =
    pair_start c.args.operands.now c.requires.pairs c.args.row.now _ _ c.requires.row_len c.write.ensures c.write-2.ensures
