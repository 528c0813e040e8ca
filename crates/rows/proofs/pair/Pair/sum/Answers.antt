-- `sum` meets its contract.
use Rattle.std.proofs.Common.{arith}
use Rattle.rows.proofs.PairRowLaws.{pair_sum}
use Rattle.rows.proofs.SumLaws.{number_small}
use Rattle.rows.proofs.pair.Pair.sum.Goals as goal

pub with_number-requires : goal.with_number-requires
with_number-requires c =
    (omega arith, omega arith, omega (arith, number_small c.args.self.y 2 0 _ (omega arith) c.with_number-high.ensures))

pub returns : goal.returns
returns c = pair_sum c.args.self.x c.args.self.y _ _ c.with_number-high.ensures c.with_number.ensures
