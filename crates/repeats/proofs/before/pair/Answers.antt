-- `pair` meets its contract.
use native.Mathlib.Omega.{arith}
use Rattle.sets.proofs.FitLaws.{right_column}
use Rattle.sets.proofs.PairLaws.{pair_long, pair_left, pair_right}
use Rattle.repeats.proofs.BeforeLaws.{before_pair}
use Rattle.repeats.proofs.before.pair.Goals as goal

pub read-p-requires : goal.read-p-requires
read-p-requires c =
    let a = c.args in omega (arith, pair_long a.operands.now a.from.now c.requires.looks.source c.requires.pairs)

pub state-requires : goal.state-requires
state-requires c =
    let a = c.args in (c.requires.looks.some, rw c.read-p.ensures (pair_left a.operands.now a.from.now c.requires.looks.source c.requires.pairs), c.requires.looks.column)

pub read-r-requires : goal.read-r-requires
read-r-requires c =
    let a = c.args in omega (arith, pair_long a.operands.now a.from.now c.requires.looks.source c.requires.pairs)

pub state-requires-then-state : goal.state-requires-then-state
state-requires-then-state c =
    let a = c.args in (c.requires.looks.some, rw c.read-r.ensures (pair_right a.operands.now a.from.now c.requires.looks.source c.requires.pairs), right_column a.operands.now a.c c.requires.looks.column)

pub returns-then-state : goal.returns-then-state
returns-then-state c =
    let a = c.args in λ e. before_pair a.operands.now a.c a.from.now c.requires.looks c.requires.pairs c.read-p.result c.read-r.result c.read-p.ensures c.read-r.ensures (c.state.ensures c.if-state.true) (c.state-then-state.ensures e)
