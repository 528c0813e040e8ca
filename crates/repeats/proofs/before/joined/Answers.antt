-- `joined` meets its contract.
use lib.ListN.{length}
use native.Mathlib.Omega.{arith}
use Rattle.sets.proofs.ConcatLaws.{concat_long, concat_left}
use Rattle.sets.proofs.FitLaws.{right_column}
use Rattle.repeats.proofs.BeforeLaws.{before_joined}
use Rattle.repeats.proofs.before.joined.Goals as goal

pub read-p-requires : goal.read-p-requires
read-p-requires c =
    let a = c.args in omega (arith, concat_long a.operands.now c.requires.op_value a.from.now c.requires.looks.source)

pub state-requires : goal.state-requires
state-requires c =
    let a = c.args in (c.requires.looks.some, rw c.read-p.ensures (concat_left a.operands.now c.requires.op_value a.from.now c.requires.looks.source), c.requires.looks.column)

pub listed-requires : goal.listed-requires
listed-requires c =
    record { c_nonzero = (c.requires.looks.some, right_column c.args.operands.now c.args.c c.requires.looks.column); counted = (rw c.requires.op_value at c.requires.listed).counted }

pub returns-then-state : goal.returns-then-state
returns-then-state c =
    let a = c.args in λ e. before_joined a.operands.now a.c a.from.now c.requires.looks c.requires.op_value c.read-p.result (length a.members.now) a.members.now c.read-p.ensures (c.state.ensures c.if-state.true) (rw c.requires.op_value at c.requires.listed) (c.listed.ensures e)
