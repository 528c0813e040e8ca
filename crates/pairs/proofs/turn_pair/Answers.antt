-- `turn_pair` meets its contract: a pair's states lead to states, and the pair of these is what the row leads to.
use Rattle.sets.proofs.FitLaws.{right_column}
use Rattle.turns.proofs.TurnLaws.{two_left, two_right, two_next}
use Rattle.pairs.proofs.turn_pair.Goals as goal

pub target-requires : goal.target-requires
target-requires c =
    let a = c.args in
    record { p_lt_states = two_left a.operands.now a.found.now a.row.now a.turn c.requires.turning c.requires.pairs c.read-p.result (rw c.row-from.ensures at c.read-p.ensures); c_lt_columns = c.requires.turning.place.column }

pub target-requires-2 : goal.target-requires-2
target-requires-2 c =
    let a = c.args in
    record { p_lt_states = two_right a.operands.now a.found.now a.row.now a.turn c.requires.turning c.requires.pairs c.read-r.result (rw c.row-from.ensures at c.read-r.ensures); c_lt_columns = right_column a.operands.now a.turn.column c.requires.turning.place.column }

pub returns-clause-turned : goal.returns-clause-turned
returns-clause-turned c =
    let a = c.args in
    c.lay.ensures.turned _ c.requires.turning.partial (two_next a.operands.now a.found.now a.row.now a.turn c.requires.turning c.requires.pairs c.read-p.result c.read-r.result _ _ (rw c.row-from.ensures at c.read-p.ensures) (rw c.row-from.ensures at c.read-r.ensures) c.target.ensures c.target-2.ensures)
