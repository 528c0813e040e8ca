-- `turn` meets its contract: what making the row and laying it out ask.
use Rattle.turns.proofs.TurnLaws.{turn_step}
use Rattle.subsets.proofs.turn.Goals as goal

pub next_row-sum-requires-clause-step : goal.next_row-sum-requires-clause-step
next_row-sum-requires-clause-step c =
    let a = c.args in rw c.row-from.ensures (turn_step a.operands.now a.found.now a.row.now a.turn c.requires.turning)
