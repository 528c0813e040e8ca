-- `list` meets its contract.
use Rattle.std.proofs.Common.{◌∙◌, ap}
use lib.ListN.{length}
use Rattle.rows.proofs.RowLaws.{row_part, row_length}
use Rattle.readings.proofs.list.Goals as goal

pub gather-requires-clause-long : goal.gather-requires-clause-long
gather-requires-clause-long c =
    let a = c.args in
    ap length (row_part a.shape.width a.turn.state a.rows.now) ∙ row_length a.shape.width a.turn.state a.rows.now c.requires.w_in_bounds

pub returns-clause-listed : goal.returns-clause-listed
returns-clause-listed c =
    let a = c.args in rw (row_part a.shape.width a.turn.state a.rows.now) at c.gather.ensures.listed
