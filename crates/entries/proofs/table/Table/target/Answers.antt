-- `target` meets its contract: the cell lies in the table.
use Rattle.entries.proofs.EntryLaws.{cell_target}
use Rattle.entries.proofs.table.Table.target.Goals as goal

pub returns : goal.returns
returns c =
    rw c.from.ensures (cell_target c.args.self.now c.args.p c.args.c c.requires.p_lt_states c.requires.c_lt_columns)
