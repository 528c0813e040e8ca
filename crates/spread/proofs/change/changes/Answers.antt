-- `changes` meets its contract.
use Rattle.std.proofs.lemmas.List.{map-id}
use Rattle.spread.proofs.ChangeLaws.{settling}
use Rattle.spread.proofs.change.changes.Goals as goal

pub returns : goal.returns
returns c =
    settling c.args.table.now _ _ (rw map-id at c.changes.ensures)
