-- `of` meets its contract: the table is that of the walker's card.
use Rattle.run.proofs.judge.Judge.of.Goals as goal

pub invariant_of-result : goal.invariant_of-result
invariant_of-result c =
    record { right = rw c.of.ensures c.owed_table.ensures }
