-- `reduced` meets its contract.
use Rattle.partition.proofs.ReducedLaws.{reduced_exactly}
use Rattle.partition.proofs.reduced.Goals as goal

pub returns : goal.returns
returns c = rw c.len.ensures (reduced_exactly _ _ _ _ _ c.settle.ensures)
