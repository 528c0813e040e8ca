-- `apart` meets its contract.
use Rattle.partition.proofs.ReducedLaws.{classed_split, split_grows}
use Rattle.partition.proofs.apart.Goals as goal

pub returns : goal.returns
returns c =
    let s = rw c.len.ensures at c.split.ensures in
    (classed_split _ _ _ _ _ _ _ _ (c.changes.ensures c.if-not-changes.false) c.requires.classed s, split_grows _ _ _ _ _ _ _ _ c.requires.classed s, c.accept_keys.ensures.long)
