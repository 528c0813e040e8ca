-- `spread` meets its contract.
use Rattle.spread.proofs.SpreadLaws.{spread_refining}
use Rattle.spread.proofs.spread.Goals as goal

pub returns : goal.returns
returns c =
    spread_refining _ _ _ _ _ (c.changes.ensures.alike c.if-not-changes.false) c.gather.ensures c.gather-2.ensures
