-- `accept_keys` meets its contract: the states passed have their keys.
use Rattle.splits.proofs.KeyLaws.{accept_done}
use Rattle.splits.proofs.accept_keys.Goals as goal

pub returns : goal.returns
returns c = accept_done _ _ _ c.loop-p-test.false c.loop-p.invariant
