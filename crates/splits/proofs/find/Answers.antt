-- `find` meets its contract: each state with the key is still ahead.
use Rattle.splits.proofs.ClassLaws.{find_start, find_next}
use Rattle.splits.proofs.find.Goals as goal

pub loop-r-init : goal.loop-r-init
loop-r-init c = find_start _ _ _ _ _ c.requires.start_le_n.0

pub loop-r-preserved : goal.loop-r-preserved
loop-r-preserved c = find_next _ _ _ _ _ _ c.requires.links c.loop-r.invariant c.loop-r-test.true c.if-link-r-ne0.true
