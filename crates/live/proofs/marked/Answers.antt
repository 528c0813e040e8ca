-- `marked` meets its contract.
use Rattle.live.proofs.LiveLaws.{marks_exact}
use Rattle.live.proofs.marked.Goals as goal

pub returns : goal.returns
returns c = marks_exact _ _ _ _ c.live.array_long c.args.states.table c.live.ensures _ c.all_right.ensures
