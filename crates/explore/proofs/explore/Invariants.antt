-- `explore` meets its contract: the transitions are laid out one by one, then the flags.
use mathlib.Core.Path.{◌≡◌}
use Prim.Native.Nat.{◌*◌, ◌-◌, ◌<◌, ◌≤◌}
use lib.ListN.{length}
use Rattle.rows.specs.Found.{Kept}
use Rattle.rows.specs.Rows.{row_at}
use Rattle.sets.specs.Fits.{ListedFor}
use Rattle.explore.proofs.ExploreLaws.{Running}
use Rattle.explore.proofs.explore.Given as goal

abbrev pub invariant-loop-turn : goal.invariant-loop-turn
invariant-loop-turn l =
    Running l.operands l.found l.row l.turn × Kept l.initial.found l.found × (length l.row ≡ length l.initial.row) × (length l.members ≡ length l.initial.members) × (0 < l.turn.column → ListedFor l.operands (row_at l.operands.width l.turn.state l.found.rows.now) l.held l.members) × (l.held ≤ length l.members)

abbrev pub decreases-loop-turn : goal.decreases-loop-turn
decreases-loop-turn l =
    l.operands.limit * l.operands.left.columns - l.turn.place
