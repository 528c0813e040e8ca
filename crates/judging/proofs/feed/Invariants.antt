-- `feed` meets its contract: the bytes so far are taken in.
use mathlib.Core.Path.{◌≡◌}
use Prim.Native.Nat.{◌-◌}
use lib.ListN.{length}
use Rattle.judging.proofs.LinesLaws.{Upto}
use Rattle.judging.proofs.feed.Given as goal

abbrev pub invariant-loop-from : goal.invariant-loop-from
invariant-loop-from l =
    (length l.out ≡ length l.initial.out) × Upto l.tested.bytes.now l.bytes l.initial.run l.initial.open l.from l.run l.open l.out l.at

abbrev pub decreases-loop-from : goal.decreases-loop-from
decreases-loop-from l =
    length l.bytes - l.from
