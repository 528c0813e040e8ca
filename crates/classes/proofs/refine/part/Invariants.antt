-- `part` meets its contract: the states before p have their classes.
use mathlib.Core.Path.{◌≡◌}
use Prim.Native.Nat.{ℕ, ◌<◌}
use lib.ListN.{get_or}
use Rattle.classes.specs.Refine.{side_of}
use Rattle.classes.proofs.refine.part.Given as goal

abbrev pub invariant-loop-p : goal.invariant-loop-p
invariant-loop-p l =
    (q : ℕ) → q < l.p → get_or l.classes q 0 ≡ side_of l.table l.other q
