-- `leader` meets its contract. The loop: r leads a class, and no later leader goes with p; the measure is r, since the links go down.
use mathlib.Core.List.{List}
use Prim.Native.Nat.{ℕ}
use Rattle.entries.specs.Entries.{class_of, machine_of}
use Rattle.leaders.specs.Round.{Under}
use Rattle.leaders.proofs.RoundLaws.{Searching}
use Rattle.leaders.proofs.leader.Given as goal

abbrev pub invariant-loop-r : goal.invariant-loop-r
invariant-loop-r l =
    (next : List ℕ) → Under l.table l.p l.classes next l.links → Searching l.table.columns (machine_of l.table) (class_of l.classes) (class_of next) l.p l.r

abbrev pub decreases-loop-r : goal.decreases-loop-r
decreases-loop-r l =
    l.r
