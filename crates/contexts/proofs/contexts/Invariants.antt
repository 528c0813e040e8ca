-- `contexts::contexts` meets its contract: as the loop passes a context, what is left of the rule's form stays the same.
use mathlib.Core.Path.{◌≡◌}
use Prim.Native.Nat.{◌-◌}
use lib.ListN.{length}
use Rattle.signs.specs.Buffer.{Grown}
use Rattle.contexts.specs.Contexts.{MayEnd}
use Rattle.contexts.proofs.contexts.Given as goal

abbrev pub invariant-loop-t : goal.invariant-loop-t
invariant-loop-t l =
    MayEnd l.line l.out l.here l.operator × (length l.out ≡ length l.initial.out) × Grown l.initial.out l.initial.here.pos l.out l.here.pos

abbrev pub decreases-loop-t : goal.decreases-loop-t
decreases-loop-t l =
    length l.line - l.here.cursor.at
