-- `number` meets its contract. The loop: i rows are written, and the order is the listing after i turns.
use Prim.Native.Nat.{◌-◌}
use Rattle.minimise.proofs.NumberLaws.{Arranged}
use Rattle.minimise.proofs.number.number.Given as goal

abbrev pub invariant-loop-i : goal.invariant-loop-i
invariant-loop-i l =
    Arranged l.table l.most l.i l.m l.numbers l.order l.slot

abbrev pub decreases-loop-i : goal.decreases-loop-i
decreases-loop-i l =
    l.most - l.i
