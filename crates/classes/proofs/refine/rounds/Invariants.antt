-- `rounds` meets its contract. The loop: equivalent states are in one class; the number of classes grows with each turn.
use Prim.Native.Nat.{◌≤◌}
use Rattle.entries.specs.Classes.{Refining}
use Rattle.classes.proofs.refine.rounds.Given as goal

abbrev pub invariant-loop : goal.invariant-loop
invariant-loop l =
    (l.counter ≤ l.count) × Refining l.table l.classes l.count
