-- `mark` meets its contract. The loop: the flags below i are written.
use mathlib.Core.Path.{◌≡◌}
use Prim.Native.Nat.{ℕ, ◌≤◌, ◌<◌}
use lib.ListN.{get_or}
use Rattle.entries.specs.Entries.{flag_bit}
use Rattle.minimise.proofs.number.mark.Given as goal

abbrev pub invariant-loop-i : goal.invariant-loop-i
invariant-loop-i l =
    ((q : ℕ) → q < l.i → get_or l.slot q 0 ≡ flag_bit l.table.cells.now (get_or l.order q 0))
    × ((q : ℕ) → l.m ≤ q → get_or l.slot q 0 ≡ get_or l.initial.slot q 0)
