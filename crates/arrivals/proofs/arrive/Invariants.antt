-- `arrive` meets its contract: two letters a turn.
use Prim.Native.Nat.{◌-◌}
use lib.ListN.{length}
use Rattle.arrivals.proofs.RoundLaws.{Going}
use Rattle.arrivals.proofs.arrive.Given as goal

abbrev pub invariant-loop : goal.invariant-loop
invariant-loop l = Going l.moves l.m l.k (length l.initial.here) l.here l.next (l.end - l.counter)
