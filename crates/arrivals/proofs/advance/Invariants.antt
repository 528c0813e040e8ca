-- `advance` meets its contract: the words of the first p states are passed on.
use Rattle.arrivals.proofs.RoundLaws.{AdvancedTo}
use Rattle.arrivals.proofs.advance.Given as goal

abbrev pub invariant-loop-p : goal.invariant-loop-p
invariant-loop-p l = AdvancedTo l.moves l.m l.here l.next l.p
