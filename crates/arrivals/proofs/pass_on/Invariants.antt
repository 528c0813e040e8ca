-- `pass_on` meets its contract: the words are passed by the moves so far.
use Rattle.arrivals.specs.Rounds.{Passed}
use Rattle.arrivals.proofs.pass_on.Given as goal

abbrev pub invariant-loop-t : goal.invariant-loop-t
invariant-loop-t l = Passed l.row l.t-index l.words l.initial.next l.next
