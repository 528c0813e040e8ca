-- `distances` meets its contract: the states below p have their numbers.
use Rattle.levels.proofs.LevelsLaws.{DistancesTo}
use Rattle.levels.proofs.distances.Given as goal

abbrev pub invariant-loop-p : goal.invariant-loop-p
invariant-loop-p l = DistancesTo l.states.letters l.states.marks.now l.states.moves.now l.all l.p
