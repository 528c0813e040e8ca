-- `step` meets its contract: the states passed have their places.
use Rattle.ends.proofs.EndsLaws.{SteppedTo}
use Rattle.ends.proofs.step.Given as goal

abbrev pub invariant-loop-q : goal.invariant-loop-q
invariant-loop-q l = SteppedTo l.moves l.m l.column l.before l.initial.after l.after l.last l.q
