-- `signs::negate` meets its contract: so many complements are written.
use Rattle.signs.specs.Steps.{Negated}
use Rattle.signs.proofs.negate.Given as goal

abbrev pub invariant-loop : goal.invariant-loop
invariant-loop l = Negated l.initial.out l.initial.here l.counter l.out l.here
