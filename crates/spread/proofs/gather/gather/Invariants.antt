-- `gather` meets its contract: the states below p have joined.
use Rattle.spread.specs.Gather.{Gathering}
use Rattle.spread.proofs.gather.gather.Given as goal

abbrev pub invariant-loop-p : goal.invariant-loop-p
invariant-loop-p l =
    Gathering l.table l.side l.far l.initial.classes l.classes l.firsts l.p
