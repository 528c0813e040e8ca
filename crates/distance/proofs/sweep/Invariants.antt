-- `sweep` meets its contract: the numbers stay backed, and on the way up the states below p are closed where none was lowered.
use Rattle.std.proofs.Common.{map}
use Rattle.distance.specs.Changes.{Numbers, Swept}
use Rattle.distance.proofs.sweep.Given as goal

abbrev pub invariant-loop-p : goal.invariant-loop-p
invariant-loop-p g l = Numbers (g.M.Steps.steps l.machine) (map g.N.Number.value l.far)

abbrev pub invariant-loop-p-2 : goal.invariant-loop-p-2
invariant-loop-p-2 g l = Swept (g.M.Steps.steps l.machine) (map g.N.Number.value l.far) l.p l.changed
