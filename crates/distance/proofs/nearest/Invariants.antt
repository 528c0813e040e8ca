-- `nearest` meets its contract: no letter passed shows a nearer change.
use Rattle.std.proofs.Common.{map}
use Rattle.distance.specs.Changes.{Near}
use Rattle.distance.proofs.nearest.Given as goal

abbrev pub invariant-loop-c : goal.invariant-loop-c
invariant-loop-c g l = Near (g.M.Steps.steps l.machine) (map g.N.Number.value l.far) l.p l.c l.best
