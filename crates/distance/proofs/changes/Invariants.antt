-- `changes` meets its contract: after each pair of sweeps the numbers are backed.
use Rattle.std.proofs.Common.{map}
use Rattle.distance.specs.Changes.{Numbers}
use Rattle.distance.proofs.changes.Given as goal

abbrev pub invariant-loop : goal.invariant-loop
invariant-loop g l = Numbers (g.M.Steps.steps l.machine) (map g.N.Number.value l.far)
