-- `total` meets its contract: the entries passed are summed.
use mathlib.Core.Path.{◌≡◌}
use Rattle.arrivals.proofs.RoundLaws.{total_to}
use Rattle.arrivals.proofs.total.Given as goal

abbrev pub invariant-loop-p : goal.invariant-loop-p
invariant-loop-p l = l.sum ≡ total_to l.words l.marks l.mark l.p
