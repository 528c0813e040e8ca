-- `round` meets its contract. The loop: the states below p are placed and their leaders counted.
use mathlib.Core.Path.{◌≡◌}
use Rattle.entries.specs.Entries.{class_of, machine_of}
use Rattle.entries.specs.Classes.{leaders}
use Rattle.leaders.specs.Round.{Partial}
use Rattle.classes.proofs.refine.round.Given as goal

abbrev pub invariant-loop-p : goal.invariant-loop-p
invariant-loop-p l =
    Partial l.table.columns l.table.states (machine_of l.table) l.classes l.next l.links l.p × (l.count ≡ leaders (class_of l.next) l.p)
