-- `round` meets its contract. The loop: the states below p are placed and their leaders counted.
use mathlib.Core.Path.{refl}
use native.Mathlib.Omega.{arith}
use Rattle.entries.specs.Entries.{class_of}
use Rattle.entries.specs.Classes.{leaders}
use Rattle.classes.proofs.RefineLaws.{round_starts, leaders_le}
use Rattle.classes.proofs.refine.round.Goals as goal

pub loop-p-init : goal.loop-p-init
unfolding leaders
loop-p-init c =
    (round_starts c.requires, refl)

pub overflow_add-count : goal.overflow_add-count
overflow_add-count c =
    record { fits = omega (arith, c.loop-p.invariant.1, leaders_le (class_of c.loop-p.next) c.loop-p.p, c.loop-p-test.true, c.requires.sized.few) }
