-- `part` meets its contract: the states before p have their classes.
use native.Mathlib.Omega.{arith}
use Rattle.classes.proofs.RefineLaws.{side_low}
use Rattle.classes.proofs.refine.part.Goals as goal

pub overflow_cast-classes : goal.overflow_cast-classes
overflow_cast-classes c =
    omega (arith, c.side.ensures, side_low c.args.table.now _ c.first_other-other.ensures c.loop-p.p c.loop-p-test.true, c.requires.1)
