-- `refine` meets its contract: as many rounds as there are states, and one more, are enough.
use native.Mathlib.Omega.{arith}
use Rattle.classes.proofs.RefineLaws.{refine_starts}
use Rattle.classes.proofs.refine.refine.Goals as goal

pub loop-most-init : goal.loop-most-init
loop-most-init c =
    refine_starts _ _ c.part.ensures

pub loop-most-smaller : goal.loop-most-smaller
loop-most-smaller c =
    omega (arith, (c.rounds.ensures.way c.loop-most-test.true).1)
