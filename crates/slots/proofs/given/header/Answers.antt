-- `slots::given::header` meets its contract.
use native.Mathlib.Omega.{arith}
use lib.ListN.{length-set}
use Rattle.slots.specs.GivenSlots.{header_written}
use Rattle.slots.proofs.given.header.Goals as goal

pub bounds-slot-1 : goal.bounds-slot-1
bounds-slot-1 c =
    simp length-set (omega arith)

pub bounds-slot-good : goal.bounds-slot-good
bounds-slot-good c =
    omega (arith, c.fill.ensures.long, simp length-set at c.fill.ensures.long)

pub shape_of-slot : goal.shape_of-slot
shape_of-slot c =
    simp length-set (simp length-set at c.fill.ensures.long)

pub returns : goal.returns
returns c =
    header_written _ _ _ _ c.requires.good_lt_n c.requires.n_in_bounds c.fill.ensures
