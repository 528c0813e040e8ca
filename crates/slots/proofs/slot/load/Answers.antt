-- `slots::slot::load` meets its contract.
use native.Mathlib.Omega.{arith}
use Rattle.slots.specs.Slot.{slot_cells, loaded}
use Rattle.slots.proofs.slot.load.Goals as goal

pub unpack-left_states-requires : goal.unpack-left_states-requires
unpack-left_states-requires c =
    record { slot = c.requires.slot; k_in_bounds = omega (arith, slot_cells c.requires.slot, c.requires.k_in_bounds) }

pub unpack-right_states-requires : goal.unpack-right_states-requires
unpack-right_states-requires c =
    record { slot = c.requires.slot_2; k_in_bounds = omega (arith, slot_cells c.requires.slot_2, c.requires.k_in_bounds, c.unpack-left_states.ensures.long) }

pub returns : goal.returns
returns c =
    loaded _ c.unpack-left_states.ensures c.unpack-right_states.ensures
