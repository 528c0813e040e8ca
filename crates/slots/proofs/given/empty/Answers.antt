-- `slots::given::empty` meets its contract.
use Rattle.slots.specs.GivenSlots.{empty_holds}
use Rattle.slots.proofs.given.empty.Goals as goal

pub returns : goal.returns
returns c =
    empty_holds _ _ _ c.many_signs.ensures
