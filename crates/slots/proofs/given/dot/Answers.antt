-- `slots::given::dot` meets its contract.
use Rattle.slots.specs.GivenSlots.{dot_holds}
use Rattle.slots.proofs.given.dot.Goals as goal

pub returns : goal.returns
returns c =
    dot_holds _ _ _ c.one_sign.ensures
