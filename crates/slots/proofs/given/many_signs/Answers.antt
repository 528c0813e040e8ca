-- `slots::given::many_signs` meets its contract.
use Rattle.slots.specs.GivenSlots.{many_holds}
use Rattle.slots.proofs.given.many_signs.Goals as goal

pub returns : goal.returns
returns c =
    many_holds _ _ _ _ c.requires.hi_lt_k c.signs.ensures
