-- `slots::given::all` meets its contract.
use Rattle.slots.specs.GivenSlots.{all_holds}
use Rattle.slots.proofs.given.all.Goals as goal

pub returns : goal.returns
returns c =
    all_holds _ _ _ c.many_signs.ensures
