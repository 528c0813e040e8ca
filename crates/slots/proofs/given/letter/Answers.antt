-- `slots::given::letter` meets its contract.
use Rattle.slots.specs.GivenSlots.{letter_holds}
use Rattle.slots.proofs.given.letter.Goals as goal

pub returns : goal.returns
returns c =
    letter_holds _ _ _ _ c.one_sign.ensures
