-- `slots::given::one_sign` meets its contract.
use mathlib.Core.Path.{refl}
use mathlib.Core.Logic.{inl, inr}
use Rattle.slots.specs.GivenSlots.{one_holds}
use Rattle.slots.proofs.given.one_sign.Goals as goal

pub returns-then-lo-eq0 : goal.returns-then-lo-eq0
returns-then-lo-eq0 c =
    one_holds _ _ _ _ 1 _ c.requires.lo_lt_hi.0 (inl (c.if-lo-eq0.true, refl)) c.signs.ensures

pub returns-else-lo-eq0 : goal.returns-else-lo-eq0
returns-else-lo-eq0 c =
    one_holds _ _ _ _ 2 _ c.requires.lo_lt_hi.0 (inr (c.if-lo-eq0.false, refl)) c.signs-else-lo-eq0.ensures
