-- `slots::slot::unpack` meets its contract.
use mathlib.Core.Path.{◌≡◌, refl, ◌∙◌}
use native.Mathlib.Omega.{arith}
use lib.ListN.{drop}
use Rattle.rows.specs.Rows.{number_at}
use Rattle.slots.specs.Slot.{slot_ends, number_drop, unpacked}
use Rattle.slots.proofs.slot.unpack.Goals as goal

pub read-n-requires : goal.read-n-requires
read-n-requires c =
    omega (arith, slot_ends c.args.slots.now c.args.at c.requires.slot _ refl)

pub overflow_add-at : goal.overflow_add-at
overflow_add-at c =
    let a = c.args in
    let e : c.read-n.result ≡ number_at (drop a.at a.slots.now) 0 = c.read-n.ensures ∙ number_drop a.slots.now a.at in
    omega (arith, slot_ends a.slots.now a.at c.requires.slot _ e)

pub overflow_mul-n : goal.overflow_mul-n
overflow_mul-n c =
    let a = c.args in
    let e : c.read-n.result ≡ number_at (drop a.at a.slots.now) 0 = c.read-n.ensures ∙ number_drop a.slots.now a.at in
    omega (arith, slot_ends a.slots.now a.at c.requires.slot _ e)

pub overflow_add-most : goal.overflow_add-most
overflow_add-most c =
    let a = c.args in
    let e : c.read-n.result ≡ number_at (drop a.at a.slots.now) 0 = c.read-n.ensures ∙ number_drop a.slots.now a.at in
    omega (arith, slot_ends a.slots.now a.at c.requires.slot _ e)

pub widen-requires : goal.widen-requires
widen-requires c =
    let a = c.args in
    let e : c.read-n.result ≡ number_at (drop a.at a.slots.now) 0 = c.read-n.ensures ∙ number_drop a.slots.now a.at in
    record { len_in_bounds = slot_ends a.slots.now a.at c.requires.slot _ e; len_in_bounds_2 = rw (← e) at c.requires.k_in_bounds }

pub returns : goal.returns
returns c =
    let a = c.args in
    let e : c.read-n.result ≡ number_at (drop a.at a.slots.now) 0 = c.read-n.ensures ∙ number_drop a.slots.now a.at in
    unpacked a.slots.now a.at c.requires.slot _ _ _ _ e (rw (← e) at c.requires.k_in_bounds) c.widen.ensures
