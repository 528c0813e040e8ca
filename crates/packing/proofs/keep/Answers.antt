-- `packing::keep` meets its contract.
use mathlib.Core.Path.{refl}
use Prim.Native.Nat.{◌+◌, ◌*◌}
use native.Mathlib.Omega.{arith}
use Rattle.minimise.specs.MinimisedLaws.{kept_found}
use Rattle.slots.specs.Aside.{part_at}
use Rattle.packing.specs.Keep.{keep_many, keep_found}
use Rattle.packing.proofs.keep.Goals as goal

pub returns-in_err-m : goal.returns-in_err-m
returns-in_err-m c =
    let a = c.args in
    let p = c.requires in
    let q = c.smallest in
    let w = part_at (a.at + 2) (a.at + 2 + (a.most + a.most * a.table.now.columns)) (a.most + a.most * a.table.now.columns) a.slots.now q.new.slot refl p.slot q.auto.slot in
    rw c.from_residual.ensures (keep_many _ _ _ _ _ _ _ w p.slot c.in_err-m.ensures)

pub write-requires : goal.write-requires
write-requires c =
    let a = c.args in
    let p = c.requires in
    let q = c.smallest in
    let w = part_at (a.at + 2) (a.at + 2 + (a.most + a.most * a.table.now.columns)) (a.most + a.most * a.table.now.columns) a.slots.now q.new.slot refl p.slot q.auto.slot in
    record { i_in_bounds = omega (arith, w.long, p.slot); p_bound = omega (arith, (kept_found c.in_ok-m.ensures _ refl).within, p.bytes) }

pub returns : goal.returns
returns c =
    let a = c.args in
    let p = c.requires in
    let q = c.smallest in
    let w = part_at (a.at + 2) (a.at + 2 + (a.most + a.most * a.table.now.columns)) (a.most + a.most * a.table.now.columns) a.slots.now q.new.slot refl p.slot q.auto.slot in
    rw c.write.ensures (keep_found _ _ _ _ _ _ _ w p.slot _ (kept_found c.in_ok-m.ensures _ refl))
