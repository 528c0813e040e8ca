use Rattle.std.proofs.Common.{◌≤◌, ◌+◌, ◌*◌, refl, arith, length}
use Rattle.slots.specs.Aside.{part_at}
use Rattle.evaluate_run.specs.ReadyLaws.{slots_next}
use Rattle.evaluate_run.proofs.fill.Goals as goal

pub loop-i-preserved : goal.loop-i-preserved
loop-i-preserved c =
    let i = c.loop-i.i in
    let v = c.loop-i.invariant in
    let h : i * 3362 + 3362 ≤ length c.loop-i.slots = omega (arith, c.loop-i.auto.slots, c.requires.1) in
    let W = part_at (i * 3362) (i * 3362 + 3362) 3362 c.loop-i.slots c.all.new.slot refl h c.all.auto.slot in
    slots_next i _ _ _ _ h v c.all.ensures W
