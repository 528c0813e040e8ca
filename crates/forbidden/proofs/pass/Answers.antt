-- `pass` meets its contract.
use Prim.Native.Nat.{◌-◌}
use Rattle.forbidden.proofs.PassLaws.{searchable_of, fill_room, pass_nothing, under_start, under_stepping, under_last, under_next, under_all}
use Rattle.forbidden.proofs.pass.Goals as goal

pub returns-then-dead-eq0 : goal.returns-then-dead-eq0
returns-then-dead-eq0 c = pass_nothing _ _ _ _ _ (searchable_of c.args.walker.now _ c.requires.known) _ _ c.states-states.ensures.marks c.dead_state-dead.ensures c.if-dead-eq0.true

pub fill-requires : goal.fill-requires
fill-requires c = fill_room _ _ _ _ _ (searchable_of c.args.walker.now _ c.requires.known) _ _ c.states-states.ensures.marks c.dead_state-dead.ensures _ c.len-n.ensures _ c.requires.room.0

pub loop-i-init : goal.loop-i-init
loop-i-init c = under_start _ _ _ _ _ (searchable_of c.args.walker.now _ c.requires.known) _ _ c.states-states.ensures.marks c.dead_state-dead.ensures _ _ _ _ c.len-n.ensures c.if-dead-eq0.false c.requires.room c.fill.ensures

pub step-last-requires : goal.step-last-requires
step-last-requires c =
    let s = c.states-states.ensures in
    let b = (c.type_inv.plan (c.loop-i.i - 1)).fits in
    under_stepping _ _ _ _ _ _ _ _ _ _ _ c.loop-i.invariant c.loop-i-test.true b _ s.letters _ _ s.marks s.moves c.states-states.result.table _ c.len-n.ensures

pub better-best-requires : goal.better-best-requires
better-best-requires c =
    let s = c.states-states.ensures in
    under_last _ _ _ _ _ _ _ _ _ _ _ c.loop-i.invariant c.loop-i-test.true (c.type_inv.plan (c.loop-i.i - 1)).fits _ s.letters _ _ s.marks s.moves _ _ (rw c.len-n.ensures at c.step-last.ensures)

pub loop-i-preserved : goal.loop-i-preserved
loop-i-preserved c =
    let s = c.states-states.ensures in
    rw (c.swap.ensures.x_after, c.swap.ensures.y_after)
    (under_next _ _ _ _ _ _ _ _ _ _ _ c.loop-i.invariant c.loop-i-test.true (c.type_inv.plan (c.loop-i.i - 1)).fits _ s.letters _ _ s.marks s.moves _ _ (rw c.len-n.ensures at c.step-last.ensures) _ c.better-best.ensures)

pub returns : goal.returns
returns c = under_all _ _ _ _ _ _ _ _ _ _ _ c.loop-i.invariant c.loop-i-test.false
