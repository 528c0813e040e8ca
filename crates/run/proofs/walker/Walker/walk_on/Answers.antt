-- `walk_on` meets its contract: after k letters the walk is in s, and no state on the way is dead.
use native.Mathlib.Omega.{arith}
use Rattle.run.proofs.WalkLaws.{move_room, walk_start, walk_done, turn_unknown, turn_inside, turn_room, turn_dead, turn_next}
use Rattle.run.specs.Cards.{ready_of}
use Rattle.run.proofs.walker.Walker.walk_on.Goals as goal

pub loop-k-init : goal.loop-k-init
loop-k-init c =
    (c.requires.0, walk_start _ _ _ c.requires.1)

pub returns-then-m-i : goal.returns-then-m-i
returns-then-m-i c =
    turn_unknown _ _ _ (ready_of c.args.self.now.card) _ c.args.self.now.right _ _ _ _ c.loop-k-test.true c.loop-k.invariant.0 c.loop-k.invariant.1 (c.type_inv.plan c.loop-k.k) c.if-m-i.true

pub next-s-requires : goal.next-s-requires
next-s-requires c =
    move_room _ _ _ (ready_of c.args.self.now.card) _ _ c.loop-k.invariant.0 c.if-m-i.false _ c.moves-moves.ensures

pub bounds-marks-s : goal.bounds-marks-s
bounds-marks-s c =
    turn_room _ _ _ (ready_of c.args.self.now.card) _ c.args.self.now.right _ _ _ _ c.loop-k-test.true c.loop-k.invariant.0 c.loop-k.invariant.1 (c.type_inv.plan c.loop-k.k) c.if-m-i.false _ c.moves-moves.ensures _ c.marks-marks.ensures _ c.next-s.ensures.0

pub returns-then-marks-s : goal.returns-then-marks-s
returns-then-marks-s c =
    turn_dead _ _ _ (ready_of c.args.self.now.card) _ c.args.self.now.right _ _ _ _ c.loop-k-test.true c.loop-k.invariant.0 c.loop-k.invariant.1 (c.type_inv.plan c.loop-k.k) c.if-m-i.false _ c.moves-moves.ensures _ c.marks-marks.ensures _ c.next-s.ensures.0 c.if-marks-s.true

pub loop-k-preserved : goal.loop-k-preserved
loop-k-preserved c = (
  turn_inside _ _ _ (ready_of c.args.self.now.card) _ c.args.self.now.right _ _ _ _ c.loop-k-test.true c.loop-k.invariant.0 c.loop-k.invariant.1
      (c.type_inv.plan c.loop-k.k) c.if-m-i.false _ c.moves-moves.ensures _ c.marks-marks.ensures _ c.next-s.ensures.0,
  turn_next _ _ _ (ready_of c.args.self.now.card) _ c.args.self.now.right _ _ _ _ c.loop-k-test.true c.loop-k.invariant.0 c.loop-k.invariant.1
      (c.type_inv.plan c.loop-k.k) c.if-m-i.false _ c.moves-moves.ensures _ c.marks-marks.ensures _ c.next-s.ensures.0 c.if-marks-s.false,
)

pub returns : goal.returns
returns c =
    record { is = walk_done _ _ _ _ _ c.loop-k.invariant.1 (omega arith); end = (c.loop-k.invariant.0, c.loop-k.invariant.1.alive) }
