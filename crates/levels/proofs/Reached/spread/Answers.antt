-- `spread` meets its contract: the targets of the moves passed have levels.
use native.Mathlib.Omega.{arith}
use Rattle.levels.proofs.LevelsLaws.{spread_next, reached_same, reached_room, reached_new}
use Rattle.levels.proofs.Reached.spread.Goals as goal
use Rattle.levels.proofs.Reached.spread.Goals.{then-self-place, else-self-place}

pub bounds-self-self : goal.bounds-self-self
bounds-self-self c =
    omega (arith, reached_room _ _ _ _ _ _ c.loop-t.invariant.front (c.row-t-items.ensures.inside c.loop-t.t-index c.loop-t-test.true) c.if-self-place.true, c.args.states.table.states_most)

pub overflow_add-self : goal.overflow_add-self
overflow_add-self c =
    omega (arith, reached_room _ _ _ _ _ _ c.loop-t.invariant.front (c.row-t-items.ensures.inside c.loop-t.t-index c.loop-t-test.true) c.if-self-place.true, c.args.states.table.states_most)

pub loop-t-preserved : goal.loop-t-preserved
loop-t-preserved c =
    let v = c.loop-t.invariant in
    let h = c.row-t-items.ensures.inside c.loop-t.t-index c.loop-t-test.true in
    let e = c.row-t-items.ensures.entry c.loop-t.t-index (omega (arith, c.loop-t-test.true, c.row-t-items.ensures.long)) in
    elim c.if-self-place.branch [
      | then-self-place w ↦ rw w.self-is (spread_next _ _ _ _ _ _ _ _ _ _ _ _ _ _ _ v e (reached_new _ _ _ _ _ _ v.front h w.if-self-place.true))
      | else-self-place w ↦ rw w.self-is (spread_next _ _ _ _ _ _ _ _ _ _ _ _ _ _ _ v e (reached_same _ _ _ _ _ _ v.front h (omega arith) w.if-self-place.false))
    ]
