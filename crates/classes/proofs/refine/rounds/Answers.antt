-- `rounds` meets its contract. The loop: equivalent states are in one class; the number of classes grows with each turn.
use native.Mathlib.Omega.{arith}
use Rattle.classes.proofs.RefineLaws.{refine_ends, refine_grows, refine_turns, turned_done, turned_way, refine_many}
use Rattle.classes.proofs.refine.rounds.Goals as goal

pub returns-then-parts-count : goal.returns-then-parts-count
returns-then-parts-count c =
    turned_done _ _ _ (refine_ends _ _ _ _ _ c.loop.invariant.1 c.round-parts.ensures (omega (arith, c.loop.auto.classes, c.requires.sized.classes_long)) c.if-parts-count.true)

pub loop-preserved : goal.loop-preserved
loop-preserved c = (
  omega (arith, c.loop.invariant.0, refine_grows _ _ _ _ _ c.loop.invariant.1 c.round-parts.ensures c.if-parts-count.false),
  rw c.copy.ensures (refine_turns _ _ _ _ _ c.loop.invariant.1 c.round-parts.ensures),
)

pub returns : goal.returns
returns c =
    turned_way _ _ _ c.loop.invariant.1 (omega (arith, c.loop-test.false, c.loop.invariant.0, refine_many _ _ _ c.loop.invariant.1))
