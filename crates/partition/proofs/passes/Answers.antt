-- `passes` meets its contract. The measure: each pass but the last leaves more classes, and a pass has at most 26 columns.
use Rattle.std.proofs.Common.{arith}
use Rattle.partition.proofs.ReducedLaws.{columns_of, refined_low, refined_grows, classes_next, classes_stay, stretch_alone, stretch_settled, stretch_late}
use Rattle.partition.proofs.passes.Goals as goal
use Rattle.partition.proofs.passes.Goals.{then-parts-count, else-parts-count+else-left-eq0}

pub refine-parts-requires-clause-columns : goal.refine-parts-requires-clause-columns
refine-parts-requires-clause-columns c =
    let i = c.loop-count.invariant in
    (columns_of _ _ _ c.args.states.table _ _ i.states c.if-c-states.true, i.upto.long, rw i.states i.upto.named)

pub overflow_mul-parts : goal.overflow_mul-parts
overflow_mul-parts c = omega (arith, refined_low _ _ _ _ _ _ _ (rw c.loop-count.invariant.states at c.refine-parts.ensures.0), c.loop-count.invariant.states, c.args.states.table.states_most)

pub returns-then-parts-n : goal.returns-then-parts-n
returns-then-parts-n c =
    let t = c.args.states.table in
    let i = c.loop-count.invariant in
    let r = rw i.states at c.refine-parts.ensures.0 in
    let h = refined_grows _ _ _ t _ _ _ _ i.upto _ _ r in
    stretch_late _ _ _ t _ _ _ _ (classes_stay _ _ _ t _ _ _ _ i.upto _ _ c.if-c-states.true r) _ i.begun (λ e. c.if-parts-count.false (omega (arith, e, h, i.upto.more)))

pub loop-count-smaller-then-c-states : goal.loop-count-smaller-then-c-states
loop-count-smaller-then-c-states c =
    let i = c.loop-count.invariant in
    let r = rw i.states at c.refine-parts.ensures.0 in
    let h = refined_grows _ _ _ c.args.states.table _ _ _ _ i.upto _ _ r in
    elim c.if-parts-count.branch [
      | then-parts-count w ↦ omega (arith, w.c-is, w.if-parts-count.true)
      | else-parts-count+else-left-eq0 w ↦ omega (arith, w.c-is, w.if-parts-count.false, h)
    ]

pub loop-count-preserved-then-c-states : goal.loop-count-preserved-then-c-states
loop-count-preserved-then-c-states c =
    let i = c.loop-count.invariant in
    let r = rw i.states at c.refine-parts.ensures.0 in
    elim c.if-parts-count.branch [
      | then-parts-count w ↦ record {
        states = i.states;
        columns = omega (arith, w.c-is);
        begun = i.begun;
        upto = rw w.c-is (classes_next _ _ _ c.args.states.table _ _ _ _ i.upto _ _ c.if-c-states.true r);
        keys = c.refine-parts.ensures.1;
      }
      | else-parts-count+else-left-eq0 w ↦ record {
        states = i.states;
        columns = omega (arith, w.c-is);
        begun = i.begun;
        upto = rw w.c-is (classes_stay _ _ _ c.args.states.table _ _ _ _ i.upto _ _ c.if-c-states.true r);
        keys = c.refine-parts.ensures.1;
      }
    ]

pub returns-then-count-before : goal.returns-then-count-before
returns-then-count-before c =
    stretch_settled _ _ _ c.args.states.table _ _ _ _ c.loop-count.invariant.upto _ c.loop-count.invariant.begun c.if-c-states.false c.if-count-before.true

pub returns : goal.returns
returns c = stretch_alone _ _ _ c.args.states.table _ _ _ _ c.loop-count.invariant.upto _ c.loop-count.invariant.begun (omega arith)
