-- `judge_each` meets its contract: the plans so far are judged.
use native.Mathlib.Omega.{arith}
use Rattle.plans.proofs.ManyLaws.{line_less, end_less, upto_none, upto_length, upto_within, upto_full, upto_fits, upto_more, upto_count, upto_line, upto_end, judges_all, judges_full}
use Rattle.plans.proofs.judge_each.Goals as goal

pub loop-from-init : goal.loop-from-init
loop-from-init c =
    upto_none _ _ _

pub overflow_sub-room : goal.overflow_sub-room
overflow_sub-room c =
    upto_within _ _ _ _ _ _ _ c.loop-from.invariant

pub shape_of-replies-then-room-lt3 : goal.shape_of-replies-then-room-lt3
shape_of-replies-then-room-lt3 c =
    upto_length _ _ _ _ _ _ _ c.loop-from.invariant

pub returns-then-room-lt3 : goal.returns-then-room-lt3
returns-then-room-lt3 c =
    judges_full _ _ _ _ _ _ _ c.loop-from.invariant c.args.judge.now.walker.card.loads (upto_full _ _ _ _ _ _ _ c.loop-from.invariant c.if-room-lt3.true)

pub line_end-end-requires : goal.line_end-end-requires
line_end-end-requires c =
    c.loop-from.invariant.inside

pub put-requires : goal.put-requires
put-requires c =
    upto_fits _ _ _ _ _ _ _ c.loop-from.invariant c.if-room-lt3.false

pub overflow_add-count : goal.overflow_add-count
overflow_add-count c =
    upto_count _ _ _ _ _ _ _ c.loop-from.invariant
    (omega (arith, c.if-room-lt3.false, c.loop-from.invariant.room, upto_length _ _ _ _ _ _ _ c.loop-from.invariant))

pub overflow_add-at : goal.overflow_add-at
overflow_add-at c =
    omega (arith, c.if-room-lt3.false, c.loop-from.invariant.room, upto_length _ _ _ _ _ _ _ c.loop-from.invariant)

pub overflow_add-from : goal.overflow_add-from
overflow_add-from c =
    omega (arith, c.if-end-plans.true)

pub loop-from-smaller-then-end-plans : goal.loop-from-smaller-then-end-plans
loop-from-smaller-then-end-plans c =
    line_less _ _ _ c.line_end-end.ensures.low c.if-end-plans.true

pub loop-from-preserved-then-end-plans : goal.loop-from-preserved-then-end-plans
loop-from-preserved-then-end-plans c =
    upto_line _ _ _ _ _ _ _ c.loop-from.invariant c.loop-from-test.true _ c.line_end-end.ensures c.judge_line.result c.judge_line.ensures (upto_more _ _ _ _ _ _ _ c.loop-from.invariant c.if-room-lt3.false) _ c.put.ensures c.if-end-plans.true

pub loop-from-smaller : goal.loop-from-smaller
loop-from-smaller c =
    end_less _ _ _ c.loop-from-test.true c.if-end-plans.false

pub loop-from-preserved : goal.loop-from-preserved
loop-from-preserved c =
    upto_end _ _ _ _ _ _ _ c.loop-from.invariant c.loop-from-test.true _ c.line_end-end.ensures c.judge_line.result c.judge_line.ensures (upto_more _ _ _ _ _ _ _ c.loop-from.invariant c.if-room-lt3.false) _ c.put.ensures c.if-end-plans.false

pub shape_of-replies : goal.shape_of-replies
shape_of-replies c =
    upto_length _ _ _ _ _ _ _ c.loop-from.invariant

pub returns : goal.returns
returns c =
    judges_all _ _ _ _ _ _ _ c.loop-from.invariant c.args.judge.now.walker.card.loads c.loop-from-test.false
