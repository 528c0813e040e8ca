-- `feed` meets its contract: the bytes so far are taken in.
use mathlib.Core.Path.{◌∙◌}
use native.Mathlib.Omega.{arith}
use borrow.Author.Rules.{rules}
use Rattle.judging.proofs.LinesLaws.{upto_none, upto_fits, upto_goes, upto_line, feeds_last, feeds_full, feeds_all}
use Rattle.judging.proofs.feed.Goals as goal

pub loop-from-init : goal.loop-from-init
loop-from-init c =
    (search rules, upto_none _ _ _ _ _)

pub overflow_sub-room : goal.overflow_sub-room
overflow_sub-room c =
    c.loop-from.invariant.1.within

pub shape_of-out-then-room-lt-LONGEST : goal.shape_of-out-then-room-lt-LONGEST
shape_of-out-then-room-lt-LONGEST c =
    c.loop-from.invariant.0

pub returns-then-room-lt-LONGEST : goal.returns-then-room-lt-LONGEST
returns-then-room-lt-LONGEST c =
    feeds_full _ _ _ _ _ _ _ _ _ c.loop-from.invariant.1 (omega (arith, c.requires.1, c.loop-from.invariant.0)) c.if-room-lt-LONGEST.true

pub line_end-end-requires : goal.line_end-end-requires
line_end-end-requires c =
    c.loop-from.invariant.1.inside

pub slice_bounds-more-count : goal.slice_bounds-more-count
slice_bounds-more-count c =
    omega (arith, c.line_end-end.ensures.low)

pub slice_bounds-more-start : goal.slice_bounds-more-start
slice_bounds-more-start c =
    omega (arith, c.line_end-end.ensures.low, c.line_end-end.ensures.most)

pub slice_bounds-more-end : goal.slice_bounds-more-end
slice_bounds-more-end c =
    omega (arith, c.line_end-end.ensures.low, c.line_end-end.ensures.most)

pub more-run-requires : goal.more-run-requires
more-run-requires c =
    (upto_goes _ _ _ _ _ _ _ _ _ c.loop-from.invariant.1 _ c.requires.0, upto_fits _ _ _ _ _ _ _ _ _ c.loop-from.invariant.1 _ _ c.requires.0 (omega arith) c.line_end-end.ensures)

pub shape_of-out-then-end-bytes : goal.shape_of-out-then-end-bytes
shape_of-out-then-end-bytes c =
    c.loop-from.invariant.0

pub returns-then-end-bytes : goal.returns-then-end-bytes
returns-then-end-bytes c =
    feeds_last _ _ _ _ _ _ _ _ _ c.loop-from.invariant.1 _ c.line_end-end.ensures _ c.more-run.ensures c.loop-from-test.true (omega (arith, c.if-end-bytes.true))

pub answer-requires : goal.answer-requires
answer-requires c =
    c.more-run.ensures.goes

pub line-at-requires : goal.line-at-requires
line-at-requires c =
    omega (arith, c.loop-from.invariant.1.within, c.if-room-lt-LONGEST.false)

pub overflow_add-from : goal.overflow_add-from
overflow_add-from c =
    omega (arith, c.requires.0.fits, c.line_end-end.ensures.most, c.if-end-bytes.false)

pub loop-from-smaller : goal.loop-from-smaller
loop-from-smaller c =
    omega (arith, c.line_end-end.ensures.low, c.line_end-end.ensures.most, c.if-end-bytes.false)

pub loop-from-preserved : goal.loop-from-preserved
loop-from-preserved c =
    (c.line-at.auto.out ∙ c.loop-from.invariant.0, upto_line _ _ _ _ _ _ _ _ _ c.loop-from.invariant.1 _ c.line_end-end.ensures _ c.more-run.ensures (omega (arith, c.line_end-end.ensures.most, c.if-end-bytes.false)) _ c.answer.ensures _ _ c.line-at.ensures (omega (arith, c.loop-from.invariant.1.within, c.if-room-lt-LONGEST.false, c.line-at.auto.out)) _ c.begin-run.ensures)

pub shape_of-out : goal.shape_of-out
shape_of-out c =
    c.loop-from.invariant.0

pub returns : goal.returns
returns c =
    feeds_all _ _ _ _ _ _ _ _ _ c.loop-from.invariant.1 c.loop-from-test.false
