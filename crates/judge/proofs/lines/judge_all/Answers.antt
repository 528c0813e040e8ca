use Rattle.std.proofs.Common.{arith, length-take}
use Rattle.judge.proofs.LinesLaws.{reading_start, reading_more, reading_all}
use Rattle.judge.proofs.lines.judge_all.Goals as goal

pub returns-then-n-eq0 : goal.returns-then-n-eq0
returns-then-n-eq0 g c =
    rw (← c.of-tested.ensures) (reading_all _ _ _ _ _ _ _ c.loop.invariant c.in-Ok.n _ _ _ _ _ c.in-Ok.ensures.bytes c.if-n-eq0.true (omega arith) c.finish-last.ensures
    c.in-Ok-write_all.ensures.bytes)

pub loop-preserved : goal.loop-preserved
loop-preserved g c =
    reading_more _ _ _ _ _ _ _ c.loop.invariant _ _ _ _ c.in-Ok-answer_all.ensures.wrote c.in-Ok-answer_all.ensures.text c.in-Ok.ensures.bytes.0
    (omega (arith, length-take c.in-Ok.n c.read.new.buf, c.read.auto.buf))
    (omega (arith, length-take c.in-Ok.n c.read.new.buf, c.in-Ok.ensures.bound.0, c.if-n-eq0.false))

pub loop-init : goal.loop-init
loop-init g c =
    reading_start _ _ _ _ c.start-state.ensures
