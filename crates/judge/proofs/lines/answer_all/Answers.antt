use Rattle.std.proofs.Common.{rules, arith}
use Rattle.judge.proofs.LinesLaws.{taken_none, taken_counted, taken_more, taken_all, taken_text}
use Rattle.judge.proofs.lines.answer_all.Goals as goal

pub loop-from-init : goal.loop-from-init
loop-from-init g c = (search rules, taken_none _ _ _ _)

pub feed-fed-requires : goal.feed-fed-requires
feed-fed-requires g c =
    let v = c.loop-from.invariant in
    (taken_counted _ _ _ _ _ _ _ v.1 c.requires.0, omega (arith, v.0, c.requires.1))

pub loop-from-preserved : goal.loop-from-preserved
loop-from-preserved g c =
    let v = c.loop-from.invariant in
    (search rules, taken_more _ _ _ _ _ _ _ v.1 _ _ _ c.feed-fed.ensures c.in_ok-write_all.ensures.bytes)

pub returns-clause-wrote : goal.returns-clause-wrote
returns-clause-wrote g c = taken_all _ _ _ _ _ _ _ c.loop-from.invariant.1 c.loop-from-test.false

pub returns-clause-text : goal.returns-clause-text
returns-clause-text g c = taken_text _ _ _ _ _ _ _ c.loop-from.invariant.1 c.loop-from-test.false
