-- The bytes so far are taken in, and the text of their plans was written.
use Rattle.std.proofs.Common.{length, ◌-◌, ◌≡◌}
use Rattle.judge.proofs.LinesLaws.{Taken}
use Rattle.judge.proofs.lines.answer_all.Given as goal

abbrev pub invariant-loop-from : goal.invariant-loop-from
invariant-loop-from g l =
    (length l.out ≡ length l.initial.out)
    × Taken l.tested.bytes.now l.bytes l.initial.state (g.W.Write.contents l.initial.output) l.from l.state (g.W.Write.contents l.output)

abbrev pub decreases-loop-from : goal.decreases-loop-from
decreases-loop-from g l = length l.bytes - l.from
