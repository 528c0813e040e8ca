-- The bytes that have come are taken in, and the text of the plans that ended in them was written.
use Rattle.judge.proofs.LinesLaws.{Reading}
use Rattle.judge.proofs.lines.judge_all.Given as goal

abbrev pub invariant-loop : goal.invariant-loop
invariant-loop g l =
    Reading l.tested.bytes.now (g.R.Read.remaining l.initial.input) (g.W.Write.contents l.initial.output) l.counter l.state (g.R.Read.remaining l.input) (g.W.Write.contents l.output)
