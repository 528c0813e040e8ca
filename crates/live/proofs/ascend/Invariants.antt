-- `ascend` meets its contract: the states below p are visited.
use Rattle.live.proofs.LiveLaws.{SweepUpto}
use Rattle.live.proofs.ascend.Given as goal

abbrev pub invariant-loop-p : goal.invariant-loop-p
invariant-loop-p l =
    SweepUpto 120 l.states.letters l.states.marks.now l.states.moves.now l.initial.flags l.flags 0 l.p l.changed
