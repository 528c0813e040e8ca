-- `descend` meets its contract: the states from p on are visited.
use Rattle.std.proofs.Common.{length}
use Rattle.live.proofs.LiveLaws.{SweepUpto}
use Rattle.live.proofs.descend.Given as goal

abbrev pub invariant-loop-p : goal.invariant-loop-p
invariant-loop-p l =
    SweepUpto 120 l.states.letters l.states.marks.now l.states.moves.now l.initial.flags l.flags l.p (length l.states.marks.now) l.changed
