-- `live` meets its contract: one sweep, and two a turn.
use Prim.Native.Nat.{◌+◌}
use Rattle.live.proofs.LiveLaws.{LiveUpto}
use Rattle.live.proofs.live.Given as goal

abbrev pub invariant-loop : goal.invariant-loop
invariant-loop l = LiveUpto 120 l.states.letters l.states.marks.now l.states.moves.now l.flags (l.counter + l.counter + 1)
