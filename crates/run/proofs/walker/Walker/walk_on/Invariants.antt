-- `walk_on` meets its contract: after k letters the walk is in s, and no state on the way is dead.
use Prim.Native.Nat.{◌<◌}
use Rattle.run.proofs.WalkLaws.{WalkUpto}
use Rattle.run.specs.Cards.{bytes_of, states_in}
use Rattle.run.proofs.walker.Walker.walk_on.Given as goal

abbrev pub invariant-loop-k : goal.invariant-loop-k
invariant-loop-k l =
    (l.s < states_in l.self.card) × WalkUpto (bytes_of l.self.card) l.plan l.state l.s l.k
