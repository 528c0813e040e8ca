-- `spread` meets its contract: the targets of the moves passed have levels.
use Prim.Native.Nat.{◌*◌}
use lib.ListN.{length}
use Rattle.levels.specs.Levels.{Spread}
use Rattle.levels.proofs.Reached.spread.Given as goal

abbrev pub invariant-loop-t : goal.invariant-loop-t
invariant-loop-t l =
    Spread (length l.states.marks.now) l.states.moves.now (l.p * l.states.letters) l.t-index l.level l.initial.self.levels l.initial.self.order l.initial.self.count l.self.levels l.self.order l.self.count
