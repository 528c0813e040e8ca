-- `distance` meets its contract: the states in the places below i are passed.
use Prim.Native.Nat.{◌≤◌, ◌-◌}
use lib.ListN.{length}
use Rattle.levels.specs.Levels.{Search}
use Rattle.levels.proofs.distance.Given as goal

abbrev pub invariant-loop-i : goal.invariant-loop-i
invariant-loop-i l = record {
  within : l.i ≤ l.reached.count;
  search : Search l.states.letters l.states.marks.now l.states.moves.now l.state l.i l.reached.levels l.reached.order l.reached.count;
}

abbrev pub decreases-loop-i : goal.decreases-loop-i
decreases-loop-i l =
    length l.states.marks.now - l.i
