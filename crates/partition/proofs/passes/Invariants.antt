-- `passes` meets its contract. The measure: each pass but the last leaves more classes, and a pass has at most 26 columns.
use Rattle.std.proofs.Common.{◌≡◌, ◌+◌, ◌*◌, ◌≤◌, ◌-◌, length}
use Rattle.partition.proofs.ReducedLaws.{ClassesUpto}
use Rattle.partition.proofs.passes.Given as goal

abbrev pub invariant-loop-count : goal.invariant-loop-count
invariant-loop-count l = record {
  states : l.n ≡ length l.states.marks.now;
  columns : l.c ≤ l.states.letters;
  begun : l.begun ≤ l.before;
  upto : ClassesUpto l.states.letters l.states.marks.now l.states.moves.now l.classes l.count l.before l.c;
  keys : length l.keys ≡ 120;
}

abbrev pub decreases-loop-count : goal.decreases-loop-count
decreases-loop-count l = (l.n - l.before) * 27 + (l.n - l.count) + (l.states.letters - l.c)
