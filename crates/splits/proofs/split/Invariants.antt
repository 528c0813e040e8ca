-- `split` meets its contract: the states below p are split, and the classes from p on are the old ones.
use Rattle.splits.proofs.SplitLaws.{SplitUpto}
use Rattle.splits.proofs.split.Given as goal

abbrev pub invariant-loop-p : goal.invariant-loop-p
invariant-loop-p l = SplitUpto 120 l.keys l.initial.classes l.classes l.link l.count l.p
