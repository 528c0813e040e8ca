-- `judge_each` meets its contract: the plans so far are judged.
use Prim.Native.Nat.{◌-◌}
use lib.ListN.{length}
use Rattle.plans.proofs.ManyLaws.{Upto}
use Rattle.run.specs.Cards.{bytes_of}
use Rattle.plans.proofs.judge_each.Given as goal

abbrev pub invariant-loop-from : goal.invariant-loop-from
invariant-loop-from l =
    Upto (bytes_of l.judge.walker.card) l.plans l.initial.replies l.count l.at l.from l.replies

abbrev pub decreases-loop-from : goal.decreases-loop-from
decreases-loop-from l =
    length l.plans - l.from
