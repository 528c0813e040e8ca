-- `split` meets its contract: the states below p are split, and the classes from p on are the old ones.
use Rattle.std.proofs.Common.{arith, rules}
use Rattle.splits.proofs.ClassLaws.{owned_le, none_linked}
use Rattle.splits.proofs.SplitLaws.{split_start, split_least, split_joins, split_new}
use Rattle.splits.proofs.split.Goals as goal
use Rattle.splits.proofs.split.Goals.{then-start-p, else-start-p+then-keys-found, else-start-p+else-keys-found}

pub loop-p-init : goal.loop-p-init
loop-p-init c = split_start _ _ _ _ c.requires.1 (search rules) (λ r. none_linked 120 r)

pub overflow_add-count : goal.overflow_add-count
overflow_add-count c = omega (arith, c.loop-p.invariant.count, owned_le c.loop-p.classes c.loop-p.p)

pub overflow_add-count-else-keys-found : goal.overflow_add-count-else-keys-found
overflow_add-count-else-keys-found c = omega (arith, c.loop-p.invariant.count, owned_le c.loop-p.classes c.loop-p.p)

pub loop-p-preserved : goal.loop-p-preserved
loop-p-preserved c =
    let u = c.loop-p.invariant in
    elim c.if-start-p.branch [
      | then-start-p w ↦ rw (w.classes-is, w.link-is, w.count-is) (split_least 120 _ _ _ _ _ _ _ c.requires.0 c.requires.2 c.loop-p-test.true u w.if-start-p.true)
      | else-start-p+then-keys-found w ↦ rw (w.classes-is, w.link-is, w.count-is)
          (split_joins 120 _ _ _ _ _ _ _ c.requires.0 c.requires.2 c.loop-p-test.true u _ w.find-found.ensures w.if-start-p.false w.if-keys-found.true)
      | else-start-p+else-keys-found w ↦ rw (w.classes-is, w.link-is, w.count-is)
          (split_new 120 _ _ _ _ _ _ _ c.requires.0 c.requires.2 c.loop-p-test.true u _ w.find-found.ensures w.if-start-p.false w.if-keys-found.false)
    ]
