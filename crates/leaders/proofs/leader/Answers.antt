-- `leader` meets its contract. The loop: r leads a class, and no later leader goes with p; the measure is r, since the links go down.
use Rattle.leaders.proofs.RoundLaws.{leader_start, leader_first, leader_found, leader_next}
use Rattle.leaders.proofs.leader.Goals as goal

pub returns-then-alike : goal.returns-then-alike
returns-then-alike c =
    λ next U. leader_first U _ _ c.requires.fact c.from-c.ensures c.alike.ensures c.if-alike.true

pub loop-r-init : goal.loop-r-init
loop-r-init c =
    λ next U. leader_start U _ _ c.requires.fact c.from-c.ensures c.from-r.ensures

pub loop-r-preserved : goal.loop-r-preserved
loop-r-preserved c =
    λ next U. (leader_next U _ _ _ _ c.from-c.ensures c.loop-r-test.true c.from-r-in-loop-r.ensures (c.loop-r.invariant next U) c.alike-in-loop-r.ensures c.if-alike-2.false).0

pub loop-r-smaller : goal.loop-r-smaller
loop-r-smaller c =
    let U = c.requires.under.under in
    (leader_next U _ _ _ _ c.from-c.ensures c.loop-r-test.true c.from-r-in-loop-r.ensures (c.loop-r.invariant c.requires.under.next U) c.alike-in-loop-r.ensures c.if-alike-2.false).1

pub returns-then-alike-2 : goal.returns-then-alike-2
returns-then-alike-2 c =
    λ next U. leader_found U _ _ (c.loop-r.invariant next U) c.alike-in-loop-r.ensures c.if-alike-2.true
