-- `alike` meets its contract: two columns a turn, and the last one where their number is odd.
use mathlib.Core.Path.{◌≡◌}
use Prim.Native.Nat.{◌+◌, ◌*◌, ◌-◌}
use native.Mathlib.Omega.{arith}
use Rattle.leaders.proofs.RoundLaws.{below_none, below_more, all_same, last_says}
use Rattle.leaders.proofs.alike.Goals as goal

pub loop-h-init : goal.loop-h-init
loop-h-init c = below_none _ _ _ _

pub loop-h-preserved : goal.loop-h-preserved
loop-h-preserved c =
    let e : 2 * (c.loop-h.h + 1) ≡ 2 * c.loop-h.h + 1 + 1 = omega arith in
    rw (← e) at (below_more _ _ _ _ (2 * c.loop-h.h + 1) (below_more _ _ _ _ (2 * c.loop-h.h) c.loop-h.invariant (c.agree.ensures.yes c.if-not-agree.false)) (c.agree-else-not-agree.ensures.yes c.if-not-agree-2.false))

pub returns : goal.returns
returns c =
    let e : 2 * c.loop-h.h ≡ c.args.table.now.columns = omega (arith, c.if-table-eq1.false, c.loop-h-test.false, c.loop-h.auto.h-end) in
    all_same _ _ _ _ _ c.requires.p_value (rw e at c.loop-h.invariant)

pub returns-then-table-eq1 : goal.returns-then-table-eq1
returns-then-table-eq1 c =
    let e : 2 * c.loop-h.h ≡ c.args.table.now.columns - 1 = omega (arith, c.if-table-eq1.true, c.loop-h-test.false, c.loop-h.auto.h-end) in
    last_says _ _ _ _ _ c.requires.p_value (c.args.table.now.columns - 1) _ (omega (arith, c.if-table-eq1.true)) (rw e at c.loop-h.invariant) c.agree-then-table-eq1.ensures
