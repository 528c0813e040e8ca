-- `number` meets its contract. The loop: i rows are written, and the order is the listing after i turns.
use native.Mathlib.Omega.{arith}
use Rattle.minimise.proofs.NumberLaws.{order_starts, order_rolling, order_full, order_turns, order_ends, too_many}
use Rattle.minimise.proofs.number.number.Goals as goal

pub loop-i-init : goal.loop-i-init
loop-i-init c =
    order_starts c.requires

pub row-requires : goal.row-requires
row-requires c =
    order_rolling c.requires _ _ _ _ _ c.loop-i.invariant c.loop-i.auto.slot c.loop-i-test.true

pub returns-in_err-m : goal.returns-in_err-m
returns-in_err-m c =
    rw c.from_residual.ensures (too_many _ _ _ _ (order_full c.requires _ _ _ _ _ c.loop-i.invariant c.loop-i.auto.slot c.row.new.numbers c.row.new.order c.row.new.slot c.loop-i-test.true c.in_err-m.ensures))

pub loop-i-preserved : goal.loop-i-preserved
loop-i-preserved c =
    order_turns c.requires _ _ _ _ _ c.loop-i.invariant c.loop-i.auto.slot _ _ _ _ c.loop-i-test.true c.row.auto.numbers c.in_ok-m.ensures

pub returns : goal.returns
returns c =
    order_ends c.requires _ _ _ _ _ c.loop-i.invariant c.loop-i.auto.slot _ (omega (arith, c.loop-i.invariant.turns, c.loop-i-test.false)) c.mark.ensures c.mark.auto.slot
