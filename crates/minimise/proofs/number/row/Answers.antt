-- `row` meets its contract. The loop: the columns below c are written, all that they lead to is in the order, and x is the number of the last one's.
use mathlib.Core.Path.{refl, sym, ◌∙◌}
use native.Mathlib.Omega.{arith}
use Rattle.std.proofs.lemmas.List.{map-id}
use Rattle.minimise.proofs.RowLaws.{last_none, row_starts, row_full, column_again, column_grown, column_next}
use Rattle.minimise.proofs.number.row.Goals as goal
use Rattle.minimise.proofs.number.row.Goals.{then-t-last+in_ok-x, else-t-last}

pub loop-c-init : goal.loop-c-init
loop-c-init c =
    (row_starts c.requires, last_none refl)

pub returns-in_err-x : goal.returns-in_err-x
returns-in_err-x c =
    rw c.from_residual.ensures (row_full c.requires _ _ _ _ _ _ _ c.loop-c.invariant.0 c.loop-c-test.true c.from-p.ensures c.target-t.ensures c.arrive.new.numbers c.arrive.new.order (rw (map-id c.loop-c.order, c.from.ensures) at c.in_err-x.ensures.arrived))

pub loop-c-preserved : goal.loop-c-preserved
loop-c-preserved c =
    elim c.if-t-last.branch [
      | then-t-last+in_ok-x w ↦
          rw (w.numbers-is, w.order-is, w.x-is) (column_next c.requires _ _ _ _ _ _ _ c.loop-c.invariant.0 c.loop-c-test.true c.from-p.ensures c.target-t.ensures _ _ _ _
          (rw (map-id c.loop-c.order, map-id w.arrive.new.numbers, map-id w.arrive.new.order, w.from.ensures) at w.in_ok-x.ensures.arrived) (omega (arith, w.m-is, w.max-m.ensures)) _ _ w.last-is c.loop-c.auto.slot refl)
      | else-t-last w ↦
          let again = sym w.if-t-last.false in
          rw (w.numbers-is, w.order-is, w.x-is) (column_next c.requires _ _ _ _ _ _ _ c.loop-c.invariant.0 c.loop-c-test.true c.from-p.ensures c.target-t.ensures _ _ _ _
          (column_again c.requires _ _ _ _ _ _ _ c.loop-c.invariant.0 c.loop-c-test.true c.from-p.ensures c.target-t.ensures _ _ again c.loop-c.invariant.1)
          (column_grown c.requires _ _ _ _ _ _ _ c.loop-c.invariant.0 c.loop-c-test.true c.from-p.ensures c.target-t.ensures _ _ _ again c.loop-c.invariant.1 w.m-is)
          _ _ (w.last-is ∙ again) c.loop-c.auto.slot refl)
    ]
