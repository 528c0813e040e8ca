-- `gather` meets its contract: the states below p have joined.
use mathlib.Core.Path.{sym, ◌∙◌}
use native.Mathlib.Omega.{arith}
use Rattle.std.specs.Cmp.{booleans_Decides}
use Rattle.std.proofs.lemmas.Bool.Decides.{not_from_Decides}
use Rattle.spread.proofs.SpreadLaws.{gather_passes, gather_joins}
use Rattle.spread.proofs.gather.gather.Goals as goal
use Rattle.spread.proofs.gather.gather.Goals.{then-accepts-side, else-accepts-side}

pub loop-p-preserved : goal.loop-p-preserved
loop-p-preserved c =
    elim c.if-accepts-side.branch [
      | then-accepts-side w ↦ rw (w.classes-is, w.firsts-is) (gather_joins _ _ _ _ c.requires.numbered _ _ _ c.loop-p-test.true c.loop-p.invariant _ _ (omega (arith, c.requires.room, c.loop-p.auto.classes)) (omega (arith, c.requires.room, c.loop-p.auto.firsts)) (sym c.accepts.ensures ∙ (booleans_Decides _ _).0 w.if-accepts-side.true) w.join.ensures)
      | else-accepts-side w ↦ rw (w.classes-is, w.firsts-is) (gather_passes _ _ _ _ c.requires.numbered _ _ _ c.loop-p-test.true c.loop-p.invariant (λ e. not_from_Decides _ (booleans_Decides _ _) w.if-accepts-side.false (c.accepts.ensures ∙ e)))
    ]
