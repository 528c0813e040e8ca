-- `side` meets its contract.
use mathlib.Core.Path.{sym, ◌∙◌}
use Rattle.std.specs.Cmp.{booleans_Decides}
use Rattle.std.proofs.lemmas.Bool.{not-false}
use Rattle.std.proofs.lemmas.Bool.Decides.{Decides-not}
use Rattle.classes.proofs.RefineLaws.{side_none, side_same, side_other}
use Rattle.classes.proofs.refine.side.Goals as goal

pub returns-in-Some : goal.returns-in-Some
returns-in-Some c =
    sym (rw c.in-Some.is (side_other c.args.table.now _ c.args.p (λ e. (Decides-not _ (booleans_Decides _ _)).0 c.if-accepts.true (c.accepts.ensures ∙ e ∙ sym c.accepts-in-Some-1.ensures))))

pub returns-in_default : goal.returns-in_default
returns-in_default c =
    sym (side_same c.args.table.now c.args.other c.args.p (sym c.accepts.ensures ∙ (booleans_Decides _ _).0 (not-false _ c.if-accepts.false) ∙ c.accepts-in-Some-1.ensures))

pub returns-in_default-2 : goal.returns-in_default-2
returns-in_default-2 c =
    sym (rw c.in_default.is (side_none c.args.table.now c.args.p))
