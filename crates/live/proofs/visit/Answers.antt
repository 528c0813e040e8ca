-- `visit` meets its contract.
use mathlib.Core.Path.{sym, ◌∙◌}
use Rattle.live.proofs.LiveLaws.{visit_new}
use Rattle.live.proofs.visit.Goals as goal

pub returns : goal.returns
returns c = visit_new _ _ _ _ _ c.row.ensures _ (sym c.leads.ensures ∙ c.if-not-leads.false)
