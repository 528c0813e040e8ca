-- `mark` meets its contract.
use Rattle.std.proofs.Common.{sym, ◌∙◌}
use Rattle.sections.specs.StateMark.{accepts}
use Rattle.sections.proofs.MarkLaws.{mark_stays, mark_leaves}
use Rattle.sections.proofs.marks.mark.Goals as goal

pub returns-then-accepts : goal.returns-then-accepts
returns-then-accepts c = accepts (sym c.accepts.ensures ∙ c.if-accepts.true)

pub returns-then-stays : goal.returns-then-stays
returns-then-stays c = mark_stays _ _ _ _ _ c.row.ensures (sym c.accepts.ensures ∙ c.if-accepts.false) (c.stays.ensures.back c.if-stays.true)

pub returns : goal.returns
returns c = mark_leaves _ _ _ _ _ c.row.ensures (sym c.accepts.ensures ∙ c.if-accepts.false) (c.stays.ensures.away c.if-stays.false)
