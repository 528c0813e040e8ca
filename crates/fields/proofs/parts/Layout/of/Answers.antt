-- `of` meets its contract: the counts are those of right contents.
use Rattle.std.proofs.Common.{sym, ◌∙◌}
use Rattle.fields.proofs.ReadLaws.{of_counted}
use Rattle.fields.proofs.parts.Layout.of.Goals as goal

pub invariant_of-result : goal.invariant_of-result
invariant_of-result c =
    record { right = of_counted _ _ _ (sym c.in_ok-counts.was ∙ c.contents.ensures) }
