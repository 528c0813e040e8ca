-- `forms::form` meets its contract, by the kind of the line's first byte.
use Rattle.std.proofs.Common.{arith}
use Rattle.std.proofs.lemmas.Grind.{common_steps}
use Rattle.lexer.specs.declared.kinds.Kind.TheVariants.{Equals, Greater, Less, Caret}
use Rattle.lexer.proofs.KindLaws.{kind_only}
use Rattle.forms.proofs.FormLaws.{form_empty, form_neither}
use Rattle.forms.proofs.form.Goals as goal

pub returns-then-is_empty : goal.returns-then-is_empty
returns-then-is_empty c = form_empty _ (grind (arith, common_steps))

pub returns-in_default : goal.returns-in_default
returns-in_default c =
    form_neither _ _ c.of.ensures (λ e. c.in_default.not-Equals (kind_only _ Equals e)) (λ e. c.in_default.not-Greater (kind_only _ Greater e))
    (λ e. c.in_default.not-Less (kind_only _ Less e)) (λ e. c.in_default.not-Caret (kind_only _ Caret e))
