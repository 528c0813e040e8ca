-- `forms::rule` meets its contract: a pattern that is read begins the rule.
use Rattle.std.proofs.Common.{refl, arith}
use Rattle.language.specs.Restriction.{restricts}
use Rattle.forms.proofs.FormLaws.{rule_none, rule_start, restricting, none_needed, from_rest, then_to, then_not}
use Rattle.forms.proofs.rule.Goals as goal

pub returns-in_err-p : goal.returns-in_err-p
returns-in_err-p c = rw c.from_residual.ensures (rule_none restricts _ c.requires.line_value (then_not c.in_err-p.ensures refl))

pub rest-requires : goal.rest-requires
rest-requires c =
    let t = then_to c.in_ok-p.ensures refl in
    none_needed (rule_start restricts _ _ _ _ _ _ c.requires.line_value c.requires.line_bound c.requires.room c.choice_then.auto.out (omega arith) restricting t)

pub returns : goal.returns
returns c = from_rest (then_to c.in_ok-p.ensures refl).grown c.in_ok-length.ensures
