-- `forms::rest` meets its contract: the line that ends ends the rule.
use Rattle.std.proofs.Common.{refl, arith}
use Rattle.forms.proofs.FormLaws.{rule_end, contexts_to}
use Rattle.forms.proofs.rest.Goals as goal

pub returns : goal.returns
returns c =
    let e = contexts_to c.in_ok-n.ensures refl in
    let d = e.ruled.ruled in
    rule_end _ _ e c.put_row.ensures (omega (arith, d.room, d.few, c.put_row.ensures.end_is, c.put_row.auto.out))
