-- `forms::sister` meets its contract: a pattern that is read begins the rule, its first context lets it end.
use Rattle.std.proofs.Common.{refl, arith}
use Rattle.lexer.specs.declared.kinds.Kind.TheVariants.{Slash}
use Rattle.lexer.proofs.KindLaws.{unequal_true, unequal_false}
use Rattle.signs.specs.BufferLaws.{grown_more}
use Rattle.contexts.proofs.ContextLaws.{rule_half, context_to, context_not}
use Rattle.forms.proofs.FormLaws.{rule_none, sister_start, first_other, first_next, form_not, from_rest, then_to, then_not}
use Rattle.forms.proofs.sister.Goals as goal

pub returns-in_err-p : goal.returns-in_err-p
returns-in_err-p c =
    let i = c.requires.sister in
    rw c.from_residual.ensures (rule_none i.kind _ i.sign (then_not c.in_err-p.ensures refl))

pub returns-then-ne : goal.returns-then-ne
returns-then-ne c =
    let i = c.requires.sister in
    let d = sister_start _ _ _ i c.requires.line_bound c.requires.room c.choice_then.auto.out (then_to c.in_ok-p.ensures refl) in
    form_not (first_other i d c.token-t.ensures.kind_is (unequal_true _ Slash c.ne.ensures c.if-ne.true))

pub context-requires : goal.context-requires
context-requires c =
    let i = c.requires.sister in
    let d = sister_start _ _ _ i c.requires.line_bound c.requires.room c.choice_then.auto.out (then_to c.in_ok-p.ensures refl) in
    let q = unequal_false _ Slash c.ne.ensures c.if-ne.false in
    let x = c.token-t.ensures.token (λ e. omega (arith, q)) in
    omega (arith, d.room, x.falls)

pub returns-in_err-n : goal.returns-in_err-n
returns-in_err-n c =
    let i = c.requires.sister in
    let d = sister_start _ _ _ i c.requires.line_bound c.requires.room c.choice_then.auto.out (then_to c.in_ok-p.ensures refl) in
    let q = unequal_false _ Slash c.ne.ensures c.if-ne.false in
    let x = c.token-t.ensures.token (λ e. omega (arith, q)) in
    rw c.from_residual-in_err-n.ensures (form_not (rule_half d x q (context_not c.in_err-n.ensures refl)))

pub rest-requires : goal.rest-requires
rest-requires c =
    let i = c.requires.sister in
    let d = sister_start _ _ _ i c.requires.line_bound c.requires.room c.choice_then.auto.out (then_to c.in_ok-p.ensures refl) in
    let q = unequal_false _ Slash c.ne.ensures c.if-ne.false in
    let x = c.token-t.ensures.token (λ e. omega (arith, q)) in
    first_next i d x q _ _ (context_to c.in_ok-n.ensures refl) c.context.auto.out

pub returns : goal.returns
returns c =
    from_rest (grown_more (then_to c.in_ok-p.ensures refl).grown (context_to c.in_ok-n.ensures refl).grown) c.in_ok-length.ensures
