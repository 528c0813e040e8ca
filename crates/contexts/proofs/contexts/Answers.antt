-- `contexts::contexts` meets its contract: as the loop passes a context, what is left of the rule's form stays the same.
use Rattle.std.proofs.Common.{refl, ◌∙◌, arith}
use Rattle.lexer.specs.declared.kinds.Kind.TheVariants.{Slash}
use Rattle.lexer.proofs.TokenLaws.{past_token}
use Rattle.lexer.proofs.KindLaws.{unequal_true, unequal_false}
use Rattle.signs.specs.BufferLaws.{grown_more}
use Rattle.contexts.proofs.ContextLaws.{further_other, further_half, further_next, context_to, context_not}
use Rattle.contexts.proofs.contexts.Goals as goal

pub returns-then-ne : goal.returns-then-ne
returns-then-ne c =
    further_other c.loop-t.invariant.0 (past_token c.token-t.ensures.start c.if-line-t.false) c.token-t.ensures.kind_is (unequal_true _ Slash c.ne.ensures c.if-ne.true)

pub returns-in_err-here : goal.returns-in_err-here
returns-in_err-here c =
    let q = unequal_false _ Slash c.ne.ensures c.if-ne.false in
    rw c.from_residual.ensures (further_half c.loop-t.invariant.0 (c.token-t.ensures.token (λ e. omega (arith, q))) q (context_not c.in_err-here.ensures refl))

pub loop-t-preserved : goal.loop-t-preserved
loop-t-preserved c =
    let q = unequal_false _ Slash c.ne.ensures c.if-ne.false in
    let t = context_to c.in_ok-here.ensures refl in
    (further_next c.loop-t.invariant.0 (c.token-t.ensures.token (λ e. omega (arith, q))) q _ _ t c.further.auto.out, c.further.auto.out ∙ c.loop-t.invariant.1, grown_more c.loop-t.invariant.2 t.grown)
