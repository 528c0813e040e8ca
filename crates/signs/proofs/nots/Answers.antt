-- `signs::nots` meets its contract: the loop keeps that only `!` were passed, and how many.
use Rattle.std.proofs.Common.{◌∙◌, arith}
use Rattle.lexer.specs.declared.kinds.Kind.TheVariants.{Bang}
use Rattle.lexer.proofs.TokenLaws.{start_kind}
use Rattle.lexer.proofs.KindLaws.{unequal_true, unequal_false}
use Rattle.signs.proofs.StepLaws.{passed_start, passed_spaces, passed_turn}
use Rattle.signs.proofs.nots.Goals as goal

pub loop-t-init : goal.loop-t-init
loop-t-init c = passed_start _ _

pub returns-then-ne : goal.returns-then-ne
returns-then-ne c =
    record { passed = passed_spaces c.loop-t.invariant c.token-t.ensures.start; none = λ e. unequal_true _ Bang c.ne.ensures c.if-ne.true (start_kind c.token-t.ensures ∙ e) }

pub overflow_add-count : goal.overflow_add-count
overflow_add-count c =
    let q = unequal_false _ Bang c.ne.ensures c.if-ne.false in
    let x = c.token-t.ensures.token (λ e. omega arith) in
    omega (arith, c.loop-t.invariant.falls, x.falls)

pub loop-t-smaller : goal.loop-t-smaller
loop-t-smaller c =
    let q = unequal_false _ Bang c.ne.ensures c.if-ne.false in
    let x = c.token-t.ensures.token (λ e. omega arith) in
    omega (arith, x.falls)

pub loop-t-preserved : goal.loop-t-preserved
loop-t-preserved c =
    let q = unequal_false _ Bang c.ne.ensures c.if-ne.false in
    passed_turn c.loop-t.invariant (c.token-t.ensures.token (λ e. omega arith)) q
