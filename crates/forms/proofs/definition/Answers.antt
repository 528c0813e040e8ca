-- `forms::definition` meets its contract: each answer is one case of `define_of`.
use Rattle.std.proofs.Common.{refl, arith}
use Rattle.lexer.specs.declared.kinds.Kind.TheVariants.{Name}
use Rattle.lexer.proofs.TokenLaws.{past_token, past_end}
use Rattle.lexer.proofs.KindLaws.{unequal_true, unequal_false}
use Rattle.choice.specs.ReadingLaws.{read_to, choice_bad}
use Rattle.forms.proofs.FormLaws.{define_other, define_bad, define_more, define_whole}
use Rattle.forms.proofs.definition.Goals as goal

pub returns-then-ne : goal.returns-then-ne
returns-then-ne c = define_other _ c.requires.line_value c.token-t.ensures.kind_is (unequal_true _ Name c.ne.ensures c.if-ne.true)

pub returns-in_err-n : goal.returns-in_err-n
returns-in_err-n c =
    let q = unequal_false _ Name c.ne.ensures c.if-ne.false in
    let x = c.token-t.ensures.token (λ e. omega (arith, q)) in
    rw c.from_residual.ensures (define_bad _ c.requires.line_value x q (choice_bad c.in_err-n.ensures refl))

pub returns-then-skip-line : goal.returns-then-skip-line
returns-then-skip-line c =
    let q = unequal_false _ Name c.ne.ensures c.if-ne.false in
    let x = c.token-t.ensures.token (λ e. omega (arith, q)) in
    let t = read_to c.in_ok-n.ensures refl in
    define_more _ c.requires.line_value x q t (past_token c.skip.ensures c.if-skip-line.true)

pub returns : goal.returns
returns c =
    let q = unequal_false _ Name c.ne.ensures c.if-ne.false in
    let x = c.token-t.ensures.token (λ e. omega (arith, q)) in
    let t = read_to c.in_ok-n.ensures refl in
    define_whole _ c.requires.line_value x q t (past_end c.skip.ensures c.if-skip-line.false) (omega (arith, t.room, c.requires.room, c.choice.auto.out))
