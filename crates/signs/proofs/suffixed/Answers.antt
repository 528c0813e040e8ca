-- `signs::suffixed` meets its contract: each turn writes the code of one sign.
use Rattle.std.proofs.Common.{refl, arith}
use Rattle.book.specs.Kind.{star_kind, question_kind}
use Rattle.lexer.proofs.TokenLaws.{start_kind}
use Rattle.lexer.proofs.KindLaws.{inside, outside}
use Rattle.signs.proofs.KindLaws.{repeats_stop}
use Rattle.signs.proofs.StepLaws.{suffixing_start, suffixing_spaces, suffixing_turn, suffixing_done}
use Rattle.signs.proofs.suffixed.Goals as goal

pub loop-t-init : goal.loop-t-init
loop-t-init c = suffixing_start _ _ _

pub returns-then-not-is_suffix : goal.returns-then-not-is_suffix
returns-then-not-is_suffix c =
    let q = outside star_kind question_kind c.token-t.result.kind c.is_suffix.ensures c.if-not-is_suffix.true in
    (suffixing_done (suffixing_spaces c.loop-t.invariant c.token-t.ensures.start) (λ e. repeats_stop _ _ e (start_kind c.token-t.ensures) (λ z. omega (arith, q)) (λ z. omega (arith, q)) (λ z. omega (arith, q))))

pub put-here-requires : goal.put-here-requires
put-here-requires c =
    let q = inside star_kind question_kind c.token-t.result.kind c.is_suffix.ensures c.if-not-is_suffix.false in
    let x = c.token-t.ensures.token (λ e. omega (arith, q.1)) in
    let v = c.loop-t.invariant in
    omega (arith, v.room, v.falls, v.same_length, x.falls)

pub loop-t-smaller : goal.loop-t-smaller
loop-t-smaller c =
    let q = inside star_kind question_kind c.token-t.result.kind c.is_suffix.ensures c.if-not-is_suffix.false in
    let x = c.token-t.ensures.token (λ e. omega (arith, q.1)) in
    omega (arith, x.falls, c.put-here.ensures.at_is)

pub loop-t-preserved : goal.loop-t-preserved
loop-t-preserved c =
    let q = inside star_kind question_kind c.token-t.result.kind c.is_suffix.ensures c.if-not-is_suffix.false in
    suffixing_turn c.loop-t.invariant (c.token-t.ensures.token (λ e. omega (arith, q.1))) q.0 q.1 c.put-here.ensures refl c.put-here.auto.out
