-- `contexts::right` meets its contract: each answer is one case of `right_of`.
use Rattle.std.proofs.Common.{arith}
use Rattle.lexer.specs.declared.kinds.Kind.TheVariants.{Underscore}
use Rattle.lexer.proofs.KindLaws.{unequal_false}
use Rattle.contexts.proofs.ContextLaws.{right_read}
use Rattle.contexts.proofs.right.Goals as goal

pub returns : goal.returns
returns c =
    let q = unequal_false _ Underscore c.ne.ensures c.if-ne.false in
    right_read (c.token-t.ensures.token (λ e. omega (arith, q))) q _ c.choice_then.ensures
