-- `scans::head::is_head` meets its contract: behind its `:` the letters rise.
use Rattle.std.proofs.Common.{sym, ap, ◌∙◌, arith}
use Rattle.book.specs.Text.{rising}
use Rattle.lexer.specs.declared.kinds.Kind.TheVariants.{Colon}
use Rattle.lexer.proofs.KindLaws.{unequal_false}
use Rattle.scans.proofs.LineLaws.{rest_whole, head_rises}
use Rattle.scans.proofs.head.is_head.Goals as goal

pub returns : goal.returns
returns c =
    let q = unequal_false _ Colon c.ne.ensures c.if-ne.false in
    c.rises.ensures ∙ ap (λ l. rising 0 l) (rest_whole c.args.line.now 1) ∙ sym (head_rises c.args.line.now _ (omega arith) c.of.ensures q c.if-line-lt2.false c.if-line-gt27.false)
