-- `lexer::kinds::Kind::of` meets its contract: the table's rule at a byte below 0x80, and the law of the bytes from there on.
use mathlib.Core.Path.{sym}
use Rattle.book.specs.Kind.{kind_high}
use Rattle.lexer.proofs.Table.{kinds_right}
use Rattle.lexer.proofs.kinds.Kind.of.Goals as goal

pub returns-then-i-lt-ASCII_END : goal.returns-then-i-lt-ASCII_END
returns-then-i-lt-ASCII_END c = kinds_right.entry c.args.b c.if-i-lt-ASCII_END.true

pub returns-else-i-lt-ASCII_END : goal.returns-else-i-lt-ASCII_END
returns-else-i-lt-ASCII_END c = sym (kind_high c.args.b c.if-i-lt-ASCII_END.false)
