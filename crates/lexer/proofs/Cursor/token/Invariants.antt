-- `lexer::Cursor::token` meets its contract: as the loop passes spaces, the tokens left stay the same.
use Rattle.std.proofs.Common.{◌≡◌, drop}
use Rattle.book.specs.Text.{tokens}
use Rattle.lexer.proofs.Cursor.token.Given as goal

abbrev pub invariant-loop-at : goal.invariant-loop-at
invariant-loop-at l = tokens (drop l.at l.s) ≡ tokens (drop l.fn.self.at l.s)
