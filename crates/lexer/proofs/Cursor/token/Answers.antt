-- `lexer::Cursor::token` meets its contract: where the spaces end, a token stands, or the bytes end.
use Rattle.std.proofs.Common.{sym, ◌∙◌, ◌≤◌, length, arith}
use Rattle.book.specs.Kind.{sign_only}
use Rattle.lexer.specs.Token.{Past}
use Rattle.lexer.proofs.TokenLaws.{past_token, past_end, tokens_end, lexed_token, lexed_end}
use Rattle.lexer.proofs.Cursor.token.Goals as goal

pub returns-then-byte-ne32 : goal.returns-then-byte-ne32
returns-then-byte-ne32 c =
    let p : Past _ _ _ = record { same = c.loop-at.invariant; up = omega arith; token = λ h e. c.if-byte-ne32.true (sign_only _ 11 e) } in
    lexed_token p (record { rest_is = past_token p (omega arith); kind_is = c.of.ensures; falls = omega arith })

pub returns : goal.returns
returns c =
    let over : length c.args.s.now ≤ c.max.result = omega arith in
    let done : length c.args.s.now ≤ c.loop-at.at = omega arith in
    let p : Past c.args.s.now c.args.self.at c.max.result = record {
      same = tokens_end _ _ over ∙ (sym (tokens_end _ _ done) ∙ c.loop-at.invariant);
      up = omega arith;
      token = λ h _. omega arith;
    } in
    lexed_end p (past_end p over)
