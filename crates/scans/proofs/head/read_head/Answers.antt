-- `scans::head::read_head` meets its contract: the tests of the line, then those of line 1.
use Rattle.std.proofs.Common.{sym, ◌∙◌}
use Rattle.std.proofs.lemmas.Result.{err_from_is_err_and}
use Rattle.scans.proofs.LineLaws.{head_tested, head_letters, head_malformed}
use Rattle.scans.proofs.head.read_head.Goals as goal

pub returns-in_err-line_test : goal.returns-in_err-line_test
returns-in_err-line_test c =
    let p = err_from_is_err_and c.from_residual.result c.from_residual.ensures.1 in
    rw (p.1, p.2) (head_tested _ _ _ c.in_err-line_test.ensures)

pub returns-then-is_head : goal.returns-then-is_head
returns-then-is_head c = head_letters _ _ c.in_ok-line_test.ensures (sym c.is_head.ensures ∙ c.if-is_head.true)

pub returns-else-is_head : goal.returns-else-is_head
returns-else-is_head c = head_malformed _ _ c.in_ok-line_test.ensures (sym c.is_head.ensures ∙ c.if-is_head.false)
