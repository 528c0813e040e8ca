-- `frame::opening` meets its contract: 1 and 2 come first.
use Rattle.compiler.specs.Lent.{documented}
use Rattle.frame.proofs.FrameLaws.{all_enough, too_long, too_short, opens, opens_not}
use native.Mathlib.Omega.{arith}
use Rattle.std.proofs.lemmas.Result.{err_from_is_err_and}
use mathlib.Core.Path.{sym, ◌∙◌}
use Rattle.frame.proofs.opening.Goals as goal

pub returns-then-text-gt-TEXT : goal.returns-then-text-gt-TEXT
returns-then-text-gt-TEXT c =
    too_long c.args.text.now _ (omega arith)

pub returns-then-not-long_enough : goal.returns-then-not-long_enough
returns-then-not-long_enough c =
    too_short c.args.text.now _ (omega arith) (all_enough documented c.args.lengths.now c.told-lengths ∙ sym c.long_enough.ensures ∙ c.if-not-long_enough.true)

pub first_line-requires : goal.first_line-requires
first_line-requires c =
    omega arith

pub returns-in_err-first_line : goal.returns-in_err-first_line
returns-in_err-first_line c =
    let p = err_from_is_err_and c.from_residual.result c.from_residual.ensures.1 in
    rw (p.1, p.2) (opens_not c.args.text.now _ _ (omega arith) (all_enough documented c.args.lengths.now c.told-lengths ∙ sym c.long_enough.ensures ∙ c.if-not-long_enough.false) c.in_err-first_line.ensures)

pub returns : goal.returns
returns c =
    opens c.args.text.now _ _ (omega arith) (all_enough documented c.args.lengths.now c.told-lengths ∙ sym c.long_enough.ensures ∙ c.if-not-long_enough.false) c.in_ok-first_line.ensures
