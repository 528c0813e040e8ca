-- `next` of an erase meets its contract.
use mathlib.Core.Path.{sym, ap, ◌∙◌}
use native.Mathlib.Omega.{arith}
use lib.ListN.{length}
use Rattle.rows.specs.Sums.{row_sum}
use Rattle.rows.proofs.SumLaws.{sum_none}
use Rattle.sets.proofs.EraseLaws.{erase_closes, erase_clear, erase_mark, erase_letter}
use Rattle.erase.proofs.next.Goals as goal

pub lead-requires : goal.lead-requires
lead-requires c =
    let a = c.args in
    let closes = erase_closes a.operands.now c.requires.op_value c.fill.new.self (c.fill.auto.self ∙ c.requires.step.long) in
    let blank = erase_clear a.operands.now c.requires.op_value (length a.row.now) _ c.requires.step.long (c.fill.ensures.after (λ y e. e)) in
    record { closes = closes; c_lt_columns = (c.requires.step.column, c.args.operands.now.fits.left_small); counted = c.requires.lists.counted; row_value = blank }

pub returns-then-operands-c : goal.returns-then-operands-c
returns-then-operands-c c =
    let a = c.args in
    (erase_letter a.operands.now c.requires.op_value a.c c.requires.step.column a.from.now a.members.now (length a.members.now) c.requires.lists _ c.lead.ensures.0 (λ e. c.if-operands-c.true (sym e)), c.lead.ensures.1.is)

pub returns : goal.returns
returns c =
    let a = c.args in
    let blank = erase_clear a.operands.now c.requires.op_value (length a.row.now) _ c.requires.step.long (c.fill.ensures.after (λ y e. e)) in
    (erase_mark a.operands.now c.requires.op_value a.c c.requires.step.column a.from.now _ blank (omega arith), sym (ap (row_sum 0) blank ∙ sum_none 0 a.operands.now.left.states))
