-- `start` of an erase meets its contract.
use mathlib.Core.Path.{◌∙◌}
use native.Mathlib.Omega.{arith}
use lib.ListN.{length}
use Rattle.rows.proofs.SumLaws.{summed_none}
use Rattle.sets.proofs.EraseLaws.{erase_width, erase_closes, erase_clear, erase_start}
use Rattle.erase.proofs.start.Goals as goal

pub chase-requires : goal.chase-requires
chase-requires c =
    let a = c.args in
    record { closes = erase_closes a.operands.now c.requires.op_value c.fill.new.self (c.fill.auto.self ∙ c.requires.row_len); p_lt_states = c.args.operands.now.left.closed.some; summed = summed_none 0 (length a.row.now) _ (c.fill.ensures.after (λ y e. e)) (omega (arith, c.requires.row_len, erase_width a.operands.now c.requires.op_value, c.args.operands.now.fits.left_small)) }

pub returns : goal.returns
returns c =
    let a = c.args in
    let blank = erase_clear a.operands.now c.requires.op_value (length a.row.now) _ c.requires.row_len (c.fill.ensures.after (λ y e. e)) in
    (erase_start a.operands.now c.requires.op_value _ _ blank c.chase.ensures.0, c.chase.ensures.1.is)
