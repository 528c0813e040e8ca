-- `start` of a star meets its contract.
use mathlib.Core.List.{List}
use mathlib.Core.Path.{ap, ◌∙◌}
use Prim.Native.Nat.{ℕ}
use native.Mathlib.Omega.{arith}
use lib.ListN.{length, set}
use Rattle.rows.proofs.SumLaws.{summed_none}
use Rattle.sets.proofs.StarLaws.{star_width, star_start}
use Rattle.star.proofs.start.Goals as goal

pub flag-one-requires : goal.flag-one-requires
flag-one-requires c =
    let w = star_width c.args.operands.now c.requires.op_value in
    record { summed = summed_none 0 (length c.args.row.now) _ (c.fill.ensures.after (λ y e. e)) (omega (arith, w, c.requires.row_len, c.args.operands.now.fits.left_small)); i_in_bounds = omega (arith, w, c.requires.row_len, c.fill.auto.self) }

pub flag-requires : goal.flag-requires
flag-requires c =
    let w = star_width c.args.operands.now c.requires.op_value in
    record { summed = c.flag-one.ensures.1; i_in_bounds = omega (arith, w, c.requires.row_len, c.fill.auto.self, c.flag-one.auto.row) }

pub returns : goal.returns
returns c =
    let row = star_start c.args.operands.now c.requires.op_value (length c.args.row.now) _ c.requires.row_len (c.fill.ensures.after (λ y e. e)) in
    (c.flag.ensures.0 ∙ ap (λ (l : List ℕ). set l c.args.operands.now.left.states 1) c.flag-one.ensures.0 ∙ row, c.flag.ensures.1.is)
