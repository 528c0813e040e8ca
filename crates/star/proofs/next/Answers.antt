-- `next` of a star meets its contract.
use mathlib.Core.List.{List}
use mathlib.Core.Path.{sym, ap, ◌∙◌}
use Prim.Native.Nat.{ℕ}
use native.Mathlib.Omega.{arith}
use lib.ListN.{length, set}
use Rattle.sets.proofs.StarLaws.{star_width, star_asks, star_gains, star_stays}
use Rattle.star.proofs.next.Goals as goal

pub lead-poured-requires : goal.lead-poured-requires
lead-poured-requires c =
    star_asks c.args.operands.now c.requires.op_value c.args.c c.requires.step.column c.args.from.now c.args.members.now (length c.args.members.now) c.requires.lists c.args.row.now c.requires.step.long

pub flag-one-requires : goal.flag-one-requires
flag-one-requires c =
    let w = star_width c.args.operands.now c.requires.op_value in
    record { summed = c.lead-poured.ensures.summed; i_in_bounds = omega (arith, w, c.requires.step.long, c.lead-poured.auto.row) }

pub flag-requires : goal.flag-requires
flag-requires c =
    let w = star_width c.args.operands.now c.requires.op_value in
    record { summed = c.flag-one.ensures.1; i_in_bounds = omega (arith, w, c.requires.step.long, c.lead-poured.auto.row, c.flag-one.auto.row) }

pub returns-then-poured : goal.returns-then-poured
returns-then-poured c =
    let a = c.args in
    let row = star_gains a.operands.now c.requires.op_value a.c c.requires.step.column a.from.now a.members.now (length a.members.now) c.requires.lists (length a.row.now) _ c.requires.step.long c.lead-poured.ensures.is (sym c.if-poured.true ∙ c.lead-poured.ensures.accepting) in
    (c.flag.ensures.0 ∙ ap (λ (l : List ℕ). set l a.operands.now.left.states 1) c.flag-one.ensures.0 ∙ row, c.flag.ensures.1.is)

pub returns : goal.returns
returns c =
    let a = c.args in
    (star_stays a.operands.now c.requires.op_value a.c c.requires.step.column a.from.now a.members.now (length a.members.now) c.requires.lists (length a.row.now) _ c.requires.step.long c.lead-poured.ensures.is (sym c.if-poured.false ∙ c.lead-poured.ensures.accepting), c.lead-poured.ensures.summed.is)
