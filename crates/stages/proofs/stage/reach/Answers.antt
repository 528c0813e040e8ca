-- `stages::stage::reach` meets its contract.
use mathlib.Core.Path.{refl, sym}
use Prim.Native.Nat.{ℕ, ◌≤◌}
use native.Mathlib.Omega.{arith}
use lib.ListN.{length-replicate}
use lib.Seq.{length-take-le}
use Rattle.answers.proofs.StageLaws.{reach_half, reach_width, reach_asks, reach_lists, reach_found}
use Rattle.stages.proofs.stage.reach.Goals as goal

pub overflow_mul-half : goal.overflow_mul-half
overflow_mul-half c =
    omega (arith, reach_half c.requires)

pub overflow_add-half : goal.overflow_add-half
overflow_add-half c =
    omega (arith, reach_half c.requires)

pub offset_bounds-tables-half : goal.offset_bounds-tables-half
offset_bounds-tables-half c =
    omega (arith, reach_half c.requires)

pub slice_bounds-row-end : goal.slice_bounds-row-end
slice_bounds-row-end c =
    omega (arith, reach_width c.requires c.args.op _ c.width-width.ensures, c.requires.states.1)

pub slice_bounds-explore-end-2 : goal.slice_bounds-explore-end-2
slice_bounds-explore-end-2 c =
    let h : c.width-width.result ≤ 258 = omega (arith, reach_width c.requires c.args.op _ c.width-width.ensures, c.requires.states.1) in
    sym (length-take-le _ _ h)

pub explore-requires : goal.explore-requires
explore-requires c =
    let h : c.width-width.result ≤ 258 = omega (arith, reach_width c.requires c.args.op _ c.width-width.ensures, c.requires.states.1) in
    record { explores = reach_asks c.requires _ refl refl refl refl _ (length-take-le _ _ h); listing = reach_lists c.requires _ refl refl _ (length-replicate {A = ℕ} 256 0) }

pub returns-clause-reached : goal.returns-clause-reached
returns-clause-reached c =
    reach_found c.requires c.args.op c.width-width.result _ _ _ c.explore.ensures
