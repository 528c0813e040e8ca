-- `distance` meets its contract: the states in the places below i are passed.
use native.Mathlib.Omega.{arith}
use Prim.Native.Nat.{ℕ, ◌<◌, ◌≤◌}
use lib.ListN.{length, replicate, length-replicate, get_or-replicate}
use Rattle.moves.specs.TableLaws.{row_all}
use Rattle.levels.proofs.LevelsLaws.{order_room, head_low, search_start, search_pass, search_found, search_none, row_found, row_none}
use Rattle.levels.proofs.distance.Goals as goal

pub loop-i-init : goal.loop-i-init
loop-i-init c =
    let m = c.args.states.table.states_most in
    let l : length c.args.states.marks.now ≤ length {A = ℕ} (replicate 120 65535) = omega (arith, length-replicate {A = ℕ} 120 65535) in
    let q : length c.args.states.marks.now ≤ length {A = ℕ} (replicate 120 0) = omega (arith, length-replicate {A = ℕ} 120 0) in
    record {
      within = omega arith;
      search = search_start _ _ _ _ (replicate 120 65535) (replicate 120 0) c.requires.0 l q (λ q b. get_or-replicate {A = ℕ} 120 q 65535 0 (omega (arith, m)));
    }

pub bounds-reached-i : goal.bounds-reached-i
bounds-reached-i c =
    omega (arith, c.loop-i-test.true, order_room _ _ _ _ c.loop-i.invariant.search.order, c.args.states.table.states_most)

pub overflow_add-letters : goal.overflow_add-letters
overflow_add-letters c =
    omega (arith, head_low _ _ _ c.args.states.table _ _ _ _ _ c.loop-i.invariant.search c.loop-i-test.true, c.args.states.table.states_most)

pub accepts-requires : goal.accepts-requires
accepts-requires c =
    row_all _ _ _ _ _ c.row.ensures (λ t. t < length c.args.states.marks.now) (λ t h. h)

pub returns-then-accepts : goal.returns-then-accepts
returns-then-accepts c =
    search_found _ _ _ c.args.states.table _ _ _ _ _ c.loop-i.invariant.search c.requires.0 c.requires.1 c.loop-i-test.true (row_found _ _ _ _ _ c.row.ensures _ c.accepts.ensures c.if-accepts.true)

pub overflow_add-i : goal.overflow_add-i
overflow_add-i c =
    omega (arith, c.loop-i-test.true, order_room _ _ _ _ c.loop-i.invariant.search.order, c.args.states.table.states_most)

pub loop-i-smaller : goal.loop-i-smaller
loop-i-smaller c =
    omega (arith, c.loop-i-test.true, order_room _ _ _ _ c.loop-i.invariant.search.order)

pub loop-i-preserved : goal.loop-i-preserved
loop-i-preserved c =
    let x = c.loop-i-test.true in
    record {
      within = omega (arith, (c.spread.ensures.stays _ x).0);
      search = search_pass _ _ _ c.args.states.table _ _ _ _ _ c.loop-i.invariant.search x (row_none _ _ _ _ _ c.row.ensures _ c.accepts.ensures c.if-accepts.false) _ _ _ c.spread.ensures;
    }

pub returns : goal.returns
returns c =
    rw c.len.ensures (search_none _ _ _ c.args.states.table _ _ _ _ _ c.loop-i.invariant.search c.requires.0 c.requires.1 c.loop-i-test.false)
