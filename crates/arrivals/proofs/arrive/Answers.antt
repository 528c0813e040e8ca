-- `arrive` meets its contract: two letters a turn.
use mathlib.Core.Path.{◌≡◌}
use Prim.Native.Nat.{◌<◌, ◌+◌, ◌-◌, ◌/◌}
use native.Mathlib.Omega.{arith}
use Rattle.arrivals.proofs.RoundLaws.{going_roomy, going_roomy_again, going_more}
use Rattle.arrivals.proofs.arrive.Goals as goal

pub advance-requires : goal.advance-requires
advance-requires c =
    let h : 0 < c.args.k / 2 - c.loop.counter = omega arith in
    going_roomy _ _ _ _ _ _ _ c.loop.invariant h

pub advance-requires-in-loop : goal.advance-requires-in-loop
advance-requires-in-loop c =
    let h : 0 < c.args.k / 2 - c.loop.counter = omega arith in
    going_roomy_again _ _ _ _ _ _ _ c.loop.invariant h _ c.advance.ensures

pub loop-preserved : goal.loop-preserved
loop-preserved c =
    let h : 0 < c.args.k / 2 - c.loop.counter = omega arith in
    let z : c.args.k / 2 - c.loop.counter - 1 ≡ c.args.k / 2 - (c.loop.counter + 1) = omega arith in
    rw z at (going_more _ _ _ _ _ _ _ c.loop.invariant h _ c.advance.ensures _ c.advance-in-loop.ensures)
