-- `live` meets its contract.
use mathlib.Core.Path.{◌≡◌, ap, ◌∙◌}
use mathlib.Core.Bool.{not}
use Prim.Native.Nat.{◌+◌}
use native.Mathlib.Omega.{arith}
use Rattle.live.proofs.LiveLaws.{flags_of, live_start, live_next_lem, live_full, live_still}
use Rattle.live.proofs.live.Goals as goal
use Rattle.live.proofs.live.Goals.{then-not-descend-2-via-then-not-descend-2, then-not-descend-2-via-else-not-descend-2+then-not-ascend}

pub returns-then-not-descend : goal.returns-then-not-descend
returns-then-not-descend c =
    live_still _ _ _ _ _ _ _ _ (live_start _ _ _ _ _ (flags_of 120 _ _ (c.accepting.ensures.long ∙ c.told-flags) c.accepting.ensures.told)) c.descend.ensures (ap not c.if-not-descend.true)

pub loop-init : goal.loop-init
loop-init c =
    live_next_lem _ _ _ _ _ _ _ _ (live_start _ _ _ _ _ (flags_of 120 _ _ (c.accepting.ensures.long ∙ c.told-flags) c.accepting.ensures.told)) c.descend.ensures

pub returns-then-not-descend-2 : goal.returns-then-not-descend-2
returns-then-not-descend-2 c = elim c.then-not-descend-2.branch [
  | then-not-descend-2-via-then-not-descend-2 w ↦ rw w.flags-is (live_still _ _ _ _ _ _ _ _ c.loop.invariant c.descend-in-loop.ensures (ap not w.if-not-descend-2.true))
  | then-not-descend-2-via-else-not-descend-2+then-not-ascend w ↦
      rw w.flags-is (live_still _ _ _ _ _ _ _ _ (live_next_lem _ _ _ _ _ _ _ _ c.loop.invariant c.descend-in-loop.ensures) w.ascend.ensures (ap not w.if-not-ascend.true))
]

pub loop-preserved : goal.loop-preserved
loop-preserved c =
    let z : c.loop.counter + c.loop.counter + 1 + 1 + 1 ≡ c.loop.counter + 1 + (c.loop.counter + 1) + 1 = omega arith in
    rw z at (live_next_lem _ _ _ _ _ _ _ _ (live_next_lem _ _ _ _ _ _ _ _ c.loop.invariant c.descend-in-loop.ensures) c.ascend.ensures)

pub returns : goal.returns
returns c = live_full _ _ _ _ _ _ c.loop.invariant (omega arith)
