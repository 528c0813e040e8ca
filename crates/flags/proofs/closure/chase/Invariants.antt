-- `chase` meets its contract: each turn sets one flag more.
use Prim.Native.Nat.{◌-◌}
use Rattle.rows.specs.Sums.{Summed}
use Rattle.flags.specs.Closure.{unset}
use Rattle.flags.specs.Flags.{target_of}
use Rattle.flags.proofs.ClosureLaws.{Chasing}
use Rattle.flags.proofs.closure.chase.Given as goal

abbrev pub invariant-loop-row : goal.invariant-loop-row
invariant-loop-row l =
    Chasing (target_of l.table (l.table.columns - 1)) l.table.states l.p l.initial.row l.row l.q × Summed 0 l.row l.all

abbrev pub decreases-loop-row : goal.decreases-loop-row
decreases-loop-row l =
    unset l.row
