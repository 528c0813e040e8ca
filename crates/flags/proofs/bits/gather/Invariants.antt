-- The members before q are listed; what stands behind them is free.
use Rattle.std.proofs.Common.{◌≤◌}
use Rattle.rows.specs.Rows.{flag_at}
use Rattle.flags.specs.Members.{Lists}
use Rattle.flags.proofs.bits.gather.Given as goal

abbrev pub invariant-loop-q : goal.invariant-loop-q
invariant-loop-q l = record {
  within : l.count ≤ l.q;
  lists : Lists (flag_at l.from) l.q l.count l.members;
}
