-- The flags set so far are those that the members before this one lead to.
use Rattle.std.proofs.Common.{◌-◌}
use Rattle.rows.specs.Sums.{Summed}
use Rattle.flags.specs.Closure.{Gains}
use Rattle.flags.specs.Flags.{target_of}
use Rattle.flags.specs.Members.{led_by}
use Rattle.flags.proofs.closure.lead.Given as goal

abbrev pub invariant-loop-q : goal.invariant-loop-q
invariant-loop-q l = record {
  gains : Gains (target_of l.table (l.table.columns - 1)) l.table.states (led_by l.members (target_of l.table l.c) l.q-index) l.row;
  summed : Summed 0 l.row l.sum;
}
