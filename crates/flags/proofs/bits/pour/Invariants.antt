-- The flags set so far are those that the members before this one lead to.
use Rattle.std.proofs.Common.{◌≡◌, length}
use Rattle.rows.specs.Rows.{flag_at}
use Rattle.rows.specs.Sums.{Summed}
use Rattle.flags.specs.Flags.{some_accepting, target_of}
use Rattle.flags.specs.Members.{led_by}
use Rattle.flags.proofs.FlagLaws.{Flags}
use Rattle.flags.proofs.bits.pour.Given as goal

abbrev pub invariant-loop-q : goal.invariant-loop-q
invariant-loop-q l = record {
  flags : Flags (length l.initial.row) (led_by l.members (target_of l.table l.c) l.q-index) l.row;
  summed : Summed l.first l.row l.sum;
  accepting : l.accepting ≡ some_accepting (flag_at l.row) (flag_at l.table.cells.now) l.table.states;
}
