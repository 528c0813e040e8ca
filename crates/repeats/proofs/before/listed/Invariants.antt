-- The members before this one lead alike by both columns.
use Rattle.std.proofs.Common.{ℕ, ◌-◌, ◌<◌, get_or}
use Rattle.repeats.specs.Twins.{LeadAlike}
use Rattle.repeats.proofs.before.listed.Given as goal

abbrev pub invariant-loop-q : goal.invariant-loop-q
invariant-loop-q l = (j : ℕ) → j < l.q-index → LeadAlike l.table (l.c - 1) l.c (get_or l.members j 0)
