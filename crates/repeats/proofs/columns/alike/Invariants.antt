-- The states before q lead to the same place by both columns.
use Rattle.std.proofs.Common.{ℕ, ◌<◌}
use Rattle.repeats.specs.Twins.{LeadAlike}
use Rattle.repeats.proofs.columns.alike.Given as goal

abbrev pub invariant-loop-q : goal.invariant-loop-q
invariant-loop-q l = (i : ℕ) → i < l.q → LeadAlike l.table l.d l.c i
