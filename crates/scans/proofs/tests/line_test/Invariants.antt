-- `scans::tests::line_test` meets its contract: along the line, what is left decides as the whole, and so many `_` were passed.
use Rattle.std.proofs.Common.{◌≡◌, take}
use Rattle.std.specs.Prelude.{count_by, ◌==◌}
use Rattle.scans.proofs.LineLaws.{Along}
use Rattle.scans.proofs.tests.line_test.Given as goal

abbrev pub invariant-loop-b : goal.invariant-loop-b
invariant-loop-b l = record {
  along : Along l.line l.b-index l.opens l.closes;
  passed : l.gaps ≡ count_by (λ b. b == 95) (take l.b-index l.line);
}
