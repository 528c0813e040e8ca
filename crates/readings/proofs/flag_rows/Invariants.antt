-- `flag_rows` meets its contract: the flags before p are laid out.
use mathlib.Core.Path.{◌≡◌}
use Rattle.rows.specs.Found.{Kept}
use Rattle.sets.specs.Fits.{rows_for}
use Rattle.readings.specs.Flagged.{Flagged}
use Rattle.readings.proofs.flag_rows.Given as goal

abbrev pub invariant-loop-p : goal.invariant-loop-p
invariant-loop-p l =
    Flagged (rows_for l.operands) l.operands.width l.operands.limit l.p l.found.rows.now l.initial.found.table.now l.found.table.now × (l.found.rows.now ≡ l.initial.found.rows.now) × (l.found.count ≡ l.initial.found.count) × Kept l.initial.found l.found
