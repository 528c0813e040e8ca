-- `scans::head::rises` meets its contract: what is left rises above the last letter exactly when the whole rises.
use Rattle.std.proofs.Common.{◌≡◌, drop}
use Rattle.book.specs.Text.{rising}
use Rattle.scans.proofs.head.rises.Given as goal

abbrev pub invariant-loop-b : goal.invariant-loop-b
invariant-loop-b l = rising l.low (drop l.b-index l.letters) ≡ rising 0 l.letters
