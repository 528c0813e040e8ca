-- `fits` meets its contract: the power so far fits.
use mathlib.Core.Path.{◌≡◌}
use Prim.Native.Nat.{◌≤◌, ◌^◌}
use Rattle.arrivals.specs.Weights.{most_words}
use Rattle.arrivals.proofs.power.fits.Given as goal

abbrev pub invariant-loop : goal.invariant-loop
invariant-loop l = (l.power ≡ l.m ^ l.counter) × (l.power ≤ most_words)
