-- `fits` meets its contract: the power so far fits.
use mathlib.Core.Path.{◌≡◌}
use native.Mathlib.Omega.{arith}
use Rattle.arrivals.proofs.PowerLaws.{fits_most, fits_not, power_none, power_past}
use Rattle.arrivals.proofs.power.fits.Goals as goal

pub returns-then-m-eq0 : goal.returns-then-m-eq0
returns-then-m-eq0 c = rw c.if-m-eq0.true (fits_most _ (power_none _))

pub returns-in_default : goal.returns-in_default
returns-in_default c =
    fits_not _ (power_past _ _ _ _ c.loop.invariant.0 (omega (arith, c.in_default.ensures)) c.loop-test.true)

pub returns : goal.returns
returns c =
    let z : c.loop.counter ≡ c.args.k = omega arith in fits_most _ (rw (← z, ← c.loop.invariant.0) c.loop.invariant.1)
