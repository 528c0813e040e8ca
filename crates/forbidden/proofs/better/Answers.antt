-- `better` meets its contract.
use mathlib.Core.Path.{sym}
use native.Mathlib.Omega.{arith}
use Rattle.forbidden.specs.Pass.{longer}
use Rattle.forbidden.proofs.better.Goals as goal

pub returns-then-nearest-length : goal.returns-then-nearest-length
returns-then-nearest-length c =
    longer (omega arith) c.in-Some.nearest c.in-Some.is (omega arith) (sym c.in-Some.is)
