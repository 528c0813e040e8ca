-- `with_number` meets its contract.
use mathlib.Core.Path.{ap₂}
use Prim.Native.Nat.{ℕ, ◌+◌, ◌*◌, ◌/◌, ◌%◌}
use native.Mathlib.Nat.{mul-le-mul}
use native.Mathlib.Omega.{arith}
use Rattle.rows.proofs.sum.with_number.Goals as goal

pub overflow_mul-result : goal.overflow_mul-result
overflow_mul-result c =
    omega (arith, mul-le-mul {n₁ = c.args.p % 256} {m₁ = c.weigh.result} {n₂ = 255} {m₂ = 65535} (omega arith) (omega (arith, c.weigh.ensures.1)))

pub overflow_mul-result-2 : goal.overflow_mul-result-2
overflow_mul-result-2 c =
    omega (arith, mul-le-mul {n₁ = c.args.p / 256} {m₁ = c.weigh-2.result} {n₂ = 255} {m₂ = 65535} (omega (arith, c.requires.0)) (omega (arith, c.weigh-2.ensures.1)))

pub overflow_add-result : goal.overflow_add-result
overflow_add-result c =
    omega (arith, mul-le-mul {n₁ = c.args.p / 256} {m₁ = c.weigh-2.result} {n₂ = 255} {m₂ = 65535} (omega (arith, c.requires.0)) (omega (arith, c.weigh-2.ensures.1)), c.requires.2)

pub overflow_add-result-2 : goal.overflow_add-result-2
overflow_add-result-2 c =
    omega (arith, mul-le-mul {n₁ = c.args.p / 256} {m₁ = c.weigh-2.result} {n₂ = 255} {m₂ = 65535} (omega (arith, c.requires.0)) (omega (arith, c.weigh-2.ensures.1)), c.requires.2, mul-le-mul {n₁ = c.args.p % 256} {m₁ = c.weigh.result} {n₂ = 255} {m₂ = 65535} (omega arith) (omega (arith, c.weigh.ensures.1)))

pub returns : goal.returns
returns c =
    ap₂ (λ (x y : ℕ). c.args.p % 256 * x + (c.args.p / 256 * y + c.args.sum)) c.weigh.ensures.0 c.weigh-2.ensures.0
