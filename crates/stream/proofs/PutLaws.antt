-- A digit put.
use mathlib.Core.Path.{sym, ap, ◌∙◌}
use mathlib.Core.List.{List, ◌++◌}
use Prim.Native.Nat.{ℕ, ◌+◌, ◌<◌}
use native.Mathlib.Numerals.{add-one}
use native.Mathlib.Omega.{arith}
use lib.ListN.{length, set, take}
use lib.Seq.{take-suc-set}
use Rattle.stream.specs.Text.{Put, decimal}
use Rattle.stream.specs.TextLaws.{one_digit}

-- one digit
pub digit_put : (out : List ℕ) (at n : ℕ) → at < length out → n < 10 → Put out at (decimal n) (set out at (48 + n)) (at + 1)
digit_put out at n h b = record {
  place = omega (arith, ap length (one_digit n b));
  is = rw (add-one at) (take-suc-set out at (48 + n) h ∙ ap (λ l. take at out ++ l) (sym (one_digit n b)));
}
