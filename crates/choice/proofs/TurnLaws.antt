-- The numbers of a part's reading: the room for its code, and how the measure falls.
use Prim.Native.Nat.{ℕ, ◌+◌, ◌*◌, ◌-◌, ◌≤◌, ◌<◌}
use native.Mathlib.Omega.{arith}
use mathlib.Core.List.{List}
use lib.ListN.{length, drop}
use Rattle.book.specs.Text.{tokens}
use Rattle.lexer.specs.Token.{At}
use Rattle.lexer.proofs.TokenLaws.{at_fewer}

-- ---- behind a token

module _ {s : List ℕ} {at k b n : ℕ} (x : At s at k b n) where
  pub turn_less : (p r : ℕ) → p < r → 6 * length (tokens (drop n s)) + p < 6 * length (tokens (drop at s)) + r
  turn_less p r h = omega (arith, at_fewer x)

  pub turn_fewer : length (tokens (drop n s)) ≤ length (tokens (drop at s))
  turn_fewer = omega (arith, at_fewer x)

  pub turn_falls : length s - n ≤ length s - at
  turn_falls = omega (arith, x.falls)

-- ---- in a row of parts

pub same_less : (a p r : ℕ) → p < r → a + p < a + r
same_less a p r h = omega arith
