-- Expressions as a tree. What they mean is in Matches.antt, what they make in Makes.antt; the reader is in the crate `book`.
use Rattle.std.specs.Prelude.{ℕ, Bool, List, ltb, length}
use Rattle.automata.specs.Basics.{nat_test, find}
use Rattle.automata.specs.Stages.{Pairing}

-- An expression as the grammar derives it: `|`, `&`, `-` are pairs; `!` is the complement, `?` the option.
pub data Expr : Type 0 where
  letter : ℕ → Expr
  name : ℕ → Expr
  dot : Expr
  empty : Expr
  pair : Pairing → Expr → Expr → Expr
  join : Expr → Expr → Expr
  star : Expr → Expr
  plus : Expr → Expr
  option : Expr → Expr
  complement : Expr → Expr

-- x stands in the list
abbrev pub member : ℕ → List ℕ → Bool
member x l = ltb (find nat_test x l) (length l)
