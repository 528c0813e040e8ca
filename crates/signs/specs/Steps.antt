-- What the functions promise: a byte of code, the signs behind an atom, the `!` before it.
use Rattle.std.specs.Prelude.{◌≡◌, Option, None, Some, List, [], ◌∷◌, ◌++◌, ℕ, zero, suc, ◌+◌, ◌*◌, ◌-◌, ◌≤◌, length, take, drop}
use Rattle.language.specs.Expression.{Expr, complement}
use Rattle.book.specs.Kind.{bang_kind}
use Rattle.book.specs.Reader.{Read, got, and_then, repeats, item}
use Rattle.book.specs.Text.{tokens}
use Rattle.book.specs.Program.{postfix}
use Rattle.lexer.specs.Token.{kind_ahead}
use Rattle.signs.specs.Buffer.{Grown}
use Rattle.signs.specs.Spots.{left}
use Rattle.signs.specs.declared.Spot.{Spot}

-- the code with one byte more
pub record Put (o : List ℕ) (c : Spot) (b : ℕ) (o' : List ℕ) (n : Spot) : Type 0 where
  pub at_is : n.cursor.at ≡ c.cursor.at
  pub pos_is : n.pos ≡ c.pos + 1
  pub code_is : take n.pos o' ≡ take c.pos o ++ (b ∷ [])
  pub grown : Grown o c.pos o' n.pos

-- the same if there is a code, else all as it was
pub record PutIf (code : Option ℕ) (o : List ℕ) (c : Spot) (o' : List ℕ) (n : Spot) : Type 0 where
  pub at_is : n.cursor.at ≡ c.cursor.at
  pub put : {b : ℕ} → code ≡ Some b → Put o c b o' n
  pub same : code ≡ None → (o' ≡ o) × (n ≡ c)

-- The buffer's code goes on from e, behind any other code, to the expression `expr`: that of e with the signs that stand at ts, up to us.
pub record Repeated (before : List ℕ) (e : Expr) (ts code us : List ℕ) : Type 0 where
  pub expr : Expr
  pub reads : repeats ts e ≡ got expr us
  pub code_is : code ≡ before ++ postfix expr

pub record Suffixed (s o : List ℕ) (c : Spot) (o' : List ℕ) (n : Spot) : Type 0 where
  pub goes : (before : List ℕ) (e : Expr) → take c.pos o ≡ before ++ postfix e → Repeated before e (left s c) (take n.pos o') (left s n)
  pub grown : Grown o c.pos o' n.pos
  pub fewer : length (left s n) ≤ length (left s c)
  pub falls : length s - n.cursor.at ≤ length s - c.cursor.at
  pub room : n.pos + 2 * (length s - n.cursor.at) ≤ c.pos + 2 * (length s - c.cursor.at)

-- the complement taken k times, of an expression and of what was read
abbrev pub complements : ℕ → Expr → Expr
complements zero e = e
complements (suc k) e = complements k (complement e)

abbrev pub complemented : Expr → List ℕ → Read
complemented e us = got (complement e) us

abbrev pub negated : ℕ → Read → Read
negated zero X = X
negated (suc k) X = negated k (and_then X complemented)

-- The tokens ts, read as an item, come to X, with any fuel that is enough.
pub record Item (ts : List ℕ) (X : Read) : Type 0 where
  pub run : (f : ℕ) → 6 * length ts + 2 ≤ f → item f ts ≡ X

-- From `at` up to n stand k `!`: an item from `at` on is the complement, taken k times, of the item from n on.
pub record Passed (s : List ℕ) (at n k : ℕ) : Type 0 where
  pub goes : (X : Read) → Item (tokens (drop n s)) X → Item (tokens (drop at s)) (negated k X)
  pub fewer : length (tokens (drop n s)) ≤ length (tokens (drop at s))
  pub falls : length s - n + k ≤ length s - at

-- and n is where the last of them ends
pub record Nots (s : List ℕ) (at n k : ℕ) : Type 0 where
  pub passed : Passed s at n k
  pub none : (kind_ahead (tokens (drop n s)) ≡ bang_kind) → ⊥

pub record Negated (o : List ℕ) (c : Spot) (k : ℕ) (o' : List ℕ) (n : Spot) : Type 0 where
  pub at_is : n.cursor.at ≡ c.cursor.at
  pub pos_is : n.pos ≡ c.pos + k
  pub goes : (before : List ℕ) (e : Expr) → take c.pos o ≡ before ++ postfix e → take n.pos o' ≡ before ++ postfix (complements k e)
  pub grown : Grown o c.pos o' n.pos
