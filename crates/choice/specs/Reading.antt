-- What the functions that read a choice promise: they read what the reader of the definitions reads, and write its code into the lent buffer.
use Rattle.std.specs.Prelude.{◌≡◌, Option, None, Some, List, ◌++◌, ℕ, ◌+◌, ◌*◌, ◌-◌, ◌<◌, ◌≤◌, length, take}
use Rattle.language.specs.Expression.{Expr}
use Rattle.book.specs.Reader.{Read, got, bad, choice, choices, blend, blends, chain, chains, item, atom}
use Rattle.book.specs.Program.{postfix}
use Rattle.signs.specs.Buffer.{Grown}
use Rattle.signs.specs.Spots.{left}
use Rattle.signs.specs.declared.Spot.{Spot}

-- The parts of a choice. A part that goes on has the expression that was read so far.
pub data Part : Type 0 where
  a_choice a_blend a_chain an_item an_atom : Part
  more_choices more_blends more_chains : Expr → Part

-- the definitions' reader of a part
abbrev pub read : ℕ → Part → List ℕ → Read
read f a_choice ts = choice f ts
read f a_blend ts = blend f ts
read f a_chain ts = chain f ts
read f an_item ts = item f ts
read f an_atom ts = atom f ts
read f (more_choices e) ts = choices f e ts
read f (more_blends e) ts = blends f e ts
read f (more_chains e) ts = chains f e ts

abbrev pub rank : Part → ℕ
rank a_choice = 5
rank a_blend = 4
rank a_chain = 3
rank an_item = 2
rank an_atom = 1
rank (more_choices e) = 5
rank (more_blends e) = 4
rank (more_chains e) = 3

-- The tokens ts, read as the part p, come to X, with any fuel that is enough.
pub record Is (p : Part) (ts : List ℕ) (X : Read) : Type 0 where
  pub run : (f : ℕ) → 6 * length ts + rank p ≤ f → read f p ts ≡ X

-- The part p was read from c up to n; the code, of which the buffer o held what lies before c, goes on with that of the expression; what lies past
-- it is as it was. Of the line's bytes at least one is used, and of the two bytes of code that each of them may have at least one is not.
pub record To (p : Part) (s o : List ℕ) (c : Spot) (o' : List ℕ) (n : Spot) : Type 0 where
  pub expr : Expr
  pub reads : Is p (left s c) (got expr (left s n))
  pub code : take n.pos o' ≡ take c.pos o ++ postfix expr
  pub grown : Grown o c.pos o' n.pos
  pub fewer : length (left s n) < length (left s c)
  pub falls : length s - n.cursor.at < length s - c.cursor.at
  pub room : n.pos + 2 * (length s - n.cursor.at) < c.pos + 2 * (length s - c.cursor.at)

-- There is no p at c; the code so far is as it was.
pub record Not (p : Part) (s o : List ℕ) (c : Spot) (o' : List ℕ) : Type 0 where
  pub reads : Is p (left s c) bad
  pub before : take c.pos o' ≡ take c.pos o

abbrev pub Says : Part → List ℕ → List ℕ → Spot → List ℕ → Option Spot → Type 0
Says p s o c o' (Some n) = To p s o c o' n
Says p s o c o' None = Not p s o c o'

pub record Reads (p : Part) (s o : List ℕ) (c : Spot) (o' : List ℕ) (r : Option Spot) : Type 0 where
  pub says : Says p s o c o' r
