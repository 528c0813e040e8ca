-- "The peak, carried in the result, is the most sets that one stage of this book made": some stage of an accepted book reaches that many sets, or it has
-- no stage and the peak is 0; every stage of it reaches no more. The counts of a book are those of its stages (BookStages.antt), one by one.
use Rattle.std.specs.Prelude.{List, [], ◌∷◌, ℕ}
use Rattle.automata.specs.Machine.{Machine}
use Rattle.compiler.specs.BookStages.{Stage, Reaches, Leaves, Row, gives, makes}

-- ---- a row that was made, its stages counted

-- The numbers are the reachable sets of the row's stages, one by one, and N is what it gives.
pub data Counted (m : ℕ) : Row → List ℕ → Machine → Type 0 where
  none : (M : Machine) → Counted m (gives M) [] M
  one : (s : Stage) (f : Machine → Row) (n : ℕ) (M : Machine) (ns : List ℕ) (N : Machine) → Reaches m s n → Leaves m s M → Counted m (f M) ns N → Counted m (makes s f) (n ∷ ns) N
