-- Classes of states on the way to those of equivalent states, and what the whole refinement says.
use Rattle.std.specs.Prelude.{◌≡◌, Bool, true, ◌↔◌, List, ℕ, ◌≤◌, ◌<◌, length, get_or, eqb}
use Rattle.automata.specs.Machine.{Machine, Equivalent, Reduced}
use Rattle.moves.specs.Holds.{Holds}
use Rattle.splits.specs.Splits.{Named, owned}

-- Classes on the way, k of them: equivalent states share one, and states that share one accept alike.
pub record Classed (m : ℕ) (ms bs cs : List ℕ) (k : ℕ) : Type 0 where
  pub long : length cs ≡ 120
  pub named : Named cs (length ms)
  pub count : k ≡ owned cs (length ms)
  pub accept : (p q : ℕ) → p < length ms → q < length ms → get_or cs p 0 ≡ get_or cs q 0 → eqb 1 (get_or ms p 0) ≡ eqb 1 (get_or ms q 0)
  pub coarse : (M : Machine) → Holds m ms bs M → (p q : ℕ) → p < length ms → q < length ms → Equivalent m M p q → get_or cs p 0 ≡ get_or cs q 0

-- The classes are those of equivalent states, each named by its least state, r of them.
pub record ClassesExactly (m : ℕ) (ms bs cs : List ℕ) (r : ℕ) : Type 0 where
  pub named : Named cs (length ms)
  pub count : r ≡ owned cs (length ms)
  pub sound : (M : Machine) → Holds m ms bs M → (p q : ℕ) → p < length ms → q < length ms → get_or cs p 0 ≡ get_or cs q 0 → Equivalent m M p q
  pub whole : (M : Machine) → Holds m ms bs M → (p q : ℕ) → p < length ms → q < length ms → Equivalent m M p q → get_or cs p 0 ≡ get_or cs q 0

-- Some passes over the columns: there are r classes where there were k; where no more, they are those of equivalent states.
pub record Stretch (m : ℕ) (ms bs : List ℕ) (k : ℕ) (ns : List ℕ) (r : ℕ) : Type 0 where
  pub classed : Classed m ms bs ns r
  pub more : k ≤ r
  pub done : r ≡ k → ClassesExactly m ms bs ns r

-- The answer r is exact for every machine that the bytes hold.
pub record ReducedExactly (m : ℕ) (ms bs : List ℕ) (r : Bool) : Type 0 where
  pub exact : (M : Machine) → Holds m ms bs M → (r ≡ true) ↔ Reduced m M
