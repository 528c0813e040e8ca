-- Live states by sweeps over an array of flags: what one row, one state, one sweep and all sweeps say.
use Rattle.std.specs.Prelude.{◌≡◌, Bool, true, false, ◌↔◌, List, ℕ, ◌+◌, ◌*◌, ◌<◌, length, get_or, set, eqb, ◌||◌, if◌then◌else◌}
use Rattle.automata.specs.Machine.{Machine}
use Rattle.automata.specs.Live.{live}
use Rattle.card.specs.Mark.{Mark}
use Rattle.moves.specs.Holds.{Holds}

-- the flag of the state that move i of the row at `at` leads to
abbrev pub flag_after : List ℕ → ℕ → List Bool → ℕ → Bool
flag_after bs at fs i = get_or fs (get_or bs (at + i) 0) false

-- State p became live by a move to a live state; or all stays, and where a move leads to a live state it is live already.
pub record Visited (m : ℕ) (bs : List ℕ) (p : ℕ) (fs gs : List Bool) (r : Bool) : Type 0 where
  pub yes : r ≡ true → (gs ≡ set fs p true) × ((i : ℕ) × (i < m) × (flag_after bs (p * m) fs i ≡ true))
  pub no : r ≡ false → (gs ≡ fs) × ((i : ℕ) → i < m → flag_after bs (p * m) fs i ≡ true → get_or fs p false ≡ true)

-- One sweep takes the flags fs to gs: none is cleared; a state whose move leads to a flag of fs has its flag; every set of states that has those of
-- fs and, with a state, all that move to it, has those of gs; and where r is false nothing changed.
pub record Sweep (m : ℕ) (ms bs : List ℕ) (fs gs : List Bool) (r : Bool) : Type 0 where
  pub long : length gs ≡ length fs
  pub keeps : (p : ℕ) → p < length ms → get_or fs p false ≡ true → get_or gs p false ≡ true
  pub leads : (p i : ℕ) → p < length ms → i < m → flag_after bs (p * m) fs i ≡ true → get_or gs p false ≡ true
  pub only : (f : ℕ → Bool) → ((p i : ℕ) → p < length ms → i < m → f (get_or bs (p * m + i) 0) ≡ true → f p ≡ true)
      → ((p : ℕ) → p < length ms → get_or fs p false ≡ true → f p ≡ true) → (p : ℕ) → p < length ms → get_or gs p false ≡ true → f p ≡ true
  pub still : r ≡ false → (p : ℕ) → p < length ms → get_or gs p false ≡ get_or fs p false

-- The flags of the accepting states.
pub record FlagsOf (most : ℕ) (ms : List ℕ) (fs : List Bool) : Type 0 where
  pub long : length fs ≡ most
  pub flag : (p : ℕ) → p < length ms → get_or fs p false ≡ eqb (get_or ms p 0) 1

-- The flags are those of the live states of every machine that the bytes hold.
pub record LiveExactly (m : ℕ) (ms bs : List ℕ) (fs : List Bool) : Type 0 where
  pub exact : (M : Machine) → Holds m ms bs M → (p : ℕ) → p < length ms → get_or fs p false ≡ get_or (live m M) p false

-- A marks byte beside whether its state lives: 1, or 0 for a live state and 2 for a dead one.
abbrev pub right_mark : ℕ → Bool → Bool
right_mark mark lives = eqb mark 1 || eqb mark (if lives then 0 else 2)

-- The answer r is exact for every machine that the bytes hold: each marks byte is its state's.
pub record MarksExactly (m : ℕ) (ms bs : List ℕ) (r : Bool) : Type 0 where
  pub exact : (M : Machine) → Holds m ms bs M → (r ≡ true) ↔ ((p : ℕ) → p < length ms → Mark m M p (get_or ms p 0))
