-- What partition refinement works on: marks bytes, one a state, and moves, state by state and letter by letter; the machine that they hold; keys that say
-- which states accept.
use Rattle.std.specs.Prelude.{◌≡◌, List, ℕ, ◌+◌, ◌*◌, ◌≤◌, ◌<◌, length, get_or, eqb}
use Rattle.automata.specs.Machine.{Machine, size, automaton, WellFormed}

-- For m letters: a state at least and no more than the arrays of the tests have place for, m moves a state, and each move to a state.
pub record Table (most m : ℕ) (ms bs : List ℕ) : Type 0 where
  pub some : 1 ≤ length ms
  pub states_most : length ms ≤ most
  pub long : length bs ≡ length ms * m
  pub inside : (q : ℕ) → q < length bs → get_or bs q 0 < length ms

-- The bytes are those of the machine M: a state accepts where its marks byte is 1.
pub record Holds (m : ℕ) (ms bs : List ℕ) (M : Machine) : Type 0 where
  pub formed : WellFormed m M
  pub states : size M ≡ length ms
  pub accepting : (p : ℕ) → p < length ms → (automaton M).accepting p ≡ eqb 1 (get_or ms p 0)
  pub step : (p i : ℕ) → p < length ms → i < m → (automaton M).step p i ≡ get_or bs (p * m + i) 0

-- Two states have the same key just when both accept or neither does.
pub record AcceptKeys (ms ks : List ℕ) : Type 0 where
  pub long : length ks ≡ 120
  pub sound : (p q : ℕ) → p < length ms → q < length ms → get_or ks p 0 ≡ get_or ks q 0 → eqb 1 (get_or ms p 0) ≡ eqb 1 (get_or ms q 0)
  pub whole : (p q : ℕ) → p < length ms → q < length ms → eqb 1 (get_or ms p 0) ≡ eqb 1 (get_or ms q 0) → get_or ks p 0 ≡ get_or ks q 0

-- The row of state p: its m moves, each to a state.
pub record Row (m : ℕ) (ms bs : List ℕ) (p : ℕ) (row : List ℕ) : Type 0 where
  pub long : length row ≡ m
  pub entry : (i : ℕ) → i < m → get_or row i 0 ≡ get_or bs (p * m + i) 0
  pub inside : (i : ℕ) → i < length row → get_or row i 0 < length ms
