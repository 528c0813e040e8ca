-- What the parts of a count require and leave. A row of words is told by its sums, for whatever weights of the states.
use Rattle.std.specs.Prelude.{◌≡◌, List, ℕ, ◌+◌, ◌*◌, ◌^◌, ◌≤◌, ◌<◌, length, get_or}
use Rattle.arrivals.specs.Weights.{most_words, sum_below, weighed, before, earlier, each}

-- ---- one state

-- The moves of a row lead to states of the next row of words, and its words, with those to come, fit.
pub record Passable (moves : List ℕ) (words : ℕ) (next : List ℕ) : Type 0 where
  pub inside : (i : ℕ) → i < length moves → get_or moves i 0 < length next
  pub fits : weighed each next + words * length moves ≤ most_words

-- So many words more for each state to which one of the first i moves leads.
pub record Passed (moves : List ℕ) (i words : ℕ) (next next' : List ℕ) : Type 0 where
  pub long : length next' ≡ length next
  pub sum : (w : ℕ → ℕ) → weighed w next' ≡ weighed w next + words * sum_below (λ j. w (get_or moves j 0)) i

-- ---- one letter

-- m moves for each of the n states, each to one of them.
pub record Targets (bs : List ℕ) (m n : ℕ) : Type 0 where
  pub long : length bs ≡ n * m
  pub inside : (q : ℕ) → q < length bs → get_or bs q 0 < n

-- The words with a letter more fit.
pub record Roomy (bs : List ℕ) (m : ℕ) (here next : List ℕ) : Type 0 where
  pub targets : Targets bs m (length here)
  pub long : length next ≡ length here
  pub fits : weighed (before bs m each) here ≤ most_words

-- A letter more: the sums are those of the weights one letter before.
pub record Advanced (bs : List ℕ) (m : ℕ) (here next next' : List ℕ) : Type 0 where
  pub long : length next' ≡ length next
  pub sum : (w : ℕ → ℕ) → weighed w next' ≡ weighed (before bs m w) here

-- ---- all letters

-- The row of the empty word.
pub record Started (row row' : List ℕ) : Type 0 where
  pub long : length row' ≡ length row
  pub sum : (w : ℕ → ℕ) → weighed w row' ≡ w 0

-- A state at least, and the words of k letters and of fewer fit.
pub record Startable (bs : List ℕ) (m k : ℕ) (here next : List ℕ) : Type 0 where
  pub some : 0 < length here
  pub targets : Targets bs m (length here)
  pub long : length next ≡ length here
  pub fits : (j : ℕ) → j ≤ k → m ^ j ≤ most_words

-- The row of the words of k letters from state 0, for n states: the sums are those of the weights k letters before, in state 0.
pub record Arrived (bs : List ℕ) (m k n : ℕ) (row : List ℕ) : Type 0 where
  pub long : length row ≡ n
  pub sum : (w : ℕ → ℕ) → weighed w row ≡ earlier bs m k w 0

pub record Begun (bs : List ℕ) (m k : ℕ) (here here' next' : List ℕ) : Type 0 where
  pub row : Arrived bs m k (length here) here'
  pub other : length next' ≡ length here

-- Marks bytes for the row, and its words fit.
pub record Countable (row ms : List ℕ) : Type 0 where
  pub long : length ms ≡ length row
  pub fits : weighed each row ≤ most_words
