-- The numbering test: how many states are seen as the moves are read, and what the test of all rows says.
use Rattle.std.specs.Prelude.{◌≡◌, Bool, true, ◌↔◌, List, ℕ, zero, suc, ◌+◌, ◌≤◌, ◌<◌, max, get_or, Option, MatchOption}
use Rattle.automata.specs.Machine.{Machine, Numbered}
use Rattle.moves.specs.Holds.{Holds}

-- how many states are seen, where s were, after the first i moves from the place at
unfoldable pub seen_in : List ℕ → ℕ → ℕ → ℕ → ℕ
seen_in bs at s zero = s
seen_in bs at s (suc i) = max (seen_in bs at s i) (suc (get_or bs (at + i) 0))

-- One row of m moves, where s states were seen: no move is past the next new state, and r are seen after it,
pub record InOrder (bs : List ℕ) (at m s r : ℕ) : Type 0 where
  pub count : r ≡ seen_in bs at s m
  pub order : (i : ℕ) → i < m → get_or bs (at + i) 0 ≤ seen_in bs at s i

-- or a move is past it.
abbrev pub RowSeen : List ℕ → ℕ → ℕ → ℕ → Option ℕ → Type 0
RowSeen bs at m s r = MatchOption r ((i : ℕ) × (i < m) × (seen_in bs at s i < get_or bs (at + i) 0)) (InOrder bs at m s)

-- The answer r is exact for every machine that the bytes hold.
pub record NumberedExactly (m : ℕ) (ms bs : List ℕ) (r : Bool) : Type 0 where
  pub exact : (M : Machine) → Holds m ms bs M → (r ≡ true) ↔ Numbered m M
