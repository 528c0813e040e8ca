-- How far a change is from the states of a table of moves: an array of the fewest letters that change each state's answer.
use Rattle.std.specs.Prelude.{◌≡◌, List, ℕ, ◌+◌, ◌*◌, ◌<◌, length, get_or}
use Rattle.automata.specs.Machine.{Machine, Equivalent}
use Rattle.distance.specs.Changes.{Stepping}
use Rattle.moves.specs.Holds.{Holds}

-- Where letter i leads from state p.
abbrev pub leads : ℕ → List ℕ → ℕ → ℕ → ℕ
leads m bs p i = get_or bs (p * m + i) 0

-- A state's key, and its number.
abbrev pub entry : List ℕ → ℕ → ℕ
entry l p = get_or l p 0

-- A table of moves as the sweeps read it: a state answers its key.
abbrev pub stepping : ℕ → List ℕ → List ℕ → List ℕ → Stepping
stepping m ms bs ks = record { states = length ms; letters = m; key = entry ks; step = leads m bs }

-- Equivalent states have the same number.
pub record Alike (m : ℕ) (ms bs fs : List ℕ) : Type 0 where
  pub alike : (M : Machine) → Holds m ms bs M → (p q : ℕ) → p < length ms → q < length ms → Equivalent m M p q → get_or fs p 0 ≡ get_or fs q 0
