-- How far a state is from acceptance, by breadth-first search: what a row, a state that is reached and a search say. The states are as many as levels have room for.
use Rattle.std.specs.Prelude.{◌≡◌, true, ◌⊎◌, ◌≢◌, List, ℕ, suc, ◌+◌, ◌*◌, ◌≤◌, ◌<◌, length, get_or}
use Rattle.automata.specs.Basics.{Inj}
use Rattle.automata.specs.Automaton.{Over, run}
use Rattle.automata.specs.Machine.{Machine, automaton}
use Rattle.automata.specs.Distance.{distance}
use Rattle.moves.specs.Holds.{Holds}

-- No level, where levels are 16-bit numbers; so many states have room for theirs.
abbrev pub no_level : ℕ
no_level = 65535

abbrev pub most_levels : ℕ
most_levels = 65534

-- ---- states in the order in which they are reached

-- The states with levels stand in the first k places of qs, each once, and their levels rise; no level is above its place.
pub record Order (n : ℕ) (ls qs : List ℕ) (k : ℕ) : Type 0 where
  pub levels : n ≤ length ls
  pub places : n ≤ length qs
  pub inside : (i : ℕ) → i < k → get_or qs i 0 < n
  pub one : Inj k (λ i. get_or qs i 0)
  pub low : (i : ℕ) → i < k → get_or ls (get_or qs i 0) 0 ≤ i
  pub all : (q : ℕ) → q < n → get_or ls q 0 < no_level → (i : ℕ) × (i < k) × (get_or qs i 0 ≡ q)
  pub rising : (i j : ℕ) → i ≤ j → j < k → get_or ls (get_or qs i 0) 0 ≤ get_or ls (get_or qs j 0) 0

-- A state may come next with this level: none in the order has a higher one.
pub record Front (n level : ℕ) (ls qs : List ℕ) (k : ℕ) : Type 0 where
  pub order : Order n ls qs k
  pub few : n ≤ most_levels
  pub low : level ≤ k
  pub high : (i : ℕ) → i < k → get_or ls (get_or qs i 0) 0 ≤ level

-- State q has the level of ls in gs too; or it had none, one of the m moves of the row leads to it, and it has this level.
abbrev pub Kept : List ℕ → ℕ → ℕ → ℕ → List ℕ → List ℕ → ℕ → Type 0
Kept bs at m level ls gs q = (get_or gs q 0 ≡ get_or ls q 0) ⊎ ((get_or ls q 0 ≡ no_level) × (get_or gs q 0 ≡ level) × ((i : ℕ) × (i < m) × (get_or bs (at + i) 0 ≡ q)))

-- Each state to which the row's moves lead has a level: its own, or it had none and has the new one. The places that were taken stay.
pub record Spread (n : ℕ) (bs : List ℕ) (at m level : ℕ) (ls qs : List ℕ) (k : ℕ) (gs rs : List ℕ) (r : ℕ) : Type 0 where
  pub front : Front n level gs rs r
  pub stays : (i : ℕ) → i < k → (i < r) × (get_or rs i 0 ≡ get_or qs i 0)
  pub seen : (i : ℕ) → i < m → get_or gs (get_or bs (at + i) 0) 0 < no_level
  pub kept : (q : ℕ) → Kept bs at m level ls gs q

-- ---- a search

-- the state that letter i leads to from state q
abbrev pub next : ℕ → List ℕ → ℕ → ℕ → ℕ
next m bs q i = get_or bs (q * m + i) 0

-- To state q leads a move of a state at level j.
abbrev pub Behind : ℕ → List ℕ → List ℕ → List ℕ → ℕ → ℕ → Type 0
Behind m ms bs ls q j = (p i : ℕ) × (p < length ms) × (i < m) × (get_or ls p 0 ≡ j) × (next m bs p i ≡ q)

-- Letter i leads from state q to a state that does not accept, one level up at most.
abbrev pub Near : ℕ → List ℕ → List ℕ → List ℕ → ℕ → ℕ → Type 0
Near m ms bs ls q i = (get_or ls (next m bs q i) 0 ≤ suc (get_or ls q 0)) × (get_or ms (next m bs q i) 0 ≢ 1)

-- Of the states that a search from s reached, the first h are passed: only s is at level 0, each level but 0 has the one below behind it, and none is more than
-- one above that of the state in place h.
pub record Search (m : ℕ) (ms bs : List ℕ) (s h : ℕ) (ls qs : List ℕ) (k : ℕ) : Type 0 where
  pub order : Order (length ms) ls qs k
  pub start : get_or ls s 0 ≡ 0
  pub only : (q : ℕ) → q < length ms → get_or ls q 0 ≡ 0 → q ≡ s
  pub back : (q j : ℕ) → q < length ms → suc j < no_level → get_or ls q 0 ≡ suc j → Behind m ms bs ls q j
  pub near : h < k → (i : ℕ) → i < k → get_or ls (get_or qs i 0) 0 ≤ suc (get_or ls (get_or qs h 0) 0)
  pub passed : (i c : ℕ) → i < h → i < k → c < m → Near m ms bs ls (get_or qs i 0) c

-- ---- the numbers

-- The number r is the distance of state s in every machine that the bytes hold, where a word is accepted from s at all.
pub record DistanceExactly (m : ℕ) (ms bs : List ℕ) (s r : ℕ) : Type 0 where
  pub most : r ≤ length ms
  pub exact : (M : Machine) → Holds m ms bs M → (w : List ℕ) → Over m w → (automaton M).accepting (run (automaton M) s w) ≡ true → r ≡ distance m M s

-- Each state with marks byte 0 has its number.
pub record DistancesExactly (m : ℕ) (ms bs rs : List ℕ) : Type 0 where
  pub each : (p : ℕ) → p < length ms → get_or ms p 0 ≡ 0 → DistanceExactly m ms bs p (get_or rs p 0)
