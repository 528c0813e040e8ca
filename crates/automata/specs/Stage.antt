-- A stage: "it makes sets, then the smallest machine". Its limits, its sets counted, what it keeps, and its two refusals.
use Rattle.std.specs.Prelude.{◌≡◌, ℕ, suc, ◌≤◌, ◌<◌, length, ltb}
use mathlib.Core.List.{List, [], ◌∷◌, ◌++◌}
use Rattle.automata.specs.Booleans.{choose}
use Rattle.automata.specs.Basics.{Test, Inj}
use Rattle.automata.specs.Automaton.{Automaton, Reachable}
use Rattle.automata.specs.Listing.{explore}
use Rattle.automata.specs.Machine.{Machine, size, automaton, Canonical, SameWords}
use Rattle.automata.specs.Format.{Format}
use Rattle.automata.specs.Smallest.{tabulated, smallest}

-- What was made: the number of sets of each stage, in their order, with the machine that is kept; or the number of a refusal.
pub data Made : Type 0 where
  made : List ℕ → Machine → Made
  refused : ℕ → Made

-- the same, behind stages that were made before
abbrev pub after : List ℕ → Made → Made
after counts (made more M) = made (counts ++ more) M
after counts (refused r) = refused r

-- What f makes of the kept machine, behind it.
abbrev pub then_made : Made → (Machine → Made) → Made
then_made (made counts M) f = after counts (f M)
then_made (refused r) f = refused r

-- a machine that makes no sets: "these are given and make no sets"
abbrev pub present : Machine → Made
present M = made [] M

-- 9: "its smallest machine has over 120 states"
unfoldable pub keep : Format → ℕ → Machine → Made
keep fmt n M = choose (ltb fmt.most_states (size M)) (λ _. refused 9) (λ _. made (n ∷ []) M)

-- 8: "a stage needs over 512 sets"; "8 before 9 in one stage". The sets over k columns are listed as far as one more than the limit.
unfoldable pub stage : {S : Type 0} → Test S → Format → ℕ → Automaton S → Made
stage E fmt k A =
    let L = explore E A k (suc fmt.most_sets) in
    choose (ltb fmt.most_sets (length L)) (λ _. refused 8) (λ _. keep fmt (length L) (smallest k (tabulated E A k L)))

-- ---- what a stage does

-- There are n reachable states: f lists them, each once.
pub record Counts {S : Type 0} (k : ℕ) (A : Automaton S) (n : ℕ) : Type 0 where
  pub state : ℕ → S
  pub reachable : (i : ℕ) → i < n → Reachable k A (state i)
  pub once : Inj n state
  pub all : (s : S) → Reachable k A s → (i : ℕ) × (i < n) × (state i ≡ s)

-- There are more than n reachable states.
abbrev pub MoreThan : {S : Type 0} → ℕ → Automaton S → ℕ → Type 0
MoreThan {S} k A n = (f : ℕ → S) × ((i : ℕ) → i < suc n → Reachable k A (f i)) × Inj (suc n) f

-- The smallest machine of A, numbered by first arrival.
pub record Smallest {S : Type 0} (k : ℕ) (A : Automaton S) (M : Machine) : Type 0 where
  pub canonical : Canonical k M
  pub words : SameWords k A (automaton M)

pub data StageResult {S : Type 0} (fmt : Format) (k : ℕ) (A : Automaton S) : Made → Type 0 where
  kept_one : (n : ℕ) (M : Machine) → Counts k A n → n ≤ fmt.most_sets → Smallest k A M → size M ≤ fmt.most_states → StageResult fmt k A (made (n ∷ []) M)
  too_many_sets : MoreThan k A fmt.most_sets → StageResult fmt k A (refused 8)
  too_many_states : (n : ℕ) (M : Machine) → Counts k A n → n ≤ fmt.most_sets → Smallest k A M → fmt.most_states < size M → StageResult fmt k A (refused 9)

-- ---- what holds of the kept machine, if one is kept

abbrev pub Keeps : (Machine → Type 0) → Made → Type 0
Keeps P (made counts M) = P M
Keeps P (refused r) = Unit {0}
