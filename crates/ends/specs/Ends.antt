-- What the parts of the pass require and leave: for every state the place where it is dead first. The states are the numbers below n.
use Rattle.std.specs.Prelude.{◌≡◌, ◌⊎◌, ◌≢◌, List, ℕ, ◌+◌, ◌*◌, ◌≤◌, ◌<◌, length, get_or, eqb}
use Rattle.automata.specs.Booleans.{choose}

-- q is the first state with marks byte 2, or the number of states.
pub record DeadState (marks : List ℕ) (q : ℕ) : Type 0 where
  pub most : q ≤ length marks
  pub dead : q < length marks → get_or marks q 0 ≡ 2
  pub before : (p : ℕ) → p < q → get_or marks p 0 ≢ 2

-- The dead state is dead here, each other one where `later` says.
abbrev pub placed : ℕ → ℕ → (ℕ → ℕ) → ℕ → ℕ
placed dead here later q = choose (eqb q dead) (λ _. here) (λ _. later q)

pub record Filled (n dead here never : ℕ) (old new : List ℕ) : Type 0 where
  pub long : length new ≡ length old
  pub entry : (q : ℕ) → q < n → get_or new q 0 ≡ placed dead here (λ _. never) q

-- The moves by a column of m lead to states; the row of places before has an entry for each state, the one after an entry more for no dead state.
pub record Stepping (moves : List ℕ) (m n column dead : ℕ) (row next : List ℕ) : Type 0 where
  pub known : column < m
  pub table : length moves ≡ n * m
  pub inside : (q : ℕ) → q < n → get_or moves (q * m + column) 0 < n
  pub most : dead ≤ n
  pub before : n ≤ length row
  pub after : n < length next

-- the place of state q's next state
abbrev pub next_place : List ℕ → ℕ → ℕ → List ℕ → ℕ → ℕ
next_place moves m column before q = get_or before (get_or moves (q * m + column) 0) 0

-- One letter more, by its column: `before` became `new`, in the row that held `old`.
pub record Stepped (moves : List ℕ) (m n column dead here : ℕ) (before old new : List ℕ) (last : ℕ) : Type 0 where
  pub long : length new ≡ length old
  pub entry : (q : ℕ) → q < n → get_or new q 0 ≡ placed dead here (next_place moves m column before) q
  pub most : (q : ℕ) → q < n → next_place moves m column before q ≤ last
  -- one of them is the last, where one is not 0
  pub attained : (last ≡ 0) ⊎ ((q : ℕ) × (q < n) × (next_place moves m column before q ≡ last))
