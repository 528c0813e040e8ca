-- Classes by answer and number: each state goes by the first that has both.
use Rattle.std.specs.Prelude.{◌≡◌, ◌≢◌, Bool, List, ℕ, suc, ◌+◌, ◌-◌, ◌≤◌, ◌<◌, length, get_or, set}
use Rattle.entries.specs.declared.table.Table.{Table}
use Rattle.entries.specs.Entries.{flag_at}

-- The first state with a number, plus 1, or 0: an entry for each number.
abbrev pub first_of : List ℕ → ℕ → ℕ
first_of firsts d = get_or firsts d 0

-- p is one of the first m states, and answers so.
pub record On (T : Table) (side : Bool) (p m : ℕ) : Type 0 where
  pub below : p < m
  pub answers : flag_at T.cells.now p ≡ side

-- Of the states below m that answer so, each goes by the first with its number; the classes of all other states are as they were.
pub record Gathered (T : Table) (side : Bool) (far cls cls' : List ℕ) (m : ℕ) : Type 0 where
  pub others : (p : ℕ) → p < T.states → flag_at T.cells.now p ≢ side → get_or cls' p 0 ≡ get_or cls p 0
  pub low : (p : ℕ) → On T side p m → get_or cls' p 0 ≤ p
  pub leader : (p : ℕ) → On T side p m → On T side (get_or cls' p 0) m
  pub number : (p : ℕ) → On T side p m → get_or far (get_or cls' p 0) 0 ≡ get_or far p 0
  pub whole : (p q : ℕ) → On T side p m → On T side q m → get_or far p 0 ≡ get_or far q 0 → get_or cls' p 0 ≡ get_or cls' q 0

-- The same on the way, with the first states so far.
pub record Gathering (T : Table) (side : Bool) (far cls cls' firsts : List ℕ) (m : ℕ) : Type 0 where
  pub gathered : Gathered T side far cls cls' m
  pub listed : (p : ℕ) → On T side p m → first_of firsts (get_or far p 0) ≡ suc (get_or cls' p 0)
  pub first : (d r : ℕ) → d < T.states → first_of firsts d ≡ suc r → On T side r m × (get_or far r 0 ≡ d)

-- State p goes by the first state that has its number, or is the first one and listed.
pub record Joined (far cls firsts cls' firsts' : List ℕ) (p : ℕ) : Type 0 where
  pub listed : first_of firsts (get_or far p 0) ≡ 0 → (cls' ≡ set cls p p) × (firsts' ≡ set firsts (get_or far p 0) (p + 1))
  pub joins : first_of firsts (get_or far p 0) ≢ 0 → (cls' ≡ set cls p (first_of firsts (get_or far p 0) - 1)) × (firsts' ≡ firsts)

-- A table with the numbers of its states.
pub record Numbered (T : Table) (far : List ℕ) : Type 0 where
  pub long : length far ≡ T.states
  pub few : T.states < 65536
  pub most : (p : ℕ) → p < T.states → get_or far p 0 < T.states
