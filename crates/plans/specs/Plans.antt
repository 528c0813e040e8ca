-- How bytes are cut into plans: "plans, one a line (bytes after the last line end are one more plan)".
use Rattle.std.specs.Prelude.{◌≡◌, ◌≢◌, List, [], ◌∷◌, ◌++◌, ℕ, zero, suc, ◌-◌, ◌≤◌, ◌<◌, length, get_or, take, drop, eqb}
use Rattle.automata.specs.Booleans.{choose}

-- "A line ends with byte 0x0A"
abbrev pub line_end : ℕ
line_end = 10

-- A byte before plans is the first of their first, or a plan alone.
abbrev pub put_byte : ℕ → List (List ℕ) → List (List ℕ)
put_byte b [] = (b ∷ []) ∷ []
put_byte b (p ∷ ps) = (b ∷ p) ∷ ps

-- The plans of the bytes. No bytes are no plan, so a last line end adds none.
abbrev pub plans_of : List ℕ → List (List ℕ)
plans_of [] = []
plans_of (b ∷ bs) = choose (eqb b line_end) (λ _. [] ∷ plans_of bs) (λ _. put_byte b (plans_of bs))

-- How many bytes the first k plans take, their line ends included: where the next plan begins.
abbrev pub consumed : ℕ → List ℕ → ℕ
consumed zero s = 0
consumed (suc k) [] = 0
consumed (suc k) (b ∷ bs) = suc (choose (eqb b line_end) (λ _. consumed k bs) (λ _. consumed (suc k) bs))

-- ---- bytes that come in pieces, where of a plan the bytes u have come

-- the plans that end in these bytes
abbrev pub ended : List ℕ → List ℕ → List (List ℕ)
ended u [] = []
ended u (b ∷ bs) = choose (eqb b line_end) (λ _. u ∷ ended [] bs) (λ _. ended (u ++ (b ∷ [])) bs)

-- the bytes since the last line end
abbrev pub begun : List ℕ → List ℕ → List ℕ
begun u [] = u
begun u (b ∷ bs) = choose (eqb b line_end) (λ _. begun [] bs) (λ _. begun (u ++ (b ∷ [])) bs)

-- "bytes after the last line end are one more plan"
abbrev pub last_plan : List ℕ → List (List ℕ)
last_plan [] = []
last_plan (b ∷ u) = (b ∷ u) ∷ []

-- ---- one line

-- the bytes from `from` on before e
abbrev pub line_of : List ℕ → ℕ → ℕ → List ℕ
line_of s from e = take (e - from) (drop from s)

-- e is the place of the first line end from `from` on, or the length.
pub record LineEnd (s : List ℕ) (from e : ℕ) : Type 0 where
  pub low : from ≤ e
  pub most : e ≤ length s
  pub before : (j : ℕ) → from ≤ j → j < e → get_or s j 0 ≢ line_end
  pub end : e < length s → get_or s e 0 ≡ line_end
