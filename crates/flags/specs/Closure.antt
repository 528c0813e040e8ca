-- A row of flags closed under one transition per state: what following it adds.
use Rattle.std.specs.Prelude.{◌≡◌, Bool, true, ◌⊎◌, List, [], ◌∷◌, ℕ, zero, suc, ◌≤◌, length, eqb}
use Rattle.automata.specs.Booleans.{choose}
use Rattle.entries.specs.declared.table.Table.{Table}
use Rattle.rows.specs.Rows.{flag_at}
use Rattle.rows.specs.Sums.{Bits}

-- next, i times
abbrev pub times : (ℕ → ℕ) → ℕ → ℕ → ℕ
times next zero q = q
times next (suc i) q = times next i (next q)

-- how many flags are not set
unfoldable pub unset : List ℕ → ℕ
unset [] = zero
unset (x ∷ xs) = choose (eqb x 0) (λ _. suc (unset xs)) (λ _. unset xs)

-- what is flagged leads to what is flagged
abbrev pub Closed : (ℕ → ℕ) → List ℕ → Type 0
Closed next row = (x : ℕ) → flag_at row x ≡ true → flag_at row (next x) ≡ true

-- a table over one column at least, and a row with a flag for each state
pub record Closes (T : Table) (row : List ℕ) : Type 0 where
  pub columns : 1 ≤ T.columns
  pub long : length row ≡ T.states

-- p is flagged, and besides what was flagged before only what p leads to; a closed row stays closed.
pub record Chased (next : ℕ → ℕ) (n p : ℕ) (row row' : List ℕ) : Type 0 where
  pub long : length row' ≡ n
  pub keeps : (x : ℕ) → flag_at row x ≡ true → flag_at row' x ≡ true
  pub first : flag_at row' p ≡ true
  pub closed : Closed next row → Closed next row'
  pub sound : (x : ℕ) → flag_at row' x ≡ true → (flag_at row x ≡ true) ⊎ ((i : ℕ) × (times next i p ≡ x))
  pub bits : Bits row → Bits row'

-- All that the members lead to, by any number of steps, is flagged, and nothing else.
pub record Gains (next : ℕ → ℕ) (n : ℕ) (member : ℕ → Bool) (row : List ℕ) : Type 0 where
  pub long : length row ≡ n
  pub keeps : (x : ℕ) → member x ≡ true → flag_at row x ≡ true
  pub closed : Closed next row
  pub sound : (x : ℕ) → flag_at row x ≡ true → (q : ℕ) × (i : ℕ) × (member q ≡ true) × (times next i q ≡ x)
  pub bits : Bits row
