-- What the exploring asks of its operands and buffers, and what it answers: every reachable row, once, with all transitions; or more rows than the
-- limit. Nothing is said of the order in which the rows are found.
use Rattle.std.specs.Prelude.{◌≡◌, List, ℕ, ◌+◌, ◌*◌, ◌≤◌, ◌<◌, length, get_or, Option, Some, None}
use Rattle.automata.specs.Automaton.{Automaton, Reachable}
use Rattle.automata.specs.Stage.{MoreThan}
use Rattle.rows.specs.Rows.{row_at, bit}
use Rattle.sets.specs.declared.operands.Operands.{Operands}
use Rattle.turns.specs.Partial.{Room}

-- all that the exploring asks
pub record Explores (s : Operands) (rows row table : List ℕ) : Type 0 where
  pub room : Room s rows row table

-- The first n rows are the reachable ones, each once, the first the start; the table has their transitions, and a flag for each.
pub record AllRows (R : Automaton (List ℕ)) (k w limit n : ℕ) (rows table : List ℕ) : Type 0 where
  pub some : 1 ≤ n
  pub within : n ≤ limit
  pub start : row_at w 0 rows ≡ R.start
  pub distinct : (i j : ℕ) → i < j → j < n → row_at w i rows ≡ row_at w j rows → ⊥
  pub reached : (i : ℕ) → i < n → Reachable k R (row_at w i rows)
  pub inside : (p c : ℕ) → p < n → c < k → get_or table (limit + (p * k + c)) 0 < n
  pub moves : (p c : ℕ) → p < n → c < k → row_at w (get_or table (limit + (p * k + c)) 0) rows ≡ R.step (row_at w p rows) c
  pub flags : (p : ℕ) → p < n → get_or table p 0 ≡ bit (R.accepting (row_at w p rows))
  pub long : limit + n * k ≤ length table

abbrev pub Answers : Automaton (List ℕ) → ℕ → ℕ → ℕ → List ℕ → List ℕ → Option ℕ → Type 0
Answers R k w limit rows table (Some n) = AllRows R k w limit n rows table
Answers R k w limit rows table None = MoreThan k R limit
