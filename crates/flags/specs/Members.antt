-- The members of a row in a list, made once for all columns: what they lead to, and what is asked and answered where a row is filled from them.
use Rattle.std.specs.Prelude.{◌≡◌, Bool, true, List, ℕ, ◌+◌, ◌≤◌, ◌<◌, length, get_or}
use Rattle.entries.specs.declared.table.Table.{Table}
use Rattle.rows.specs.Rows.{flag_at}
use Rattle.rows.specs.Sums.{Summed}
use Rattle.flags.specs.Flags.{flag_row, leads_to, some_accepting, target_of}
use Rattle.flags.specs.declared.bits.Poured.{Poured}

-- the first count numbers are states, of n
pub record Counted (n count : ℕ) (members : List ℕ) : Type 0 where
  pub within : count ≤ length members
  pub state : (i : ℕ) → i < count → get_or members i 0 < n

-- They are the members among n states.
pub record Lists (member : ℕ → Bool) (n count : ℕ) (members : List ℕ) : Type 0 where
  pub counted : Counted n count members
  pub is : (i : ℕ) → i < count → member (get_or members i 0) ≡ true
  pub all : (q : ℕ) → q < n → member q ≡ true → (i : ℕ) × (i < count) × (get_or members i 0 ≡ q)

-- some of the first count listed states leads to t
abbrev pub led_by : List ℕ → (ℕ → ℕ) → ℕ → ℕ → Bool
led_by members next count = leads_to (λ i. true) (λ i. next (get_or members i 0)) count

-- ---- a row filled from listed members

-- A column of a table, of whose states count are listed, and a row with a flag for each, whose sum fits.
pub record Pours (T : Table) (c count first : ℕ) (members row : List ℕ) : Type 0 where
  pub column : c < T.columns
  pub counted : Counted T.states count members
  pub room : T.states ≤ length row
  pub small : first + length row ≤ 65540

-- The row of m flags has what the listed members lead to; its sum, and whether a state in it is accepting.
pub record Filled (T : Table) (c count first : ℕ) (members : List ℕ) (m : ℕ) (row : List ℕ) (r : Poured) : Type 0 where
  pub is : row ≡ flag_row (led_by members (target_of T c) count) m
  pub summed : Summed first row r.sum
  pub accepting : r.accepting ≡ some_accepting (flag_at row) (flag_at T.cells.now) T.states
