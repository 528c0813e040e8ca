-- What holds of the rows found so far and of the transitions laid out so far, and what one more transition leaves.
use Rattle.std.specs.Prelude.{◌≡◌, List, ℕ, ◌+◌, ◌*◌, ◌≤◌, ◌<◌, length, get_or, Option, Some, None}
use Rattle.automata.specs.Automaton.{Automaton, Reachable}
use Rattle.automata.specs.Stage.{MoreThan}
use Rattle.rows.specs.Chains.{Chained}
use Rattle.rows.specs.Rows.{row_at}
use Rattle.rows.specs.declared.chains.Found.{Found}
use Rattle.sets.specs.Fits.{rows_for}
use Rattle.sets.specs.declared.operands.Operands.{Operands}
use Rattle.repeats.specs.Repeats.{Earlier}
use Rattle.repeats.specs.declared.Turn.{Turn}

-- Room for as many rows as the limit says, for one row more, and for their table.
pub record Room (s : Operands) (rows row table : List ℕ) : Type 0 where
  pub some : 1 ≤ s.limit
  pub small : s.limit < 65536
  pub rows_long : s.limit * s.width ≤ length rows
  pub row_long : length row ≡ s.width
  pub table_long : s.limit + s.limit * s.left.columns ≤ length table

-- What holds of the first count rows where the transitions before one place are laid out. Until the flags are, their places keep the rows' links.
pub record Partial (R : Automaton (List ℕ)) (k w limit count state column : ℕ) (rows table heads : List ℕ) : Type 0 where
  pub some : 1 ≤ count
  pub within : count ≤ limit
  pub start : row_at w 0 rows ≡ R.start
  pub distinct : (i j : ℕ) → i < j → j < count → row_at w i rows ≡ row_at w j rows → ⊥
  pub reached : (i : ℕ) → i < count → Reachable k R (row_at w i rows)
  pub inside : (p c : ℕ) → c < k → Earlier p c state column → get_or table (limit + (p * k + c)) 0 < count
  pub moves : (p c : ℕ) → c < k → Earlier p c state column → row_at w (get_or table (limit + (p * k + c)) 0) rows ≡ R.step (row_at w p rows) c
  pub chained : Chained w count rows table heads
  pub heads_long : length heads ≡ 512

-- That holds of the rows found, where the transitions before a turn's are laid out.
abbrev pub Standing : Automaton (List ℕ) → Operands → Found → Turn → Type 0
Standing A s f t = Partial A s.left.columns s.width s.limit f.count t.state t.column f.rows.now f.table.now f.heads

-- the place of a transition that is laid out next, among the transitions of rows of k columns
pub record Place (k count : ℕ) (t : Turn) : Type 0 where
  pub state : t.state < count
  pub column : t.column < k
  pub cell : t.place ≡ t.state * k + t.column

-- One more transition is laid out: n rows are found then.
abbrev pub Laid : Automaton (List ℕ) → Operands → Found → Turn → ℕ → List ℕ → List ℕ → List ℕ → Type 0
Laid A s f t n rows table heads = (f.count ≤ n) × Partial A s.left.columns s.width s.limit n t.state (t.column + 1) rows table heads

-- One more transition is laid out, or a row is met that no room is left for.
abbrev pub Turned : Automaton (List ℕ) → Operands → Found → Turn → Found → Option (Unit {0}) → Type 0
Turned A s f t g (Some _) = Laid A s f t g.count g.rows.now g.table.now g.heads
Turned A s f t g None = MoreThan s.left.columns A s.limit

-- all that laying out a transition asks, where the row that it leads to is given
pub record Laying (s : Operands) (f : Found) (row : List ℕ) (t : Turn) : Type 0 where
  pub room : Room s f.rows.now row f.table.now
  pub within : f.count ≤ s.limit
  pub place : Place s.left.columns f.count t
  pub chained : Chained s.width f.count f.rows.now f.table.now f.heads

-- all that one turn asks
pub record Turning (s : Operands) (f : Found) (row : List ℕ) (t : Turn) : Type 0 where
  pub room : Room s f.rows.now row f.table.now
  pub place : Place s.left.columns f.count t
  pub partial : Standing (rows_for s) s f t
