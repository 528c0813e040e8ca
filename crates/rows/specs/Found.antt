-- The rows found so far in lent buffers: what no call changes, and what putting a row behind them leaves.
use Rattle.std.specs.Prelude.{◌≡◌, List, ℕ, ◌+◌, length, get_or, set}
use Rattle.rows.specs.Chains.{Appended}
use Rattle.rows.specs.declared.chains.Found.{Found}

-- The buffers are the same, and as long as they were.
abbrev pub Kept : Found → Found → Type 0
Kept f g = (g.rows.ghost_name ≡ f.rows.ghost_name) × (g.table.ghost_name ≡ f.table.ghost_name) × (length g.rows.now ≡ length f.rows.now) × (length g.table.now ≡ length f.table.now)

-- The row stands behind the others, and is the last of its chain.
pub record Pushed (w : ℕ) (f : Found) (row : List ℕ) (h : ℕ) (g : Found) : Type 0 where
  pub appended : Appended w f.count f.rows.now row g.rows.now
  pub links : g.table.now ≡ set f.table.now f.count (get_or f.heads h 0)
  pub heads : g.heads ≡ set f.heads h (f.count + 1)
  pub count : g.count ≡ f.count + 1
