-- The order of the transitions: row by row, and in a row column by column.
use Rattle.std.specs.Prelude.{◌≡◌, ℕ, ◌+◌}
use Rattle.repeats.specs.declared.Turn.{Turn}

-- The transition u is the one behind t, in rows of k columns: that by the next column of its row, or by the first of the next row.
pub record Follows (k : ℕ) (t u : Turn) : Type 0 where
  pub place : u.place ≡ t.place + 1
  pub on : (t.column + 1 ≡ k → ⊥) → (u.state ≡ t.state) × (u.column ≡ t.column + 1)
  pub wrap : t.column + 1 ≡ k → (u.state ≡ t.state + 1) × (u.column ≡ 0)
