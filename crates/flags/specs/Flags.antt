-- Rows of flags, and where the members that they flag lead to by an operand's table.
use Rattle.std.specs.Prelude.{Bool, ◌&&◌, List, ℕ, ◌+◌, ◌*◌, get_or, eqb}
use Rattle.automata.specs.Basics.{tab}
use Rattle.automata.specs.Decide.{any_below}
use Rattle.rows.specs.Rows.{bit}
use Rattle.entries.specs.declared.table.Table.{Table}

-- the n flags that the test says
abbrev pub flag_row : (ℕ → Bool) → ℕ → List ℕ
flag_row f n = tab (λ t. bit (f t)) n

-- where state q leads to by column c, in the table's transitions from base on
abbrev pub cell : ℕ → ℕ → ℕ → List ℕ → ℕ → ℕ
cell base k c t q = get_or t (base + (q * k + c)) 0

-- where state q leads to by column c of a table
abbrev pub target_of : Table → ℕ → ℕ → ℕ
target_of T c q = cell T.base T.columns c T.cells.now q

-- some member q below n leads to t
abbrev pub leads_to : (ℕ → Bool) → (ℕ → ℕ) → ℕ → ℕ → Bool
leads_to member next n t = any_below (λ q. member q && eqb (next q) t) n

-- some member below n is accepting
abbrev pub some_accepting : (ℕ → Bool) → (ℕ → Bool) → ℕ → Bool
some_accepting member accepting n = any_below (λ q. member q && accepting q) n
