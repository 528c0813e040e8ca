-- Laws of entries: flags as 0 or 1, cells of a table, lists after a store.
use mathlib.Core.Path.{◌≡◌, refl, sym}
use mathlib.Core.Bool.{Bool, true, false}
use Prim.Native.Nat.{ℕ, ◌+◌, ◌*◌, ◌<◌}
use native.Mathlib.Omega.{arith}
use lib.ListN.{get_or}
use Rattle.automata.specs.Machine.{size, automaton, WellFormed}
use Rattle.automata.specs.Partition.{bit}
use Rattle.automata.specs.Table.{flag_of, table_step, table_size, table_accepting, table_formed}
use Rattle.entries.specs.declared.table.Table.{Table}
use Rattle.entries.specs.Entries.{Target, machine_of}

pub bit_same : (a b : Bool) → bit a ≡ bit b → a ≡ b
bit_same true true e = refl
bit_same true false e = absurd (omega arith)
bit_same false true e = absurd (omega arith)
bit_same false false e = refl

-- what stands there is the state that the column leads to
pub cell_target : (T : Table) (p c : ℕ) → p < T.states → c < T.columns → Target T p c (get_or T.cells.now (T.base + (p * T.columns + c)) 0)
cell_target T p c h b = record { step = sym (table_step T.base T.states T.columns T.cells.now T.closed p c h b); inside = T.closed.inside p c h b }

-- ---- the machine of a table

pub machine_size : (T : Table) → size (machine_of T) ≡ T.states
machine_size T = table_size T.base T.states T.columns T.cells.now T.closed

pub machine_accepting : (T : Table) (p : ℕ) → p < T.states → (automaton (machine_of T)).accepting p ≡ flag_of (get_or T.cells.now p 0)
machine_accepting T = table_accepting T.base T.states T.columns T.cells.now T.closed

pub machine_formed : (T : Table) → WellFormed T.columns (machine_of T)
machine_formed T = table_formed T.base T.states T.columns T.cells.now T.closed
