-- What minimising a table answers, for every table: the smallest machine where it has at most so many states, and that it has more where it has more.
use Rattle.std.specs.Prelude.{◌≡◌, cond, List, ℕ, ◌+◌, ◌*◌, ◌≤◌, ◌<◌, length, get_or, ltb, Option, Some, None}
use Rattle.automata.specs.Machine.{Machine, size, automaton}
use Rattle.automata.specs.Partition.{bit}
use Rattle.automata.specs.Smallest.{smallest}
use Rattle.automata.specs.Table.{table_machine, ClosedTable}
use Rattle.entries.specs.declared.table.Table.{Table}

-- the answer for a machine that is to have at most so many states: how many it has, or none where they are more
abbrev pub kept_of : ℕ → Machine → Option ℕ
kept_of most M = cond (ltb most (size M)) None (Some (size M))

-- A list holds M as a table over k columns from place `base` on, its flags 0 or 1.
pub record Holds (base k : ℕ) (M : Machine) (s : List ℕ) : Type 0 where
  pub closed : ClosedTable base (size M) k s
  pub table : table_machine base (size M) k s ≡ M
  pub flags : (p : ℕ) → p < size M → get_or s p 0 ≡ bit ((automaton M).accepting p)

-- The answer is the smallest machine's, and where that has at most so many states the list holds it.
pub record Minimised (k most : ℕ) (M : Machine) (s : List ℕ) (r : Option ℕ) : Type 0 where
  pub answer : r ≡ kept_of most (smallest k M)
  pub holds : size (smallest k M) ≤ most → Holds most k (smallest k M) s

-- A table of n states over k columns, a work list with room for the classes and the order, and a list with room for a machine of so many states.
pub record Fitting (T : Table) (most : ℕ) (w s : List ℕ) : Type 0 where
  pub few : T.states < 65536
  pub some : 1 ≤ most
  pub bytes : most ≤ 256
  pub arrays : T.states + (T.states + T.states) ≤ length w
  pub order : T.states + T.states + most ≤ length w
  pub slot : most + most * T.columns ≤ length s
