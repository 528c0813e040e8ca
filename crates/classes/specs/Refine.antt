-- Partition refinement over a table: the classes to begin with, one state placed, a whole round, and some rounds.
use Rattle.std.specs.Prelude.{◌≡◌, Bool, true, false, cond, ◌≢◌, List, ℕ, suc, ◌+◌, ◌≤◌, ◌<◌, get_or, Option, Some, None}
use Rattle.std.proofs.Math.Bool.{beq}
use Rattle.automata.specs.Partition.{bit, classes}
use Rattle.entries.specs.declared.table.Table.{Table}
use Rattle.entries.specs.Entries.{class_of, flag_at, machine_of}
use Rattle.entries.specs.Classes.{Led, Told, leaders, Sized, Refining}
use Rattle.leaders.specs.Round.{Placed, Partial}

-- State r is the first that does not answer as state 0 does; or each answers as that does.
abbrev pub FirstOther : Table → Option ℕ → Type 0
FirstOther T (Some r) = (r < T.states) × ((p : ℕ) → p < r → flag_at T.cells.now p ≡ flag_at T.cells.now 0) × (flag_at T.cells.now r ≢ flag_at T.cells.now 0)
FirstOther T None = (p : ℕ) → p < T.states → flag_at T.cells.now p ≡ flag_at T.cells.now 0

-- a state's class by acceptance: that of state 0, or of the first other one
unfoldable pub side_of : Table → Option ℕ → ℕ → ℕ
side_of T (Some r) p = cond (beq (flag_at T.cells.now p) (flag_at T.cells.now 0)) 0 r
side_of T None p = 0

-- The states are parted by acceptance.
pub record Parted (T : Table) (w : List ℕ) : Type 0 where
  pub other : Option ℕ
  pub first : FirstOther T other
  pub class : (p : ℕ) → p < T.states → get_or w p 0 ≡ side_of T other p

-- Some rounds, so many at most: the classes of equivalent states; or classes on the way, and there are more states than rounds.
pub record Turned (T : Table) (cls : List ℕ) (most : ℕ) (r : Bool) : Type 0 where
  pub done : r ≡ true → cls ≡ classes T.columns (machine_of T)
  pub way : r ≡ false → Refining T cls 0 × (most ≤ T.states)

-- A table, and lists with the classes that a round begins with.
pub record Begun (T : Table) (cls next links : List ℕ) : Type 0 where
  pub sized : Sized T cls next links
  pub led : Led T.states (class_of cls)
  pub told : Told T.states (machine_of T) (class_of cls)

-- State p is placed; r tells whether it leads.
pub record Placing (T : Table) (p : ℕ) (cls next next' links' : List ℕ) (r : Bool) : Type 0 where
  pub partial : Partial T.columns T.states (machine_of T) cls next' links' (suc p)
  pub count : leaders (class_of next') (suc p) ≡ bit r + leaders (class_of next) p

-- A whole round: so many lead then.
pub record Rounded (T : Table) (cls next' : List ℕ) (r : ℕ) : Type 0 where
  pub placed : Placed T.columns (machine_of T) (class_of cls) (class_of next') T.states
  pub count : r ≡ leaders (class_of next') T.states
