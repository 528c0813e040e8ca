-- Classes of a table's states on the way to those of equivalent states, as code keeps them in lists of numbers: one has the class of each state (a state of it, its
-- leader), one a number of each state, one links of states.
use Rattle.std.specs.Prelude.{◌≡◌, cond, List, ℕ, zero, suc, ◌≤◌, ◌<◌, length, eqb}
use Rattle.automata.specs.Machine.{Machine, automaton}
use Rattle.automata.specs.Refinement.{Coarse}
use Rattle.entries.specs.declared.table.Table.{Table}
use Rattle.entries.specs.Entries.{class_of, machine_of}

-- A class goes by a state of it, its leader, and no state of it comes before the leader.
pub record Led (n : ℕ) (f : ℕ → ℕ) : Type 0 where
  pub low : (p : ℕ) → p < n → f p ≤ p
  pub again : (p : ℕ) → p < n → f (f p) ≡ f p

-- States of one class answer alike.
abbrev pub Told : ℕ → Machine → (ℕ → ℕ) → Type 0
Told n M f = (p q : ℕ) → p < n → q < n → f p ≡ f q → (automaton M).accepting p ≡ (automaton M).accepting q

-- how many states below m lead a class
unfoldable pub leaders : (ℕ → ℕ) → ℕ → ℕ
leaders g zero = zero
leaders g (suc m) = let r = leaders g m in cond (eqb (g m) m) (suc r) r

-- A table, and an entry for each of its states in each of three lists.
pub record Sized (T : Table) (classes next links : List ℕ) : Type 0 where
  pub classes_long : length classes ≡ T.states
  pub next_long : length next ≡ T.states
  pub links_long : T.states ≤ length links
  pub few : T.states < 65536

-- Classes on the way, so many of them at least: each goes by its first state, equivalent states share one, and states that share one answer alike.
pub record Refining (T : Table) (classes : List ℕ) (count : ℕ) : Type 0 where
  pub led : Led T.states (class_of classes)
  pub coarse : Coarse T.columns (machine_of T) (class_of classes)
  pub told : Told T.states (machine_of T) (class_of classes)
  pub counted : count ≤ leaders (class_of classes) T.states
