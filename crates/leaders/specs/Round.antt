-- A round of partition refinement over a table, as code keeps it in three lists of numbers: the class of each state (a state of it, its leader), the class after the
-- round, and the leaders of each class linked from the latest to the first. What holds of these lists when the states below m have been placed.
use Rattle.std.specs.Prelude.{◌≡◌, Bool, true, false, ◌≢◌, List, ℕ, ◌≤◌, ◌<◌, length, Option, Some, None}
use Rattle.automata.specs.Machine.{Machine, automaton}
use Rattle.automata.specs.Refinement.{SameSignature}
use Rattle.entries.specs.declared.table.Table.{Table}
use Rattle.entries.specs.Entries.{class_of, machine_of}
use Rattle.entries.specs.Classes.{Led, Told, Sized}

-- An answer says whether P holds.
pub record Says (r : Bool) (P : Type 0) : Type 0 where
  pub yes : r ≡ true → P
  pub no : r ≡ false → P → ⊥

-- Two states of a table are to be compared by the classes that their columns lead to.
pub record Compared (T : Table) (p q : ℕ) (classes : List ℕ) : Type 0 where
  pub long : length classes ≡ T.states
  pub one : p < T.states
  pub other : q < T.states

-- Column c leads p and q to one class.
pub record SameClass (M : Machine) (f : ℕ → ℕ) (p q c : ℕ) : Type 0 where
  pub step : f ((automaton M).step p c) ≡ f ((automaton M).step q c)

-- A round keeps p and q together: they are in one class, and it sees the same of both.
pub record Together (k : ℕ) (M : Machine) (f : ℕ → ℕ) (p q : ℕ) : Type 0 where
  pub class : f p ≡ f q
  pub signature : SameSignature k M f p q

-- The states below m are placed: each goes with the first that the round keeps together with it.
pub record Placed (k : ℕ) (M : Machine) (f g : ℕ → ℕ) (m : ℕ) : Type 0 where
  pub low : (p : ℕ) → p < m → g p ≤ p
  pub again : (p : ℕ) → p < m → g (g p) ≡ g p
  pub sound : (p : ℕ) → p < m → Together k M f (g p) p
  pub whole : (p q : ℕ) → p < m → q < m → Together k M f p q → g p ≡ g q

-- s is the latest leader below b that was in class c
pub record Latest (f g : ℕ → ℕ) (c s b : ℕ) : Type 0 where
  pub below : s < b
  pub class : f s ≡ c
  pub leads : g s ≡ s
  pub none : (q : ℕ) → s < q → q < b → g q ≡ q → f q ≡ c → ⊥

-- The leader of an old class is linked to the latest leader in it, each later one to the one before it.
pub record Linked (f g l : ℕ → ℕ) (m : ℕ) : Type 0 where
  pub head : (p : ℕ) → p < m → f p ≡ p → Latest f g p (l p) m
  pub inner : (p : ℕ) → p < m → g p ≡ p → f p ≢ p → Latest f g (f p) (l p) p

-- the lists of a round when the states below m are placed
pub record Partial (k n : ℕ) (M : Machine) (classes next links : List ℕ) (m : ℕ) : Type 0 where
  pub led : Led n (class_of classes)
  pub placed : Placed k M (class_of classes) (class_of next) m
  pub linked : Linked (class_of classes) (class_of next) (class_of links) m

-- A table, the lists of a round over it, and a state that is not yet placed, but all before it are.
pub record Under (T : Table) (p : ℕ) (classes next links : List ℕ) : Type 0 where
  pub sized : Sized T classes next links
  pub inside : p < T.states
  pub told : Told T.states (machine_of T) (class_of classes)
  pub partial : Partial T.columns T.states (machine_of T) classes next links p

-- The same for some classes after the round.
pub record Underway (T : Table) (p : ℕ) (classes links : List ℕ) : Type 0 where
  pub next : List ℕ
  pub under : Under T p classes next links

-- The leader that p goes with is r, an earlier one; or the round keeps no earlier leader together with p.
abbrev pub Leads : ℕ → Machine → (ℕ → ℕ) → (ℕ → ℕ) → ℕ → Option ℕ → Type 0
Leads k M f g p (Some r) = (r < p) × (g r ≡ r) × Together k M f r p
Leads k M f g p None = (s : ℕ) → s < p → g s ≡ s → Together k M f s p → ⊥

-- The same for each choice of classes after the round that the links go with.
abbrev pub LedBy : Table → ℕ → List ℕ → List ℕ → Option ℕ → Type 0
LedBy T p classes links r = (next : List ℕ) → Under T p classes next links → Leads T.columns (machine_of T) (class_of classes) (class_of next) p r
