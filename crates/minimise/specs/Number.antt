-- Numbering the classes by first arrival, as code keeps it in two lists: for each class its number, and the classes in the order of their numbers. What holds of
-- these lists when m classes have numbers, and what one class, one row and one state's flag add to them.
use Rattle.std.specs.Prelude.{◌≡◌, List, ℕ, ◌+◌, ◌*◌, ◌≤◌, ◌<◌, length, get_or, take, Option, Some, None}
use Rattle.automata.specs.Automaton.{Automaton}
use Rattle.automata.specs.Basics.{nat_test}
use Rattle.automata.specs.Listing.{add_to}
use Rattle.automata.specs.Partition.{classes}
use Rattle.automata.specs.Smallest.{quotient}
pub use Rattle.numbering.specs.Order.{Roll, NumberOf, Numbered, Arrived}
use Rattle.entries.specs.declared.table.Table.{Table}
use Rattle.entries.specs.Entries.{class_of, flag_bit, machine_of}

-- The state of number x is the one that column c leads to from p.
pub record Goes (Q : Automaton ℕ) (l : List ℕ) (p c x : ℕ) : Type 0 where
  pub inside : x < length l
  pub leads : get_or l x 0 ≡ Q.step p c

-- the classes as an automaton
abbrev pub classes_of : Table → List ℕ → Automaton ℕ
classes_of T cls = quotient (machine_of T) cls

-- row i of the numbered machine is to be written
pub record Rolling (T : Table) (most i m : ℕ) (cls numbers order s : List ℕ) : Type 0 where
  pub roll : Roll most m numbers order
  pub classes_long : length cls ≡ T.states
  pub numbers_long : length numbers ≡ T.states
  pub inside : (q : ℕ) → q < T.states → class_of cls q < T.states
  pub row : i < m
  pub slot : most + most * T.columns ≤ length s

-- the moves of row i before column c are written, all that they lead to has numbers
pub record Upto (Q : Automaton ℕ) (k most i m : ℕ) (order s : List ℕ) (c m' : ℕ) (numbers' order' s' : List ℕ) : Type 0 where
  pub listed : take m' order' ≡ add_to nat_test Q c (take m order) (get_or (take m order) i 0)
  pub roll : Roll most m' numbers' order'
  pub more : m ≤ m'
  pub cells : (q : ℕ) → q < i * k → get_or s' (most + q) 0 ≡ get_or s (most + q) 0
  pub goes : (a : ℕ) → a < c → Goes Q (take m' order') (get_or (take m order) i 0) a (get_or s' (most + (i * k + a)) 0)

-- row i is written, or there are too many classes
abbrev pub Rowed : Table → ℕ → ℕ → ℕ → List ℕ → List ℕ → List ℕ → List ℕ → List ℕ → List ℕ → Option ℕ → Type 0
Rowed T most i m cls order s numbers' order' s' (Some m') = Upto (classes_of T cls) T.columns most i m order s T.columns m' numbers' order' s'
Rowed T most i m cls order s numbers' order' s' None = most < length (add_to nat_test (classes_of T cls) T.columns (take m order) (get_or (take m order) i 0))

-- the m numbered classes are states of the table, and there is room for their flags
pub record Markable (T : Table) (m : ℕ) (order s : List ℕ) : Type 0 where
  pub room : m ≤ length order
  pub below : (i : ℕ) → i < m → get_or order i 0 < T.states
  pub flags : m ≤ length s

-- the flags of the m numbered classes are written
pub record Marked (T : Table) (m : ℕ) (order s s' : List ℕ) : Type 0 where
  pub flags : (i : ℕ) → i < m → get_or s' i 0 ≡ flag_bit T.cells.now (get_or order i 0)
  pub past : (q : ℕ) → m ≤ q → get_or s' q 0 ≡ get_or s q 0

-- the table with its classes found, and room for the numbers, their order and a machine of so many states
pub record Classified (T : Table) (most : ℕ) (cls numbers order s : List ℕ) : Type 0 where
  pub few : T.states < 65536
  pub some : 1 ≤ most
  pub bytes : most ≤ 256
  pub numbers_long : length numbers ≡ T.states
  pub room : most ≤ length order
  pub slot : most + most * T.columns ≤ length s
  pub found : cls ≡ classes T.columns (machine_of T)
