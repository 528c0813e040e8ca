-- Numbering the states that letters reach, by first arrival, as code keeps it in two arrays: the states in the order of their numbers, and for each state its
-- number, which counts only where the state stands in the order at that number.
use Rattle.std.specs.Prelude.{◌≡◌, List, ℕ, suc, ◌+◌, ◌*◌, ◌≤◌, ◌<◌, length, get_or, take}
use Rattle.automata.specs.Automaton.{Automaton}
use Rattle.automata.specs.Basics.{nat_test}
use Rattle.automata.specs.Listing.{add, add_to, listing}
use Rattle.automata.specs.Machine.{Machine, automaton}
use Rattle.automata.specs.Table.{table_machine, ClosedTable}

-- The machine of n states over m letters and the mark that a table of bytes holds, its moves from place 120 on.
abbrev pub kept_machine : ℕ → ℕ → List ℕ → Machine
kept_machine n m t = table_machine 120 n (suc m) t

-- Where the moves of state s begin, of a machine over m letters and the mark.
abbrev pub row_place : ℕ → ℕ → ℕ
row_place m s = 120 + s * suc m

-- Where the m letters lead from state s of n, in rising order.
pub record LetterRow (n m : ℕ) (t : List ℕ) (s : ℕ) (row : List ℕ) : Type 0 where
  pub long : length row ≡ m
  pub entry : (c : ℕ) → c < m → get_or row c 0 ≡ get_or t (row_place m s + c) 0
  pub inside : (c : ℕ) → c < length row → get_or row c 0 < n

-- Of at most so many states the first `count` of the order have numbers, each its place.
pub record Roll (most count : ℕ) (order number : List ℕ) : Type 0 where
  pub order_long : length order ≡ most
  pub number_long : length number ≡ most
  pub within : count ≤ most
  pub below : (i : ℕ) → i < count → get_or order i 0 < most
  pub back : (i : ℕ) → i < count → get_or number (get_or order i 0) 0 ≡ i

-- State s has a number now: its old one, or the next.
pub record Arrived (most count s : ℕ) (order number order' number' : List ℕ) (r : ℕ) : Type 0 where
  pub roll : Roll most r order' number'
  pub listed : take r order' ≡ add nat_test (take count order) s

-- A row of m moves that stands in the table from place `at` on.
pub record Row (most at m : ℕ) (t : List ℕ) : Type 0 where
  pub room : at + m ≤ length t
  pub inside : (c : ℕ) → c < m → get_or t (at + c) 0 < most

-- What the row leads to has numbers now, in the order of the letters: for every automaton with this row.
pub record Rowed (most at m count : ℕ) (t order number order' number' : List ℕ) (r : ℕ) : Type 0 where
  pub roll : Roll most r order' number'
  pub listed : (A : Automaton ℕ) (s : ℕ) → ((c : ℕ) → c < m → A.step s c ≡ get_or t (at + c) 0) → take r order' ≡ add_to nat_test A m (take count order) s

-- The first `count` of the order are the states that letters reach, by first arrival.
pub record Ordered (n m : ℕ) (t order : List ℕ) (count : ℕ) : Type 0 where
  pub room : count ≤ length order
  pub listed : take count order ≡ listing nat_test (automaton (kept_machine n m t)) m n

-- All states that letters reach have numbers, by first arrival.
pub record Arranged (n m : ℕ) (t order number : List ℕ) (count : ℕ) : Type 0 where
  pub closed : ClosedTable 120 n (suc m) t
  pub roll : Roll 120 count order number
  pub ordered : Ordered n m t order count
