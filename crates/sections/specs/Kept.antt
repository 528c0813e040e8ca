-- The machine that a card is written from.
use Rattle.std.specs.Prelude.{ℕ, suc, ◌≤◌, List}
use Rattle.automata.specs.Machine.{Canonical}
use Rattle.automata.specs.Restrict.{Unmarked}
use Rattle.automata.specs.Table.{ClosedTable}
use Rattle.numbering.specs.Arrival.{kept_machine}

-- A kept machine over m letters and the mark: smallest, numbered by first arrival, and with no accepted word that has the mark.
pub record Kept (n m : ℕ) (t : List ℕ) : Type 0 where
  pub closed : ClosedTable 120 n (suc m) t
  pub letters_most : m ≤ 26
  pub canonical : Canonical (suc m) (kept_machine n m t)
  pub unmarked : Unmarked m (kept_machine n m t)
