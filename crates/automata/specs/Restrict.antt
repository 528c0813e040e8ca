-- A machine over m letters and the mark, restricted to its letters: "The mark column is dropped, states that no plan reaches are dropped, and
-- numbering is as above over letters." Where no accepted word has the mark, a canonical machine's restriction is canonical.
use Rattle.std.specs.Prelude.{◌≡◌, true}
use mathlib.Core.List.{List}
use Prim.Native.Nat.{ℕ, suc}
use Rattle.automata.specs.Basics.{nat_test}
use Rattle.automata.specs.Automaton.{Over, accepts}
use Rattle.automata.specs.Listing.{listing}
use Rattle.automata.specs.Machine.{Machine, size, automaton}
use Rattle.automata.specs.Smallest.{tabulated}

-- The machine over its first m columns: the states that words of these reach, numbered by first arrival.
unfoldable pub restrict : ℕ → Machine → Machine
restrict m M = tabulated nat_test (automaton M) m (listing nat_test (automaton M) m (size M))

-- Each accepted word of m letters and the mark, which is column m, is a word of letters.
abbrev pub Unmarked : ℕ → Machine → Type 0
Unmarked m M = (w : List ℕ) → Over (suc m) w → accepts (automaton M) w ≡ true → Over m w
