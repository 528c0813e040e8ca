-- What the pass and its parts require and leave.
use Rattle.std.specs.Prelude.{Option, Some, ◌≡◌, List, ℕ, ◌-◌, ◌≤◌, ◌<◌}
use Rattle.std.specs.Option.{ForSome}
use Rattle.automata.specs.Format.{narrow}
use Rattle.card.specs.Judge.{card_allows}
use Rattle.factor.specs.Factor.{Shortest, Blames}
use Rattle.forbidden.specs.declared.Stretch.{Stretch}
use Rattle.forbidden.specs.Reading.{shortest_in}

-- two rows of places: 120 states, and an entry more where no state is dead
abbrev pub most_places : ℕ
most_places = 242

-- The answer is the right one for the plans that the card allows.
pub record Searched (c plan : List ℕ) (a : Option Stretch) : Type 0 where
  pub answer : Shortest
  pub is : shortest_in a ≡ answer
  pub right : Blames (card_allows narrow c) plan answer

-- The stretch from i to `last`, where there is one and it is not longer than the best; else the best.
pub data Bettered (b : Option Stretch) (i last never : ℕ) (r : Option Stretch) : Type 0 where
  nearer : last < never → ForSome b (λ s. last - i ≤ s.length) → r ≡ Some (record { start = i; length = last - i }) → Bettered b i last never r
  nowhere : never ≤ last → r ≡ b → Bettered b i last never r
  longer : last < never → (s : Stretch) → b ≡ Some s → s.length < last - i → r ≡ b → Bettered b i last never r
