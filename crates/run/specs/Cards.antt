-- A card that loads, read as its bytes and its counts.
use Rattle.std.specs.Prelude.{List, ℕ}
use Rattle.run.specs.declared.loaded.Card.{Card}
use Rattle.run.specs.Walk.{Ready}

abbrev pub bytes_of : Card → List ℕ
bytes_of card = card.layout.bytes.now

abbrev pub letters_in : Card → ℕ
letters_in card = card.layout.counts.letters

abbrev pub states_in : Card → ℕ
states_in card = card.layout.counts.states

-- what the card's type says
pub ready_of : (card : Card) → Ready (bytes_of card) (letters_in card) (states_in card)
ready_of card = record { loads = card.loads; letters = card.layout.right.letters; states = card.layout.right.states }
