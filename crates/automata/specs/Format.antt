-- The numbers of 01 that bound a book and a card, in one place: the definitions, laws and contracts of stages, cards, loading and compiling take
-- them as a record, so that what is shown of them is shown for every such record.
use Rattle.std.specs.Prelude.{ℕ}

-- The letters are those of a card: how few line 1 of a book may have is said with it.
pub record Format : Type 0 where
  pub least_letters : ℕ
  pub most_letters : ℕ
  pub most_states : ℕ
  pub most_sets : ℕ
  pub most_names : ℕ
  pub number_bytes : ℕ
  pub move_bytes : ℕ

-- "boards from this year take m from 0 to 26 in test 21", "length n (1 to 120 states)", "A stage may make 512 sets; a kept machine may have 120 states",
-- "a name (one byte A to Z)", "a two-byte offset and a two-byte length", moves of "one byte each".
abbrev pub narrow : Format
narrow = record { least_letters = 0; most_letters = 26; most_states = 120; most_sets = 512; most_names = 26; number_bytes = 2; move_bytes = 1 }
