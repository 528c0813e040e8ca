-- What code reads of a card: the counts of its contents, or that these are not right.
use Rattle.std.specs.Prelude.{◌≡◌, List, ℕ, Option, Some, None}
use Rattle.automata.specs.Booleans.{choose}
use Rattle.automata.specs.Format.{Format}
use Rattle.card.specs.Layout.{letter_count, state_count, Contents, contents_test}
use Rattle.fields.specs.declared.Counts.{Counts}

-- The contents are right, with m letters and n states.
pub record Counted (fmt : Format) (c : List ℕ) (m n : ℕ) : Type 0 where
  pub right : Contents fmt c
  pub letters : letter_count fmt c ≡ m
  pub states : state_count fmt c ≡ n

-- Letters and states, where the contents are right: what 21 asks.
unfoldable pub counts_of : Format → List ℕ → Option Counts
counts_of fmt c = choose (contents_test fmt c) (λ _. Some (record { letters = letter_count fmt c; states = state_count fmt c })) (λ _. None)
