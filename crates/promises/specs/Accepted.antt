-- A book that compiling accepts: what follows from the answer alone. The letters are 1 to 26 and rise, or none where the text has no bytes, the kept
-- machine is within the limits, and its words are the plans that the book allows: nothing is left to assume.
use Rattle.std.specs.Prelude.{◌≡◌, List, ℕ, ◌≤◌, length}
use Rattle.automata.specs.Format.{Format}
use Rattle.card.specs.Same.{card_of}
use Rattle.book.specs.Text.{lines_of}
use Rattle.compiler.specs.Allows.{book_letters}
use Rattle.compiler.specs.Book.{Draft, done, compile_book}
use Rattle.compiler.specs.Outcome.{most}

-- What was made of an accepted text.
pub record Accepted (fmt : Format) (text c : List ℕ) (room peak : ℕ) : Type 0 where
  pub draft : Draft
  pub compiled : compile_book fmt text ≡ done (book_letters (lines_of text)) draft
  pub bytes : c ≡ card_of fmt (book_letters (lines_of text)) draft.kept
  pub fits : length c ≤ room
  pub peak_is : peak ≡ most draft.counts
