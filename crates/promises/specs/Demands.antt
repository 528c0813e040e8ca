-- The three demands of the customer's letter, about the answers that the definitions give: for every text, whatever lengths are lent, for every format
-- (today's is `narrow`). The entries' contracts say that the code gives these answers.
use Rattle.std.specs.Prelude.{◌≡◌, Bool, List, ℕ, length}
use Rattle.automata.specs.Format.{Format}
use Rattle.automata.specs.Machine.{size}
use Rattle.card.specs.Alphabet.{columns}
use Rattle.card.specs.Loads.{Plans, CardOf}
use Rattle.book.specs.Text.{lines_of}
use Rattle.compiler.specs.Allows.{book_letters, allows}

-- What a plan is allowed by: the book's own rules, the plan written by the columns of its letters.
abbrev pub book_allows : List ℕ → List ℕ → Bool
book_allows text plan = allows text (columns (book_letters (lines_of text)) plan)

-- ---- demand 2, the board

-- c is the card of the numbered smallest machine, with m letters and n states, of some set of plans, within the format's limits.
abbrev pub SmallestCard : Format → ℕ → ℕ → List ℕ → Type 1
SmallestCard fmt m n c = (P : Plans) × (k : CardOf fmt P c) × (length k.letters ≡ m) × (size k.machine ≡ n)
