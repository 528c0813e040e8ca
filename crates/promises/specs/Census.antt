-- How many days are possible, for the card of an accepted book: the numbers are those of the plans that the book allows.
use Rattle.std.specs.Prelude.{List, ℕ, length}
use Rattle.census.specs.Plans.{RightCounts}
use Rattle.census.specs.Census.{Within}
use Rattle.book.specs.Text.{lines_of}
use Rattle.compiler.specs.Allows.{book_letters}
use Rattle.promises.specs.Demands.{book_allows}

-- how many letters line 1 of the text has
abbrev pub letters_many : List ℕ → ℕ
letters_many text = length (book_letters (lines_of text))

-- Within both bounds, and so many of the plans of k letters of the text are allowed, unfinished and hopeless, by what the book allows.
abbrev pub BookCounts : List ℕ → ℕ → ℕ → ℕ → ℕ → Type 0
BookCounts text k a u h = Within (letters_many text) k × RightCounts (book_allows text) (book_letters (lines_of text)) k a u h
