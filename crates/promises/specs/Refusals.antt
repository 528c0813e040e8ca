-- "a numbered refusal from document 01": the number of a book's refusal is one of the table's, 1 to 9 or 11. So it is never the 0 of an accepted
-- book, and "10 occurs no longer".
use Rattle.std.specs.Prelude.{◌≢◌, ℕ, ◌≤◌}
use Rattle.automata.specs.Stage.{Made, made, refused}
use Rattle.book.specs.Line as L
use Rattle.book.specs.Line.{LineRead, reads, stops, HeadRead, letters}
use Rattle.compiler.specs.Book.{BookResult, done, stopped}
use Rattle.compiler.specs.Outcome.{Outcome, card, stop}

-- A number between two others.
abbrev Between : ℕ → ℕ → ℕ → Type 0
Between low high r = (low ≤ r) × (r ≤ high)

-- ---- stages: 8 and 9

abbrev pub Numbered : Made → Type 0
Numbered (made counts M) = Unit {0}
Numbered (refused r) = Between 8 9 r

-- ---- lines: 3 to 7

abbrev pub ReadNumbered : LineRead → Type 0
ReadNumbered (reads F) = Unit {0}
ReadNumbered (stops r) = Between 3 7 r

abbrev pub HeadNumbered : HeadRead → Type 0
HeadNumbered (letters ls) = Unit {0}
HeadNumbered (L.HeadRead.stops r) = Between 3 5 r

-- ---- books: 3 to 9

abbrev pub BookNumbered : BookResult → Type 0
BookNumbered (done ls d) = Unit {0}
BookNumbered (stopped r at) = Between 3 9 r

-- ---- the table: 1 to 9 and 11

abbrev pub OutcomeNumbered : Outcome → Type 0
OutcomeNumbered (card c peak) = Unit {0}
OutcomeNumbered (stop r at) = Between 1 11 r × (r ≢ 10)
