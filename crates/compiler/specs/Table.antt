-- "What stops a book", line by line of the table, as a relation: each of 1 to 9 and 11 in exactly its case, in its order, with its line; and what an accepted
-- book gives. `outcome` answers what the table says, and one answer only is right. The relation knows a line by its form
-- (inductive grammar), a stage by the sets that it reaches and the states of its smallest machine; it computes nothing.
use Rattle.std.specs.Prelude.{◌≡◌, false, ℕ, suc, ◌≤◌, ◌<◌}
use Rattle.std.proofs.Math.Bool.{true}
use mathlib.Core.List.{List, [], ◌∷◌, ◌++◌}
use Rattle.std.proofs.Math.ListN.{length}
use Rattle.automata.specs.Format.{Format}
use Rattle.automata.specs.Machine.{Machine}
use Rattle.automata.specs.Stage.{Made, made, refused}
use Rattle.automata.specs.Exactly.{Then}
use Rattle.automata.specs.Stages.{both}
use Rattle.language.specs.Environment.{names_of}
use Rattle.language.specs.Makes.{Pairs, Makes, MakesRule}
use Rattle.card.specs.Same.{card_of}
use Rattle.book.specs.Text.{Line, lines_of, Form, define, rule, malformed, form_of}
use Rattle.book.specs.Line as L
use Rattle.book.specs.Line.{LineRead, reads, stops, HeadRead, letters, read_head}
use Rattle.book.specs.LineGrammar.{Contexted}
use Rattle.book.specs.LineLaws.{KnownForm, LineSays}
use Rattle.book.specs.HeadLaws.{HeadForm, HeadSays}
use Rattle.compiler.specs.Book.{Draft, BookResult, done, stopped, start_draft}
use Rattle.compiler.specs.Outcome.{Outcome, card, stop, most, enough}

module _ (fmt : Format) where
  -- The stages of a line, with the book so far. (A malformed line is refused before.)
  abbrev pub MakesLine : List ℕ → Draft → Form → Made → Type 0
  MakesLine ls d (define x e) = Makes fmt ls d.env e
  MakesLine ls d (rule kind p cs) = Then (MakesRule fmt ls d.env kind p cs) λ R. Pairs fmt (suc (length ls)) both d.kept R
  MakesLine ls d malformed = λ r. ⊥

  -- The book behind a line whose stages made these sets and kept M.
  abbrev pub advance : Draft → Form → List ℕ → Machine → Draft
  advance d (define x e) counts M = record { env = (x, M) ∷ d.env; counts = d.counts ++ counts; kept = d.kept }
  advance d (rule kind p cs) counts M = record { env = d.env; counts = d.counts ++ counts; kept = M }
  advance d malformed counts M = d

  -- "then line by line 3 to 9, stages in their order, 8 before 9 in one stage": the lines from line `at` on
  pub data LinesSay (ls : List ℕ) : List Line → ℕ → Draft → BookResult → Type 0 where
    line_stops : {l : Line} {rest : List Line} {at : ℕ} {d : Draft} {r : ℕ} → LineSays ls (names_of d.env) l (stops r) → LinesSay ls (l ∷ rest) at d (stopped r at)
    stage_stops : {l : Line} {rest : List Line} {at : ℕ} {d : Draft} {r : ℕ} (F : Form) → LineSays ls (names_of d.env) l (reads F) → MakesLine ls d F (refused r) → LinesSay ls (l ∷ rest) at d (stopped r at)
    goes_on : {l : Line} {rest : List Line} {at : ℕ} {d : Draft} {b : BookResult} (F : Form) (counts : List ℕ) (M : Machine) → LineSays ls (names_of d.env) l (reads F)
        → MakesLine ls d F (made counts M) → LinesSay ls rest (suc at) (advance d F counts M) b → LinesSay ls (l ∷ rest) at d b
    all_lines : {at : ℕ} {d : Draft} → LinesSay ls [] at d (done ls d)

  -- "an empty text is no spoiled line"; line 1; the later lines
  pub data BookSays : List Line → BookResult → Type 0 where
    no_bytes : BookSays [] (done [] (start_draft 0))
    head_stops : {l : Line} {rest : List Line} {r : ℕ} → HeadSays fmt l (L.HeadRead.stops r) → BookSays (l ∷ rest) (stopped r 1)
    head_goes : {l : Line} {rest : List Line} {b : BookResult} (ls : List ℕ) → HeadSays fmt l (letters ls) → LinesSay ls rest 2 (start_draft (length ls)) b → BookSays (l ∷ rest) b

-- "1 and 2 come first; .. then .. 11." 1: "text over 16,384 bytes". 2: "a lent work buffer is below its documented length". 11: "buffer shorter than
-- the card".
pub data Outcomes (fmt : Format) (needs text lent : List ℕ) (room : ℕ) : Outcome → Type 0 where
  text_too_long : 16384 < length text → Outcomes fmt needs text lent room (stop 1 0)
  buffer_too_short : length text ≤ 16384 → enough needs lent ≡ false → Outcomes fmt needs text lent room (stop 2 0)
  book_stops : length text ≤ 16384 → enough needs lent ≡ true → (r at : ℕ) → BookSays fmt (lines_of text) (stopped r at) → Outcomes fmt needs text lent room (stop r at)
  output_too_short : length text ≤ 16384 → enough needs lent ≡ true → (ls : List ℕ) (d : Draft) → BookSays fmt (lines_of text) (done ls d) → room < length (card_of fmt ls d.kept)
      → Outcomes fmt needs text lent room (stop 11 0)
  gives : length text ≤ 16384 → enough needs lent ≡ true → (ls : List ℕ) (d : Draft) → BookSays fmt (lines_of text) (done ls d) → length (card_of fmt ls d.kept) ≤ room
      → Outcomes fmt needs text lent room (card (card_of fmt ls d.kept) (most d.counts))

-- ---- what was read

-- The form of a line that is read, with letters and names that are known, and contexts where they are needed.
abbrev pub Read : List ℕ → List ℕ → Line → LineRead → Type 0
Read ls names l (reads F) = (form_of l.bytes ≡ F) × KnownForm ls names F × Contexted F
Read ls names l (stops r) = Unit {0}

abbrev pub HeadIs : Format → Line → HeadRead → Type 0
HeadIs fmt l (letters ls) = HeadForm fmt l.bytes ls
HeadIs fmt l (L.HeadRead.stops r) = Unit {0}
