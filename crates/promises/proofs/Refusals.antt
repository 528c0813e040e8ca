-- Laws of what specs/Refusals.antt defines.
use Rattle.std.specs.Prelude.{◌≡◌, refl, ◌≢◌, List, ◌∷◌, ℕ, suc, ◌≤◌}
use Rattle.std.proofs.Common.{arith}
use Rattle.automata.specs.Format.{Format}
use Rattle.automata.specs.Automaton.{Automaton}
use Rattle.automata.specs.Machine.{Machine}
use Rattle.automata.specs.Stage.{Made, made, refused, after, StageResult, kept_one, too_many_sets, too_many_states}
use Rattle.language.specs.Stagewise.{Stagewise, then_holds, expression_holds, rule_holds}
use Rattle.book.specs.Text.{Line, Form, define, rule, malformed}
use Rattle.book.specs.Line as L
use Rattle.book.specs.Line.{LineRead, stops, HeadRead, letters}
use Rattle.book.specs.LineLaws as LL
use Rattle.book.specs.LineLaws.{LineSays}
use Rattle.book.specs.HeadLaws as HL
use Rattle.book.specs.HeadLaws.{HeadSays}
use Rattle.compiler.specs.Book.{Draft, BookResult, stopped}
use Rattle.compiler.specs.Outcome.{Outcome, stop, outcome}
use Rattle.compiler.specs.Table.{MakesLine, LinesSay, line_stops, stage_stops, goes_on, all_lines, BookSays, no_bytes, head_stops, head_goes, Outcomes, text_too_long, buffer_too_short, book_stops, output_too_short, gives}
use Rattle.compiler.proofs.Table.{outcomes}
use Rattle.promises.specs.Refusals.{BookNumbered, HeadNumbered, Numbered, OutcomeNumbered, ReadNumbered}

-- ---- stages: 8 and 9

stage_numbered : {S : Type 0} (fmt : Format) (k : ℕ) (A : Automaton S) (r : Made) → StageResult fmt k A r → Numbered r
stage_numbered fmt k A r (kept_one n M C h s b) = tt
stage_numbered fmt k A r (too_many_sets c) = (omega arith, omega arith)
stage_numbered fmt k A r (too_many_states n M C h s b) = (omega arith, omega arith)

numbered : (fmt : Format) → Stagewise fmt Numbered
numbered fmt = record {
  here = λ M. tt;
  staged = λ k A r s. stage_numbered fmt k A r s;
  behind = behind;
}
  where
    behind : (counts : List ℕ) (M : Machine) (r : Made) → Numbered (made counts M) → Numbered r → Numbered (after counts r)
    behind counts M (made more N) m n = tt
    behind counts M (refused r) m n = n

-- ---- lines: 3 to 7

read_numbered : (ls names : List ℕ) (l : Line) (q : LineRead) → LineSays ls names l q → ReadNumbered q
read_numbered ls names l q (LL.LineSays.nesting_too_deep p) = (omega arith, omega arith)
read_numbered ls names l q (LL.LineSays.too_many_contexts n h) = (omega arith, omega arith)
read_numbered ls names l q (LL.LineSays.no_line_end C t) = (omega arith, omega arith)
read_numbered ls names l q (LL.LineSays.malformed_line C t n) = (omega arith, omega arith)
read_numbered ls names l q (LL.LineSays.undefined_symbol C t F f k) = (omega arith, omega arith)
read_numbered ls names l q (LL.LineSays.duplicate_name C t F f k n) = (omega arith, omega arith)
read_numbered ls names l q (LL.LineSays.says C t F f k n) = tt

head_numbered : (fmt : Format) (l : Line) (q : HeadRead) → HeadSays fmt l q → HeadNumbered q
head_numbered fmt l q (HL.HeadSays.nesting_too_deep p) = (omega arith, omega arith)
head_numbered fmt l q (HL.HeadSays.too_many_contexts n h) = (omega arith, omega arith)
head_numbered fmt l q (HL.HeadSays.no_line_end C t) = (omega arith, omega arith)
head_numbered fmt l q (HL.HeadSays.malformed_line C t n) = (omega arith, omega arith)
head_numbered fmt l q (HL.HeadSays.says C t ls f) = tt

-- ---- books: 3 to 9

module _ (fmt : Format) where
  form_numbered : (ls : List ℕ) (d : Draft) (F : Form) (r : Made) → MakesLine fmt ls d F r → Numbered r
  form_numbered ls d (define x e) = expression_holds fmt Numbered (numbered fmt) ls d.env e
  form_numbered ls d (rule kind p cs) = then_holds fmt Numbered (numbered fmt) _ _ (rule_holds fmt Numbered (numbered fmt) ls d.env kind p cs) λ R. stage_numbered fmt _ _
  form_numbered ls d malformed = λ r m. absurd m

  lines_numbered : (ls : List ℕ) (lines : List Line) (at : ℕ) (d : Draft) (b : BookResult) → LinesSay fmt ls lines at d b → BookNumbered b
  lines_numbered ls lines at d b all_lines = tt
  lines_numbered ls (l ∷ rest) at d b (line_stops {r = r} s) = let n = read_numbered ls _ l (stops r) s in (omega arith, omega arith)
  lines_numbered ls (l ∷ rest) at d b (stage_stops {r = r} F s m) = let n = form_numbered ls d F (refused r) m in (omega arith, omega arith)
  lines_numbered ls (l ∷ rest) at d b (goes_on F counts M s m t) = lines_numbered ls rest (suc at) _ b t

  book_numbered : (lines : List Line) (b : BookResult) → BookSays fmt lines b → BookNumbered b
  book_numbered lines b no_bytes = tt
  book_numbered (l ∷ rest) b (head_stops {r = r} s) = let n = head_numbered fmt l (L.HeadRead.stops r) s in (omega arith, omega arith)
  book_numbered (l ∷ rest) b (head_goes ls s t) = lines_numbered ls rest 2 _ b t

-- ---- the table: 1 to 9 and 11

-- THE NUMBER of a refusal is one of the table's,
pub refusal_numbered : (fmt : Format) (needs text lent : List ℕ) (room r at : ℕ) → outcome fmt needs text lent room ≡ stop r at → ((1 ≤ r) × (r ≤ 11)) × (r ≢ 10)
refusal_numbered fmt needs text lent room r at e = rw e at (go (outcome fmt needs text lent room) (outcomes fmt needs text lent room))
  where
    go : (o : Outcome) → Outcomes fmt needs text lent room o → OutcomeNumbered o
    go o (text_too_long h) = ((omega arith, omega arith), λ z. omega arith)
    go o (buffer_too_short h b) = ((omega arith, omega arith), λ z. omega arith)
    go o (book_stops h b r at s) = let n = book_numbered fmt _ (stopped r at) s in ((omega arith, omega arith), λ z. omega arith)
    go o (output_too_short h b ls d s x) = ((omega arith, omega arith), λ z. omega arith)
    go o (gives h b ls d s x) = tt

-- and "10 occurs no longer": for every text, whatever is lent, and every length of the card buffer.
pub never_ten : (fmt : Format) (needs text lent : List ℕ) (room at : ℕ) → outcome fmt needs text lent room ≢ stop 10 at
never_ten fmt needs text lent room at e = (refusal_numbered fmt needs text lent room 10 at e).1 refl
