-- DEMAND 3 for one call: a text, a plan, lent buffers, whatever they held. `text` is a book, and `lent` are the lengths of the buffers lent.
use Rattle.std.specs.Prelude.{◌≡◌, true, false, ◌↔◌, List, Result, ◌++◌, ℕ, ◌≤◌, ◌<◌, length, take, drop, get_or}
use Rattle.automata.specs.Format.{narrow}
use Rattle.automata.specs.Automaton.{Automaton, accepts}
use Rattle.automata.specs.Machine.{Machine, size}
use Rattle.automata.specs.Minimal.{Complete}
use Rattle.language.specs.Matches.{Obeys}
use Rattle.card.specs.Alphabet.{column, columns, Known}
use Rattle.card.specs.Layout.{encode}
use Rattle.card.specs.Loads as Loads
use Rattle.card.specs.Answer.{load, holds}
use Rattle.card.specs.Verdict.{Verdict, allowed, unfinished, hopeless}
use Rattle.card.specs.Reply.{Reply, answered}
use Rattle.card.specs.Judge.{judge}
use Rattle.card.specs.Demand.{Demand3}
use Rattle.book.specs.Text.{lines_of}
use Rattle.compiler.specs.Allows.{book_letters, book_rules}
use Rattle.compiler.specs.Outcome as Outcome
use Rattle.compiler.specs.Outcome.{stop, outcome}
use Rattle.driver.specs.Entry.{documented}
use Rattle.promises.specs.Demands.{book_allows}
use Rattle.compiler.specs.declared.Refusal.{Refusal}
use Rattle.handing.specs.declared.Delivered.{Delivered}
use Rattle.handing.specs.Answers.{judged, card, refused, delivery}

-- "Its letters are those of line 1."
abbrev pub letters_in : List ℕ → List ℕ
letters_in text = book_letters (lines_of text)

-- "no plan that the book allows begins with the plan's first k letters"
abbrev pub NoneBegins : List ℕ → List ℕ → ℕ → Type 0
NoneBegins text plan k = (rest : List ℕ) → book_allows text (take k plan ++ rest) ≡ false

-- "and k is the least such number", "from 0 to the plan's length"
pub record HopelessAfter (text plan : List ℕ) (k : ℕ) : Type 0 where
  pub within : k ≤ length plan
  pub none : NoneBegins text plan k
  pub least : (j : ℕ) → j < k → ¬ NoneBegins text plan j

-- "the fewest further letters after which the plan is allowed" are k: "the least over all continuations and one of that length exists"
pub record OwedAfter (text plan : List ℕ) (k : ℕ) : Type 0 where
  pub not_yet : ¬ (book_allows text plan ≡ true)
  pub reached : (rest : List ℕ) × (length rest ≡ k) × (book_allows text (plan ++ rest) ≡ true)
  pub least : (more : List ℕ) → book_allows text (plan ++ more) ≡ true → k ≤ length more

-- j letters of the book "precede the first foreign one"
pub record ForeignAfter (text plan : List ℕ) (j : ℕ) : Type 0 where
  pub within : j < length plan
  pub before : (i : ℕ) → i < j → column (letters_in text) (get_or plan i 0) < length (letters_in text)
  pub foreign : length (letters_in text) ≤ column (letters_in text) (get_or plan j 0)

-- What is promised where the book is accepted, with the card c and this peak.
pub record Accepted (text plan c : List ℕ) (peak : ℕ) (old new : List ℕ) (r : Result Delivered Refusal) : Type 0 where
  -- the machine on the card, and what judging replied
  pub machine : Machine
  pub reply : Reply Verdict
  -- "Success returns the card's length and the peak"; the board loads the card, with the book's letters and the machine's states, and replies
  pub answer : delivery r ≡ card (length c) peak (judged (length (letters_in text)) (size machine) reply)
  -- "its card is then the card buffer's bytes up to that length"; "bytes past that length are unchanged"
  pub buffer : new ≡ c ++ drop (length c) old
  -- "in demand 3 loading and judging are handed just these bytes": both answers are those on c
  pub loaded : load narrow c ≡ holds (length (letters_in text)) (size machine)
  pub replied : judge narrow c plan ≡ reply
  -- "The board loads its card, laid out and numbered as 01 says."
  pub laid_out : c ≡ encode narrow (letters_in text) machine
  pub numbered : Loads.Card narrow (letters_in text) machine
  -- "For every plan of the book's letters that one slice can hold, judging answers with a verdict and no refusal:
  pub judges : Known (letters_in text) plan → (v : Verdict) × (reply ≡ answered v)
  -- allowed exactly when the book allows the plan;
  pub allows : Known (letters_in text) plan → (reply ≡ answered allowed) ↔ (book_allows text plan ≡ true)
  -- hopeless after k letters exactly when no plan that the book allows begins with the plan's first k letters and k is the least such number;
  pub hopeless_after : Known (letters_in text) plan → (k : ℕ) → (reply ≡ answered (hopeless k)) ↔ HopelessAfter text plan k
  -- unfinished in every other case."
  pub other : Known (letters_in text) plan → ((k : ℕ) × (reply ≡ answered (unfinished k))) ↔ ((¬ (book_allows text plan ≡ true)) × ((k : ℕ) → ¬ HopelessAfter text plan k))
  -- "The verdict now carries the fewest further letters after which the plan is allowed."
  pub owed : Known (letters_in text) plan → (k : ℕ) → (reply ≡ answered (unfinished k)) ↔ OwedAfter text plan k
  -- demand 2 of this plan: "exactly when, for every rule in the book and every cut of the plan into left, middle and right with the middle in the
  -- rule's pattern, one listed context has both that left and that right"; of the sister rules, what their kind demands of the cuts
  pub obeys : Known (letters_in text) plan → (reply ≡ answered allowed) ↔ Obeys (book_rules (lines_of text)) (columns (letters_in text) plan)
  -- of any other plan: "27 in judging adds how many letters precede the first foreign one"
  pub foreign : (j : ℕ) → ForeignAfter text plan j → reply ≡ Reply.refused 27 j
  -- "Every other complete deterministic machine over those letters that allows the same plans as the book, of every length, has at least as many
  -- states as the card."
  pub least : (B : Automaton ℕ) (m : ℕ) → Complete (length (letters_in text)) m B
      → ((any : List ℕ) → Known (letters_in text) any → accepts B (columns (letters_in text) any) ≡ book_allows text any) → size machine ≤ m
  -- "Every accepted book with the same letters that allows the same plans, whatever its lent buffers held, gives this very card, byte for byte."
  pub same : (text' lent' : List ℕ) (room' : ℕ) (c' : List ℕ) (peak' : ℕ) → outcome narrow documented text' lent' room' ≡ Outcome.card c' peak'
      → letters_in text ≡ letters_in text' → ((any : List ℕ) → Known (letters_in text) any → book_allows text any ≡ book_allows text' any) → c ≡ c'
  -- and so for every other plan by this card
  pub every : Demand3 narrow (letters_in text) (book_allows text) c

-- What is promised of every text, plan and lent buffer.
pub record Delivers (text plan lent old new : List ℕ) (r : Result Delivered Refusal) : Type 0 where
  -- "A book is accepted when the table names no refusal for compiling it with the buffers lent"
  pub accepted : (c : List ℕ) (peak : ℕ) → outcome narrow documented text lent (length old) ≡ Outcome.card c peak → Accepted text plan c peak old new r
  -- "A book's refusal returns the number, its line .., and the card buffer unchanged"
  pub refusal : (number line : ℕ) → outcome narrow documented text lent (length old) ≡ stop number line → (delivery r ≡ refused number line) × (new ≡ old)
