-- Judging one plan after another, each in pieces, on a card that was tested once: the answer is that of judging the whole plan.
use Rattle.std.specs.Prelude.{◌≡◌, Result, Ok, Err, List, ◌++◌, ℕ}
use Rattle.automata.specs.Format.{narrow}
use Rattle.card.specs.Layout.{state_count, letters_of}
use Rattle.card.specs.Load.{load_test}
use Rattle.card.specs.Answer.{rejected, load}
use Rattle.card.specs.Judge.{judge}
use Rattle.loading.specs.declared.Fault.{Fault}
use Rattle.loading.specs.Faults.{fault_number}
use Rattle.run.specs.declared.Run.{Run}
use Rattle.run.specs.declared.Verdict.{Verdict}
use Rattle.run.specs.declared.loaded.Card.{Card}
use Rattle.run.specs.declared.judge.Judge.{Judge}
use Rattle.board.specs.declared.refusals.Refusal.{Refusal}
use Rattle.board.specs.Answers.{reply_of}
use Rattle.run.specs.Cards.{bytes_of}
use Rattle.run.specs.Walk.{Underway, ColumnTable, OwedTable}
use Rattle.run.specs.Pieces.{After}

-- The card was tested: it is refused, or this is its value.
pub record Loads (c : List ℕ) (r : Result Card Fault) : Type 0 where
  pub refused : (fault : Fault) → r ≡ Err fault → rejected (fault_number fault) ≡ load narrow c
  pub accepted : (card : Card) → r ≡ Ok card → bytes_of card ≡ c

-- The card was tested: it is refused, or these are its tables.
pub record Tests (c : List ℕ) (r : Result Judge Fault) : Type 0 where
  pub refused : (fault : Fault) → r ≡ Err fault → rejected (fault_number fault) ≡ load narrow c
  pub accepted : (j : Judge) → r ≡ Ok j → bytes_of j.walker.card ≡ c

-- Where the card loads, the table has its columns.
pub record Columns (c t : List ℕ) : Type 0 where
  pub table : load_test narrow c ≡ 0 → ColumnTable (letters_of narrow c) t

-- Where the card loads, the table has the letters owed from each of its states.
pub record Owed (c t : List ℕ) : Type 0 where
  pub table : load_test narrow c ≡ 0 → OwedTable c (state_count narrow c) t

-- Where the card loads, the run goes on.
pub record Goes (c : List ℕ) (r : Run) : Type 0 where
  pub underway : load_test narrow c ≡ 0 → Underway c (state_count narrow c) r

-- Of the plan the letters u have come.
pub record Judges (c u : List ℕ) (r : Run) : Type 0 where
  pub after : load_test narrow c ≡ 0 → After c (state_count narrow c) u r

-- One piece more.
pub record More (c : List ℕ) (r : Run) (piece : List ℕ) (s : Run) : Type 0 where
  pub goes : Goes c s
  pub judges : (u : List ℕ) → Judges c u r → Judges c (u ++ piece) s

-- The answer is that of judging the letters that have come.
pub record Answers (c : List ℕ) (r : Run) (a : Result Verdict Refusal) : Type 0 where
  pub is : (u : List ℕ) → Judges c u r → reply_of a ≡ judge narrow c u
