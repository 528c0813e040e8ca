-- A book, compiled: the kept machine with the counts of its stages, or the first refusal with its line. "1 and 2 come first; then line by line 3 to 9, stages in their
-- order, 8 before 9 in one stage; then .. 11." (1, 2 and 11 stand in Outcome; "10 occurs no longer".)
use Rattle.std.specs.Prelude.{ℕ, suc, List, [], ◌∷◌, ◌++◌, length}
use Rattle.automata.specs.Format.{Format}
use Rattle.automata.specs.Machine.{Machine}
use Rattle.automata.specs.Stage.{Made, made, refused, then_made}
use Rattle.automata.specs.Given.{all_machine}
use Rattle.automata.specs.Stages.{both, pair_stage}
use Rattle.language.specs.Environment.{names_of}
use Rattle.language.specs.Evaluate.{evaluate, evaluate_rule}
use Rattle.book.specs.Line.{HeadRead, letters, read_head, LineRead, reads, stops, read_line}
use Rattle.book.specs.Text.{Line, lines_of, Form, define, rule, malformed}

-- A book in the making: the machines of its names, the counts of its stages so far, and the machine that is kept.
pub record Draft : Type 0 where
  pub env : List (ℕ × Machine)
  pub counts : List ℕ
  pub kept : Machine

pub data LineResult : Type 0 where
  on : Draft → LineResult
  off : ℕ → LineResult

abbrev pub on_made : Made → (List ℕ → Machine → LineResult) → LineResult
on_made (made counts M) f = f counts M
on_made (refused r) f = off r

-- 8, 9 of the line's stages. "The book starts as `.*` and is met by `&` with each rule in turn."
unfoldable pub compile_form : Format → List ℕ → Draft → Form → LineResult
compile_form fmt ls d malformed = off 5
compile_form fmt ls d (define x e) =
    on_made (evaluate fmt ls d.env e) λ counts M.
    on (record { env = (x, M) ∷ d.env; counts = d.counts ++ counts; kept = d.kept })
compile_form fmt ls d (rule kind p cs) =
    on_made (then_made (evaluate_rule fmt ls d.env kind p cs) λ R. pair_stage fmt (suc (length ls)) both d.kept R) λ counts M.
    on (record { env = d.env; counts = d.counts ++ counts; kept = M })

abbrev pub after_read : LineRead → (Form → LineResult) → LineResult
after_read (reads F) f = f F
after_read (stops r) f = off r

-- "line by line 3 to 9": a line is read whole before its stages are made
unfoldable pub compile_line : Format → List ℕ → Draft → Line → LineResult
compile_line fmt ls d l = after_read (read_line ls (names_of d.env) l) (compile_form fmt ls d)

-- The letters with the finished draft, or a refusal with its line.
pub data BookResult : Type 0 where
  done : List ℕ → Draft → BookResult
  stopped : ℕ → ℕ → BookResult

abbrev pub after_line : LineResult → (Draft → BookResult) → (ℕ → BookResult) → BookResult
after_line (on d) f g = f d
after_line (off r) f g = g r

-- the lines from line `at` on; "a book of line 1 and definitions only now gives the card that allows everything"
unfoldable pub compile_lines : Format → List ℕ → List Line → ℕ → Draft → BookResult
compile_lines fmt ls [] at d = done ls d
compile_lines fmt ls (l ∷ rest) at d = after_line (compile_line fmt ls d l) (λ d₁. compile_lines fmt ls rest (suc at) d₁) (λ r. stopped r at)

abbrev pub start_draft : ℕ → Draft
start_draft m = record { env = []; counts = []; kept = all_machine m }

abbrev pub after_head : HeadRead → (List ℕ → BookResult) → BookResult
after_head (letters ls) f = f ls
after_head (Rattle.book.specs.Line.HeadRead.stops r) f = stopped r 1

unfoldable pub compile_head : Format → Line → List Line → BookResult
compile_head fmt l rest = after_head (read_head fmt l) (λ ls. compile_lines fmt ls rest 2 (start_draft (length ls)))

-- "A text of no bytes gives the card with m = 0, one state, marks 01, no moves, with peak 0": there are no letters, and `.*` is kept.
unfoldable pub compile_text : Format → List Line → BookResult
compile_text fmt [] = done [] (start_draft 0)
compile_text fmt (l ∷ rest) = compile_head fmt l rest

-- A text of any length (1 is tested before, by `outcome`).
unfoldable pub compile_book : Format → List ℕ → BookResult
compile_book fmt text = compile_text fmt (lines_of text)
