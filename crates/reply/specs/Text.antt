-- An answer as a line of text: "`allowed`, `unfinished`, `hopeless K` or `refused N`, one a line"; "the program prints `unfinished K`".
use Rattle.std.specs.Prelude.{Result, List, [], ◌∷◌, ◌++◌, ℕ, ◌+◌, ◌≤◌, length}
use Rattle.stream.specs.Text.{Put, decimal}
use Rattle.automata.specs.Format.{narrow}
use Rattle.card.specs.Verdict.{Verdict, allowed, unfinished, hopeless}
use Rattle.card.specs.Reply.{Reply, answered, refused}
use Rattle.card.specs.Judge.{judge}
use Rattle.run.specs.declared.Verdict.{Verdict as Verdict'}
use Rattle.board.specs.declared.refusals.Refusal.{Refusal}
use Rattle.board.specs.Answers.{reply_of}

-- "unfinished ", "hopeless ", "refused " and the line end
abbrev pub unfinished_word : List ℕ
unfinished_word = 117 ∷ 110 ∷ 102 ∷ 105 ∷ 110 ∷ 105 ∷ 115 ∷ 104 ∷ 101 ∷ 100 ∷ 32 ∷ []

abbrev pub hopeless_word : List ℕ
hopeless_word = 104 ∷ 111 ∷ 112 ∷ 101 ∷ 108 ∷ 101 ∷ 115 ∷ 115 ∷ 32 ∷ []

abbrev pub refused_word : List ℕ
refused_word = 114 ∷ 101 ∷ 102 ∷ 117 ∷ 115 ∷ 101 ∷ 100 ∷ 32 ∷ []

abbrev pub newline : List ℕ
newline = 10 ∷ []

-- a word, a number, the line's end
abbrev pub numbered : List ℕ → ℕ → List ℕ
numbered word k = (word ++ decimal k) ++ newline

-- The line of each answer.
abbrev pub reply_line : Reply Verdict → List ℕ
reply_line (answered allowed) = 97 ∷ 108 ∷ 108 ∷ 111 ∷ 119 ∷ 101 ∷ 100 ∷ 10 ∷ []
reply_line (answered (unfinished k)) = numbered unfinished_word k
reply_line (answered (hopeless k)) = numbered hopeless_word k
reply_line (refused number before) = numbered refused_word number

-- The lines of the answers to plans, each that of judging it.
abbrev pub reply_lines : List ℕ → List (List ℕ) → List ℕ
reply_lines c [] = []
reply_lines c (p ∷ ps) = reply_line (judge narrow c p) ++ reply_lines c ps

-- no line of a 64-bit number is longer
abbrev pub longest : ℕ
longest = 32

-- The word, the number and the line's end stand behind what was there: 20 digits at most.
pub record PutNumbered (out : List ℕ) (at : ℕ) (word : List ℕ) (k : ℕ) (out' : List ℕ) (r : ℕ) : Type 0 where
  pub most : r ≤ at + (length word + 21)
  pub put : Put out at (numbered word k) out' r

-- The answer's line stands behind what was there.
pub record PutLine (out : List ℕ) (at : ℕ) (a : Result Verdict' Refusal) (out' : List ℕ) (r : ℕ) : Type 0 where
  pub most : r ≤ at + longest
  pub put : Put out at (reply_line (reply_of a)) out' r
