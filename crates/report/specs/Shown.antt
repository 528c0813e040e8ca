-- What is written for an answer: "writes the card, or the line `refused N line L`, to standard output".
use Rattle.std.specs.Prelude.{◌≡◌, List, [], ◌∷◌, ◌++◌, ℕ, ◌≤◌, Result, Ok, Err, length, take}
use Rattle.compiler.specs.declared.Compiled.{Compiled}
use Rattle.compiler.specs.Refusals.{refused_number, refused_line}
use Rattle.compiler.specs.declared.Refusal.{Refusal}
use Rattle.stream.specs.Text.{decimal}

-- "refused ", " line " and the line end
abbrev pub refused_word : List ℕ
refused_word = 114 ∷ 101 ∷ 102 ∷ 117 ∷ 115 ∷ 101 ∷ 100 ∷ 32 ∷ []

abbrev pub line_word : List ℕ
line_word = 32 ∷ 108 ∷ 105 ∷ 110 ∷ 101 ∷ 32 ∷ []

abbrev pub newline : List ℕ
newline = 10 ∷ []

abbrev pub refusal_line : ℕ → ℕ → List ℕ
refusal_line number line = (((refused_word ++ decimal number) ++ line_word) ++ decimal line) ++ newline

-- no refusal's line is longer
abbrev pub longest : ℕ
longest = 64

-- the card, which is the buffer's first bytes, or the refusal's line
abbrev pub shown : Result Compiled Refusal → List ℕ → List ℕ
shown (Ok c) card = take c.length card
shown (Err r) card = refusal_line (refused_number r) (refused_line r)

pub record Shows (a : Result Compiled Refusal) (card out : List ℕ) (r : ℕ) : Type 0 where
  pub within : r ≤ length out
  pub is : take r out ≡ shown a card
