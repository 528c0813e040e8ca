-- Compiled books are right: the kept machine of an accepted book is canonical, accepts exactly the plans of letters that the book allows, and no word
-- that has a mark.
use Rattle.std.specs.Prelude.{◌≡◌, List, [], ◌∷◌, ℕ}
use Rattle.automata.specs.Format.{Format}
use Rattle.language.specs.Language.{Language}
use Rattle.language.specs.ExpressionLaws.{Right, EnvRight}
use Rattle.book.specs.HeadLaws.{Letters}
use Rattle.book.specs.Text.{Line}
use Rattle.compiler.specs.Book.{Draft, BookResult, done, stopped}

-- what holds of an accepted book's letters and draft
abbrev pub Accepts : (List ℕ → Draft → Type 0) → BookResult → Type 0
Accepts P (done ls d) = P ls d
Accepts P (stopped r l) = Unit {0}

-- The machines of the names are right for the languages of the names, and the kept machine for K.
pub record DraftRight (m : ℕ) (d : Draft) (ys : List (ℕ × Language)) (K : Language) : Type 0 where
  pub env : EnvRight m d.env ys
  pub kept : Right m d.kept K

-- "1 to 26 letters, strictly rising", or none where the text has no bytes
abbrev pub LettersOf : Format → List Line → List ℕ → Type 0
LettersOf fmt [] ls = ls ≡ []
LettersOf fmt (l ∷ rest) ls = Letters fmt ls
