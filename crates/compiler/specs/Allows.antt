-- What a book allows: the rules of its lines, each with the names defined above it, and the plans that all of them allow. What an expression and a rule
-- mean is in the crate `language` (Matches.antt). A plan is written by the columns of its letters.
use Rattle.std.specs.Prelude.{ℕ, ◌&&◌, List, [], ◌∷◌, length}
use Rattle.language.specs.Language.{Language, all_words}
use Rattle.language.specs.Matches.{matches, Rule, contexts_in, obeys}
use Rattle.book.specs.Text.{Line, lines_of, letters_of, Form, define, rule, malformed, form_of}

-- the rules of the lines, each with the names above it
abbrev pub on_form : List ℕ → List (ℕ × Language) → Form → (List (ℕ × Language) → List Rule) → List Rule
on_form ls env (define x e) rest = rest ((x, matches ls env e) ∷ env)
on_form ls env (rule kind p cs) rest = record { kind = kind; pattern = matches ls env p; contexts = contexts_in ls env cs } ∷ rest env
on_form ls env malformed rest = rest env

abbrev pub rules_of : List Line → List ℕ → List (ℕ × Language) → List Rule
rules_of [] ls env = []
rules_of (l ∷ rest) ls env = on_form ls env (form_of l.bytes) (λ env₁. rules_of rest ls env₁)

-- "Its letters are those of line 1"; its rules stand in the later lines.
abbrev pub book_letters : List Line → List ℕ
book_letters [] = []
book_letters (l ∷ rest) = letters_of l

abbrev pub book_rules : List Line → List Rule
book_rules [] = []
book_rules (l ∷ rest) = rules_of rest (letters_of l) []

-- "A book allows those plans of its own letters that all its rules allow."
abbrev pub allows_lines : List Line → Language
allows_lines lines w = all_words (length (book_letters lines)) w && obeys (book_rules lines) w

abbrev pub allows : List ℕ → Language
allows text = allows_lines (lines_of text)
