-- The stages of a book: its operations, each with the machines that it is made of, in the order of the lines and of the "Stages" of 01 and of W4. No limit stands
-- here: which sets a stage reaches and which machine it keeps is a matter of its operands alone.
use Rattle.std.specs.Prelude.{ℕ, suc, ◌≤◌, ◌≡◌, ◌⊎◌, List, [], ◌∷◌, length}
use Rattle.automata.specs.Machine.{Machine}
use Rattle.automata.specs.Subset.{subset}
use Rattle.automata.specs.Operations.{product, concat_NFA, star_NFA, erase_NFA}
use Rattle.automata.specs.Stage.{Counts, Smallest}
use Rattle.automata.specs.Given.{letter_machine, dot_machine, empty_machine, all_machine, mark_machine}
use Rattle.automata.specs.Stages.{Pairing, either, both, without, combine}
use Rattle.language.specs.Restriction.{RuleKind, restricts, forbids, obliges}
use Rattle.language.specs.Expression.{Expr, letter, name, dot, empty, pair, join, star, plus, option, complement}
use Rattle.language.specs.Environment.{lookup}
use Rattle.language.specs.Evaluate.{column, pattern_of}
use Rattle.book.specs.Text.{Line, lines_of, letters_of, Form, define, rule, malformed, form_of}
use Rattle.compiler.specs.Allows.{book_letters}

-- "Each operation is a stage": the operation and its operands.
pub data Stage : Type 0 where
  pairs : Pairing → Machine → Machine → Stage
  joins : Machine → Machine → Stage
  stars : Machine → Stage
  erases : Machine → Stage

-- Over m letters the stage has n reachable sets: from its start, by the letters and the mark.
abbrev pub Reaches : ℕ → Stage → ℕ → Type 0
Reaches m (pairs o A B) n = Counts (suc m) (product (combine o) A B) n
Reaches m (joins A B) n = Counts (suc m) (subset (concat_NFA A B)) n
Reaches m (stars A) n = Counts (suc m) (subset (star_NFA A)) n
Reaches m (erases U) n = Counts (suc m) (subset (erase_NFA m U)) n

-- "then the smallest machine", which is kept
abbrev pub Leaves : ℕ → Stage → Machine → Type 0
Leaves m (pairs o A B) M = Smallest (suc m) (product (combine o) A B) M
Leaves m (joins A B) M = Smallest (suc m) (subset (concat_NFA A B)) M
Leaves m (stars A) M = Smallest (suc m) (subset (star_NFA A)) M
Leaves m (erases U) M = Smallest (suc m) (subset (erase_NFA m U)) M

-- Stages in a row, each made of what those before it kept, and the machine at the end.
pub data Row : Type 0 where
  gives : Machine → Row
  makes : Stage → (Machine → Row) → Row

-- a row, and behind it one on the machine that it gives
abbrev pub and_then : Row → (Machine → Row) → Row
and_then (gives M) f = f M
and_then (makes s g) f = makes s (λ M. and_then (g M) f)

-- A stage stands in a row: it is the first, or one of those behind the first with what the first keeps.
pub data StageIn (m : ℕ) : Row → Stage → Type 0 where
  first : (s : Stage) (f : Machine → Row) → StageIn m (makes s f) s
  later : (s t : Stage) (f : Machine → Row) (M : Machine) → Leaves m s M → StageIn m (f M) t → StageIn m (makes s f) t

-- ---- a line's stages

-- "Operands are made left before right, then their operation."
abbrev pub expression_stages : List ℕ → List (ℕ × Machine) → Expr → Row
expression_stages ls env (letter b) = gives (letter_machine (length ls) (column ls b))
expression_stages ls env (name b) = gives (lookup b (empty_machine (length ls)) env)
expression_stages ls env dot = gives (dot_machine (length ls))
expression_stages ls env empty = gives (empty_machine (length ls))
expression_stages ls env (pair o e f) = and_then (expression_stages ls env e) λ A. and_then (expression_stages ls env f) λ B. makes (pairs o A B) gives
expression_stages ls env (join e f) = and_then (expression_stages ls env e) λ A. and_then (expression_stages ls env f) λ B. makes (joins A B) gives
expression_stages ls env (star e) = and_then (expression_stages ls env e) λ A. makes (stars A) gives
expression_stages ls env (plus e) = and_then (expression_stages ls env e) λ A. makes (stars A) λ B. makes (joins A B) gives
expression_stages ls env (option e) = and_then (expression_stages ls env e) λ A. makes (pairs either (empty_machine (length ls)) A) gives
expression_stages ls env (complement e) = and_then (expression_stages ls env e) λ A. makes (pairs without (all_machine (length ls)) A) gives

-- L M P M R, "joined left to right"
abbrev pub marked_stages : ℕ → Machine → Machine → Machine → Row
marked_stages m L P R = makes (joins L (mark_machine m)) λ A. makes (joins A P) λ B. makes (joins B (mark_machine m)) λ C. makes (joins C R) gives

-- One context: "l, r, then l M p M r joined left to right".
abbrev pub context_stages : List ℕ → List (ℕ × Machine) → Machine → Expr × Expr → Row
context_stages ls env P c =
    and_then (expression_stages ls env c.0) λ L.
    and_then (expression_stages ls env c.1) λ R.
    marked_stages (length ls) L P R

-- "then X becomes X minus it"; for `<` and `^` "`|` of those so far with it"
abbrev pub contexts_stages : List ℕ → List (ℕ × Machine) → Pairing → Machine → List (Expr × Expr) → Machine → Row
contexts_stages ls env o P [] X = gives X
contexts_stages ls env o P (c ∷ cs) X = and_then (context_stages ls env P c) λ C. makes (pairs o X C) λ Y. contexts_stages ls env o P cs Y

-- "from the second on, `|`". (P is never read: no line is read as such a rule without a context, `contexts_enough`.)
abbrev pub union_stages : List ℕ → List (ℕ × Machine) → Machine → List (Expr × Expr) → Row
union_stages ls env P [] = gives P
union_stages ls env P (c ∷ cs) = and_then (context_stages ls env P c) λ X. contexts_stages ls env either P cs X

-- The marked set that is erased: "X = `.*` M p M `.*`", less the contexts; or the union of the contexts.
abbrev pub set_stages : List ℕ → List (ℕ × Machine) → RuleKind → Machine → List (Expr × Expr) → Row
set_stages ls env restricts P cs =
    and_then (marked_stages (length ls) (all_machine (length ls)) P (all_machine (length ls))) λ X.
    contexts_stages ls env without P cs X
set_stages ls env forbids P cs = union_stages ls env P cs
set_stages ls env obliges P cs = union_stages ls env P cs

-- "For a rule: p; ..; then E = erase X; then `.*-E`." "For `^`: q = `.*-p` first."
abbrev pub rule_stages : List ℕ → List (ℕ × Machine) → RuleKind → Expr → List (Expr × Expr) → Row
rule_stages ls env kind p cs =
    and_then (expression_stages ls env (pattern_of kind p)) λ P.
    and_then (set_stages ls env kind P cs) λ X.
    makes (erases X) λ E.
    makes (pairs without (all_machine (length ls)) E) gives

-- ---- a book's stages

-- The lines in their order, with the names above and the book so far: a definition's stages, or a rule's and then its `&`.
abbrev pub form_stages : List ℕ → List (ℕ × Machine) → Machine → Form → (List (ℕ × Machine) → Machine → Row) → Row
form_stages ls env kept (define x e) rest = and_then (expression_stages ls env e) λ M. rest ((x, M) ∷ env) kept
form_stages ls env kept (rule kind p cs) rest = and_then (and_then (rule_stages ls env kind p cs) λ R. makes (pairs both kept R) gives) λ M. rest env M
form_stages ls env kept malformed rest = rest env kept

abbrev pub line_stages : List Line → List ℕ → List (ℕ × Machine) → Machine → Row
line_stages [] ls env kept = gives kept
line_stages (l ∷ rest) ls env kept = form_stages ls env kept (form_of l.bytes) (λ env₁ kept₁. line_stages rest ls env₁ kept₁)

-- "The book starts as `.*` and is met by `&` with each rule in turn."
abbrev pub book_stages : List Line → Row
book_stages [] = gives (all_machine 0)
book_stages (l ∷ rest) = line_stages rest (letters_of l) [] (all_machine (length (letters_of l)))

-- s is a stage of the book,
abbrev pub StageOf : List ℕ → Stage → Type 0
StageOf text s = StageIn (length (book_letters (lines_of text))) (book_stages (lines_of text)) s

-- and n sets are reachable in it.
abbrev pub ReachableSets : List ℕ → Stage → ℕ → Type 0
ReachableSets text s n = Reaches (length (book_letters (lines_of text))) s n

-- Some stage of the book reaches exactly n sets; or, "0 if they made no set", the book has no stage and n is 0.
abbrev pub Attained : List ℕ → ℕ → Type 0
Attained text n = ((s : Stage) × StageOf text s × ReachableSets text s n) ⊎ (((s : Stage) → ¬ StageOf text s) × (n ≡ 0))

-- "The peak .. is the most sets that one stage of this book made": n is attained,
pub record Peak (text : List ℕ) (n : ℕ) : Type 0 where
  pub reached : Attained text n
  -- and every stage of the book reaches at most n
  pub most : (s : Stage) → StageOf text s → (k : ℕ) × ReachableSets text s k × (k ≤ n)
