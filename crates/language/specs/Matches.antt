-- What expressions, rules and books mean: sets of plans. A plan is written by the columns of its letters.
use Rattle.std.specs.Prelude.{ℕ, true, ◌&&◌, List, [], ◌∷◌, length}
use Rattle.language.specs.Cuts.{Word}
use Rattle.language.specs.Language.{Language, empty_word, single, any_symbol, all_words, concatenation, union, difference, star as star_of}
use Rattle.language.specs.Restriction.{RuleKind, Context, demands, Demands}
use Rattle.language.specs.StageLaws.{combined}
use Rattle.language.specs.Expression.{Expr, letter, name, dot, empty, pair, join, star, plus, option, complement}
use Rattle.language.specs.Environment.{lookup}
use Rattle.language.specs.Evaluate.{column}

-- "Expressions mean sets of plans." Over the letters of line 1, with what the names above mean.
abbrev pub matches : List ℕ → List (ℕ × Language) → Expr → Language
matches ls env (letter b) = single (column ls b)
matches ls env (name b) = lookup b empty_word env
matches ls env dot = any_symbol (length ls)
matches ls env empty = empty_word
matches ls env (pair o e f) = combined o (matches ls env e) (matches ls env f)
matches ls env (join e f) = concatenation (matches ls env e) (matches ls env f)
matches ls env (star e) = star_of (matches ls env e)
matches ls env (plus e) = concatenation (matches ls env e) (star_of (matches ls env e))  -- "`A+` is A then `A*`"
matches ls env (option e) = union empty_word (matches ls env e)  -- "`A?` is `@|A`"
matches ls env (complement e) = difference (all_words (length ls)) (matches ls env e)  -- "`!A` is `.*-A`"

-- "A rule has a pattern p and 0 to 4 contexts (l, r)."
pub record Rule : Type 0 where
  pub kind : RuleKind
  pub pattern : Language
  pub contexts : List Context

abbrev pub contexts_in : List ℕ → List (ℕ × Language) → List (Expr × Expr) → List Context
contexts_in ls env [] = []
contexts_in ls env (c ∷ cs) = (matches ls env c.0, matches ls env c.1) ∷ contexts_in ls env cs

-- all the rules allow w
abbrev pub obeys : List Rule → Language
obeys [] w = true
obeys (r ∷ rs) w = demands r.kind r.pattern r.contexts w && obeys rs w

-- ---- the same in words

-- Of every rule what its kind demands of every cut.
abbrev pub Obeys : List Rule → Word → Type 0
Obeys [] w = Unit {0}
Obeys (r ∷ rs) w = Demands r.kind r.pattern r.contexts w × Obeys rs w
