-- What the stages of an expression and of a rule make, said of each stage in its order: it reaches more sets than it may (8), or its smallest machine
-- has more states than it may (9), or it keeps the smallest machine and its sets are counted. The first stage that fails gives the number. The
-- computed answer (Evaluate) is exactly that.
use Rattle.std.specs.Prelude.{ℕ, suc, length}
use mathlib.Core.List.{List, [], ◌∷◌}
use Rattle.automata.specs.Format.{Format}
use Rattle.automata.specs.Machine.{Machine}
use Rattle.automata.specs.Subset.{subset}
use Rattle.automata.specs.Operations.{product, concat_NFA, star_NFA, erase_NFA}
use Rattle.automata.specs.Stage.{Made, StageResult}
use Rattle.automata.specs.Exactly.{Then, Given}
use Rattle.automata.specs.Given.{letter_machine, dot_machine, empty_machine, all_machine, mark_machine}
use Rattle.automata.specs.Stages.{Pairing, either, without, combine}
use Rattle.language.specs.Expression.{Expr, letter, name, dot, empty, pair, join, star, plus, option, complement}
use Rattle.language.specs.Environment.{lookup}
use Rattle.language.specs.Restriction.{RuleKind, restricts, forbids, obliges}
use Rattle.language.specs.Evaluate.{column, pattern_of}

module _ (fmt : Format) (k : ℕ) where
  -- "`|`, `&`, `-`: a set is a pair reached from (0, 0)."
  abbrev pub Pairs : Pairing → Machine → Machine → Made → Type 0
  Pairs o A B = StageResult fmt k (product (combine o) A B)

  -- "AB: sets of states of A and B together."
  abbrev pub Joins : Machine → Machine → Made → Type 0
  Joins A B = StageResult fmt k (subset (concat_NFA A B))

  -- "`A*`: states of A and an extra e without moves."
  abbrev pub Stars : Machine → Made → Type 0
  Stars A = StageResult fmt k (subset (star_NFA A))

-- "Erase U": the mark is the column m.
abbrev pub Erasing : Format → ℕ → Machine → Made → Type 0
Erasing fmt m U = StageResult fmt (suc m) (subset (erase_NFA m U))

module _ (fmt : Format) (ls : List ℕ) (env : List (ℕ × Machine)) where
  abbrev k : ℕ
  k = suc (length ls)

  -- "Operands are made left before right, then their operation."
  abbrev pub Makes : Expr → Made → Type 0
  Makes (letter b) = Given (letter_machine (length ls) (column ls b))
  Makes (name b) = Given (lookup b (empty_machine (length ls)) env)
  Makes dot = Given (dot_machine (length ls))
  Makes empty = Given (empty_machine (length ls))
  Makes (pair o e f) = Then (Makes e) λ A. Then (Makes f) λ B. Pairs fmt (suc (length ls)) o A B
  Makes (join e f) = Then (Makes e) λ A. Then (Makes f) λ B. Joins fmt (suc (length ls)) A B
  Makes (star e) = Then (Makes e) λ A. Stars fmt (suc (length ls)) A
  Makes (plus e) = Then (Makes e) λ A. Then (Stars fmt (suc (length ls)) A) λ B. Joins fmt (suc (length ls)) A B
  Makes (option e) = Then (Makes e) λ A. Pairs fmt (suc (length ls)) either (empty_machine (length ls)) A
  Makes (complement e) = Then (Makes e) λ A. Pairs fmt (suc (length ls)) without (all_machine (length ls)) A

  -- L M P M R, "joined left to right"
  abbrev pub MakesMarked : Machine → Machine → Machine → Made → Type 0
  MakesMarked L P R =
      Then (Joins fmt (suc (length ls)) L (mark_machine (length ls))) λ A.
      Then (Joins fmt (suc (length ls)) A P) λ B.
      Then (Joins fmt (suc (length ls)) B (mark_machine (length ls))) λ C.
      Joins fmt (suc (length ls)) C R

  -- One context: "l, r, then l M p M r joined left to right".
  abbrev pub MakesContext : Machine → Expr × Expr → Made → Type 0
  MakesContext P c = Then (Makes c.0) λ L. Then (Makes c.1) λ R. MakesMarked L P R

  -- "then X becomes X minus it"; for `<` and `^` "`|` of those so far with it"
  abbrev pub MakesContexts : Pairing → Machine → List (Expr × Expr) → Machine → Made → Type 0
  MakesContexts o P [] X = Given X
  MakesContexts o P (c ∷ cs) X = Then (MakesContext P c) λ C. Then (Pairs fmt (suc (length ls)) o X C) λ Y. MakesContexts o P cs Y

  -- "from the second on, `|` of those so far with it". (Without a context the line is malformed, and refused before.)
  abbrev pub MakesUnion : Machine → List (Expr × Expr) → Made → Type 0
  MakesUnion P [] = λ r. ⊥
  MakesUnion P (c ∷ cs) = Then (MakesContext P c) λ X. MakesContexts either P cs X

  abbrev pub MakesSet : RuleKind → Machine → List (Expr × Expr) → Made → Type 0
  MakesSet restricts P cs = Then (MakesMarked (all_machine (length ls)) P (all_machine (length ls))) λ X. MakesContexts without P cs X
  MakesSet forbids P cs = MakesUnion P cs
  MakesSet obliges P cs = MakesUnion P cs

  abbrev pub MakesRule : RuleKind → Expr → List (Expr × Expr) → Made → Type 0
  MakesRule kind p cs =
      Then (Makes (pattern_of kind p)) λ P.
      Then (MakesSet kind P cs) λ Y.
      Then (Erasing fmt (length ls) Y) λ E.
      Pairs fmt (suc (length ls)) without (all_machine (length ls)) E
