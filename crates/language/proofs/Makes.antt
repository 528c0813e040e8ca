-- Laws of what specs/Makes.antt defines.
use Rattle.std.specs.Prelude.{ℕ, suc, length}
use mathlib.Core.List.{List, [], ◌∷◌}
use Rattle.automata.specs.Format.{Format}
use Rattle.automata.specs.Flags.{flags_test}
use Rattle.automata.specs.Machine.{Machine}
use Rattle.automata.specs.Subset.{subset}
use Rattle.automata.specs.Operations.{product, pair_test, concat_NFA, star_NFA, erase_NFA}
use Rattle.automata.specs.Exactly.{Exactly}
use Rattle.automata.proofs.Exactly.{given_exactly, stage_exactly, then_exactly}
use Rattle.automata.specs.Given.{empty_machine, all_machine, mark_machine}
use Rattle.automata.specs.Stages.{Pairing, either, without, combine, pair_stage, concat_stage, star_stage, erase_stage}
use Rattle.language.specs.Expression.{Expr, letter, name, dot, empty, pair, join, star, plus, option, complement}
use Rattle.language.specs.Restriction.{RuleKind, restricts, forbids, obliges, Some, Enough}
use Rattle.language.specs.Evaluate.{evaluate, marked_stages, context_stages, contexts_by, union_contexts, marked_of, pattern_of, erase_and_exclude, evaluate_rule}
use Rattle.language.specs.Makes.{Erasing, Joins, Makes, MakesContext, MakesContexts, MakesMarked, MakesRule, MakesSet, MakesUnion, Pairs, Stars}

module _ (fmt : Format) (ls : List ℕ) (env : List (ℕ × Machine)) where
  abbrev k : ℕ
  k = suc (length ls)

-- ---- the computed answers are exactly these

module _ (fmt : Format) (k : ℕ) where
  pub pairs_exactly : (o : Pairing) (A B : Machine) → Exactly (Pairs fmt k o A B) (pair_stage fmt k o A B)
  unfolding pair_stage
  pairs_exactly o A B = stage_exactly pair_test fmt k (product (combine o) A B)

  pub joins_exactly : (A B : Machine) → Exactly (Joins fmt k A B) (concat_stage fmt k A B)
  unfolding concat_stage
  joins_exactly A B = stage_exactly flags_test fmt k (subset (concat_NFA A B))

  pub stars_exactly : (A : Machine) → Exactly (Stars fmt k A) (star_stage fmt k A)
  unfolding star_stage
  stars_exactly A = stage_exactly flags_test fmt k (subset (star_NFA A))

pub erasing_exactly : (fmt : Format) (m : ℕ) (U : Machine) → Exactly (Erasing fmt m U) (erase_stage fmt m U)
unfolding erase_stage
erasing_exactly fmt m U = stage_exactly flags_test fmt (suc m) (subset (erase_NFA m U))

module _ (fmt : Format) (ls : List ℕ) (env : List (ℕ × Machine)) where
  abbrev c : ℕ
  c = suc (length ls)

  pub makes_exactly : (e : Expr) → Exactly (Makes fmt ls env e) (evaluate fmt ls env e)
  unfolding evaluate
  makes_exactly (letter b) = given_exactly _
  makes_exactly (name b) = given_exactly _
  makes_exactly dot = given_exactly _
  makes_exactly empty = given_exactly _
  makes_exactly (pair o e f) = then_exactly _ _ _ _ (makes_exactly e) λ A. then_exactly _ _ _ _ (makes_exactly f) λ B. pairs_exactly fmt c o A B
  makes_exactly (join e f) = then_exactly _ _ _ _ (makes_exactly e) λ A. then_exactly _ _ _ _ (makes_exactly f) λ B. joins_exactly fmt c A B
  makes_exactly (star e) = then_exactly _ _ _ _ (makes_exactly e) λ A. stars_exactly fmt c A
  makes_exactly (plus e) = then_exactly _ _ _ _ (makes_exactly e) λ A. then_exactly _ _ _ _ (stars_exactly fmt c A) λ B. joins_exactly fmt c A B
  makes_exactly (option e) = then_exactly _ _ _ _ (makes_exactly e) λ A. pairs_exactly fmt c either (empty_machine (length ls)) A
  makes_exactly (complement e) = then_exactly _ _ _ _ (makes_exactly e) λ A. pairs_exactly fmt c without (all_machine (length ls)) A

  marked_exactly : (L P R : Machine) → Exactly (MakesMarked fmt ls env L P R) (marked_stages fmt (length ls) L P R)
  unfolding marked_stages
  marked_exactly L P R =
      then_exactly _ _ _ _ (joins_exactly fmt c L (mark_machine (length ls))) λ A.
      then_exactly _ _ _ _ (joins_exactly fmt c A P) λ B.
      then_exactly _ _ _ _ (joins_exactly fmt c B (mark_machine (length ls))) λ C.
      joins_exactly fmt c C R

  context_exactly : (P : Machine) (d : Expr × Expr) → Exactly (MakesContext fmt ls env P d) (context_stages fmt ls env P d)
  unfolding context_stages
  context_exactly P d = then_exactly _ _ _ _ (makes_exactly d.0) λ L. then_exactly _ _ _ _ (makes_exactly d.1) λ R. marked_exactly L P R

  contexts_exactly : (o : Pairing) (P : Machine) (cs : List (Expr × Expr)) (X : Machine) → Exactly (MakesContexts fmt ls env o P cs X) (contexts_by fmt ls env o P cs X)
  unfolding contexts_by
  contexts_exactly o P [] X = given_exactly X
  contexts_exactly o P (d ∷ cs) X =
      then_exactly _ _ _ _ (context_exactly P d) λ C.
      then_exactly _ _ _ _ (pairs_exactly fmt c o X C) λ Y.
      contexts_exactly o P cs Y

  union_exactly : (P : Machine) (cs : List (Expr × Expr)) → Some cs → Exactly (MakesUnion fmt ls env P cs) (union_contexts fmt ls env P cs)
  unfolding union_contexts
  union_exactly P [] h = absurd h
  union_exactly P (d ∷ cs) h = then_exactly _ _ _ _ (context_exactly P d) λ X. contexts_exactly either P cs X

  set_exactly : (kind : RuleKind) (P : Machine) (cs : List (Expr × Expr)) → Enough kind cs → Exactly (MakesSet fmt ls env kind P cs) (marked_of fmt ls env kind P cs)
  unfolding marked_of
  set_exactly restricts P cs h = then_exactly _ _ _ _ (marked_exactly (all_machine (length ls)) P (all_machine (length ls))) λ X. contexts_exactly without P cs X
  set_exactly forbids P cs h = union_exactly P cs h
  set_exactly obliges P cs h = union_exactly P cs h

  pub rule_exactly : (kind : RuleKind) (p : Expr) (cs : List (Expr × Expr)) → Enough kind cs → Exactly (MakesRule fmt ls env kind p cs) (evaluate_rule fmt ls env kind p cs)
  unfolding evaluate_rule erase_and_exclude
  rule_exactly kind p cs h =
      then_exactly _ _ _ _ (makes_exactly (pattern_of kind p)) λ P.
      then_exactly _ _ _ _ (set_exactly kind P cs h) λ Y.
      then_exactly _ _ _ _ (erasing_exactly fmt (length ls) Y) λ E.
      pairs_exactly fmt c without (all_machine (length ls)) E
