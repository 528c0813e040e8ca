-- What holds of every machine that is there already and of every stage, and of stages in a row where it holds of each, holds of what an expression and
-- a rule make.
use Rattle.std.specs.Prelude.{ℕ, List, [], ◌∷◌, length}
use Rattle.automata.specs.Format.{Format}
use Rattle.automata.specs.Automaton.{Automaton}
use Rattle.automata.specs.Machine.{Machine}
use Rattle.automata.specs.Stage.{Made, made, refused, after, present, StageResult}
use Rattle.automata.specs.Exactly.{Then, goes, fails, Given, given}
use Rattle.automata.specs.Given.{all_machine}
use Rattle.automata.specs.Stages.{Pairing, either, without}
use Rattle.language.specs.Restriction.{RuleKind, restricts, forbids, obliges}
use Rattle.language.specs.Expression.{Expr, letter, name, dot, empty, pair, join, star, plus, option, complement}
use Rattle.language.specs.Evaluate.{pattern_of}
use Rattle.language.specs.Makes.{Makes, MakesMarked, MakesContext, MakesContexts, MakesUnion, MakesSet, MakesRule}

-- A property of answers that goes by stages.
pub record Stagewise (fmt : Format) (Holds : Made → Type 0) : Type 1 where
  pub here : (M : Machine) → Holds (present M)
  pub staged : {S : Type 0} (k : ℕ) (A : Automaton S) (r : Made) → StageResult fmt k A r → Holds r
  pub behind : (counts : List ℕ) (M : Machine) (r : Made) → Holds (made counts M) → Holds r → Holds (after counts r)

module _ (fmt : Format) (Holds : Made → Type 0) (W : Stagewise fmt Holds) where
  given_holds : (M : Machine) (r : Made) → Given M r → Holds r
  given_holds M r given = W.here M

  pub then_holds : (P : Made → Type 0) (Q : Machine → Made → Type 0) → ((r : Made) → P r → Holds r) → ((M : Machine) (r : Made) → Q M r → Holds r) → (r : Made) → Then P Q r → Holds r
  then_holds P Q p q r (goes counts M s a b) = W.behind counts M s (p (made counts M) a) (q M s b)
  then_holds P Q p q r (fails n a) = p (refused n) a

  module _ (ls : List ℕ) (env : List (ℕ × Machine)) where
    pub expression_holds : (e : Expr) (r : Made) → Makes fmt ls env e r → Holds r
    expression_holds (letter b) = given_holds _
    expression_holds (name b) = given_holds _
    expression_holds dot = given_holds _
    expression_holds empty = given_holds _
    expression_holds (pair o e f) = then_holds _ _ (expression_holds e) λ A. then_holds _ _ (expression_holds f) λ B. W.staged _ _
    expression_holds (join e f) = then_holds _ _ (expression_holds e) λ A. then_holds _ _ (expression_holds f) λ B. W.staged _ _
    expression_holds (star e) = then_holds _ _ (expression_holds e) λ A. W.staged _ _
    expression_holds (plus e) = then_holds _ _ (expression_holds e) λ A. then_holds _ _ (W.staged _ _) λ B. W.staged _ _
    expression_holds (option e) = then_holds _ _ (expression_holds e) λ A. W.staged _ _
    expression_holds (complement e) = then_holds _ _ (expression_holds e) λ A. W.staged _ _

    marked_holds : (L P R : Machine) (r : Made) → MakesMarked fmt ls env L P R r → Holds r
    marked_holds L P R =
        then_holds _ _ (W.staged _ _) λ A.
        then_holds _ _ (W.staged _ _) λ B.
        then_holds _ _ (W.staged _ _) λ C.
        W.staged _ _

    context_holds : (P : Machine) (c : Expr × Expr) (r : Made) → MakesContext fmt ls env P c r → Holds r
    context_holds P c = then_holds _ _ (expression_holds c.0) λ L. then_holds _ _ (expression_holds c.1) λ R. marked_holds L P R

    contexts_hold : (o : Pairing) (P : Machine) (cs : List (Expr × Expr)) (X : Machine) (r : Made) → MakesContexts fmt ls env o P cs X r → Holds r
    contexts_hold o P [] X = given_holds X
    contexts_hold o P (c ∷ cs) X = then_holds _ _ (context_holds P c) λ C. then_holds _ _ (W.staged _ _) λ Y. contexts_hold o P cs Y

    union_holds : (P : Machine) (cs : List (Expr × Expr)) (r : Made) → MakesUnion fmt ls env P cs r → Holds r
    union_holds P [] = λ r m. absurd m
    union_holds P (c ∷ cs) = then_holds _ _ (context_holds P c) λ X. contexts_hold either P cs X

    set_holds : (kind : RuleKind) (P : Machine) (cs : List (Expr × Expr)) (r : Made) → MakesSet fmt ls env kind P cs r → Holds r
    set_holds restricts P cs = then_holds _ _ (marked_holds (all_machine (length ls)) P (all_machine (length ls))) λ X. contexts_hold without P cs X
    set_holds forbids P cs = union_holds P cs
    set_holds obliges P cs = union_holds P cs

    pub rule_holds : (kind : RuleKind) (p : Expr) (cs : List (Expr × Expr)) (r : Made) → MakesRule fmt ls env kind p cs r → Holds r
    rule_holds kind p cs =
        then_holds _ _ (expression_holds (pattern_of kind p)) λ P.
        then_holds _ _ (set_holds kind P cs) λ X.
        then_holds _ _ (W.staged _ _) λ E.
        W.staged _ _
