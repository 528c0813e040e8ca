-- Laws of what specs/RuleLaws.antt defines.
use Rattle.std.proofs.Math.Path.{◌≡◌, refl, ap}
use Rattle.std.proofs.Common.{◌∙◌, arith}
use Rattle.std.specs.Prelude.{Bool, ◌&&◌, ◌||◌, ℕ, suc, length, ◌≢◌}
use Rattle.std.proofs.Math.Bool.{true, false, not}
use mathlib.Core.List.{List, [], ◌∷◌}
use Rattle.automata.specs.Format.{Format}
use Rattle.automata.specs.Booleans.{bool_iff, and_left, and_right, and_both}
use Rattle.automata.specs.Automaton.{Over, accepts}
use Rattle.automata.specs.Machine.{Machine, automaton}
use Rattle.automata.specs.Stage.{Keeps}
use Rattle.automata.proofs.Stage.{then_keeps}
use Rattle.automata.specs.Given.{all_machine, mark_machine}
use Rattle.automata.specs.Stages.{Pairing, either, both, without, combine, pair_stage, concat_stage, erase_stage}
use Rattle.language.specs.Cuts.{Word, any_cut₃, all_cut₃, not_any_cut₃}
use Rattle.language.specs.Language.{Language, single, all_words, all_words_sound, all_words_whole, concatenation, union, difference, intersection, intersection_letters}
use Rattle.language.specs.Restriction.{RuleKind, restricts, forbids, obliges, fits, violates, demands}
use Rattle.language.specs.Marked.{CutTest, Marked, marked_row, marked_row_lem, marked_difference, marked_union, marked_same, erased_cuts}
use Rattle.language.specs.Recognizes.{Recognizes, recognizes_same}
use Rattle.language.specs.GivenLaws.{letter_recognizes, all_recognizes}
use Rattle.language.specs.StageLaws.{pair_stage_lem, concat_stage_lem, Erases, erase_stage_lem}
use Rattle.language.specs.Expression.{Expr}
use Rattle.language.specs.Environment.{known, all_known}
use Rattle.language.specs.Evaluate.{evaluate, marked_stages, context_stages, contexts_by, union_contexts, marked_of, pattern_of, erase_and_exclude, evaluate_rule}
use Rattle.language.specs.Matches.{matches, contexts_in}
use Rattle.language.specs.ExpressionLaws.{Right, EnvRight, keeps_map, expression_right}
use Rattle.language.specs.RuleLaws.{MarkedBy}

module _ (fmt : Format) (m : ℕ) where
  mark : Recognizes (suc m) (mark_machine m) (single m)
  mark = letter_recognizes m m

  -- L M P M R
  pub row_stages : (A P B : Machine) (L K R : Language) → Recognizes (suc m) A L → Recognizes (suc m) P K → Recognizes (suc m) B R
      → Keeps (λ M. Recognizes (suc m) M (marked_row m L K R)) (marked_stages fmt m A P B)
  unfolding marked_stages
  row_stages A P B L K R a p b =
      let goal : Machine → Type 0 = λ M. Recognizes (suc m) M (marked_row m L K R) in
      then_keeps (λ M. Recognizes (suc m) M L₁) goal (concat_stage fmt (suc m) A (mark_machine m)) _ (concat_stage_lem fmt (suc m) A (mark_machine m) L (single m) a mark) λ M₁ r₁.
      then_keeps (λ M. Recognizes (suc m) M L₂) goal (concat_stage fmt (suc m) M₁ P) _ (concat_stage_lem fmt (suc m) M₁ P L₁ K r₁ p) λ M₂ r₂.
      then_keeps (λ M. Recognizes (suc m) M L₃) goal (concat_stage fmt (suc m) M₂ (mark_machine m)) _ (concat_stage_lem fmt (suc m) M₂ (mark_machine m) L₂ (single m) r₂ mark) λ M₃ r₃.
      concat_stage_lem fmt (suc m) M₃ B L₃ R r₃ b
    where
      L₁ : Language
      L₁ = concatenation L (single m)

      L₂ : Language
      L₂ = concatenation L₁ K

      L₃ : Language
      L₃ = concatenation L₂ (single m)

  pub row_marked : (A P B : Machine) (L K R : Language) → Right m A L → Right m P K → Right m B R
      → Keeps (λ M. MarkedBy m M (λ v x y. L v && (K x && R y))) (marked_stages fmt m A P B)
  row_marked A P B L K R a p b =
      keeps_map (λ M. Recognizes (suc m) M (marked_row m L K R)) (λ M. MarkedBy m M (λ v x y. L v && (K x && R y))) (marked_stages fmt m A P B)
      (λ M r. record { set = marked_row m L K R; recognizes = r; marked = marked_row_lem m L K R a.letters p.letters b.letters })
      (row_stages A P B L K R a.recognizes p.recognizes b.recognizes)

  pub difference_marked : (A B : Machine) (Q Q' : CutTest) → MarkedBy m A Q → MarkedBy m B Q'
      → Keeps (λ M. MarkedBy m M (λ v x y. Q v x y && not (Q' v x y))) (pair_stage fmt (suc m) without A B)
  difference_marked A B Q Q' a b =
      keeps_map (λ M. Recognizes (suc m) M (difference a.set b.set)) (λ M. MarkedBy m M (λ v x y. Q v x y && not (Q' v x y))) (pair_stage fmt (suc m) without A B)
      (λ M r. record { set = difference a.set b.set; recognizes = r; marked = marked_difference m Q Q' a.set b.set a.marked b.marked })
      (pair_stage_lem fmt (suc m) without A B a.set b.set a.recognizes b.recognizes)

  pub union_marked : (A B : Machine) (Q Q' : CutTest) → MarkedBy m A Q → MarkedBy m B Q'
      → Keeps (λ M. MarkedBy m M (λ v x y. Q v x y || Q' v x y)) (pair_stage fmt (suc m) either A B)
  union_marked A B Q Q' a b =
      keeps_map (λ M. Recognizes (suc m) M (union a.set b.set)) (λ M. MarkedBy m M (λ v x y. Q v x y || Q' v x y)) (pair_stage fmt (suc m) either A B)
      (λ M r. record { set = union a.set b.set; recognizes = r; marked = marked_union m Q Q' a.set b.set a.marked b.marked })
      (pair_stage_lem fmt (suc m) either A B a.set b.set a.recognizes b.recognizes)

  -- ---- erasing, and `.*` less what is left: once, for whichever marked set

  erased_recognizes : (U : Language) (E : Machine) (Q : CutTest) → Marked m Q U → Erases m E U → Recognizes (suc m) E (intersection (all_words m) (any_cut₃ Q))
  erased_recognizes U E Q h r = record { canonical = r.canonical; exact = λ w o. bool_iff (accepts (automaton E) w) (all_words m w && any_cut₃ Q w) (to w o) (back w) }
    where
      to : (w : Word) → Over (suc m) w → accepts (automaton E) w ≡ true → all_words m w && any_cut₃ Q w ≡ true
      to w o e =
          let v = r.letters w o e in
          and_both (all_words m w) (any_cut₃ Q w) (all_words_whole m w v) ((erased_cuts m Q U h w v).0 ((r.exact w v).0 e))

      back : (w : Word) → all_words m w && any_cut₃ Q w ≡ true → accepts (automaton E) w ≡ true
      back w e =
          let v = all_words_sound m w (and_left (all_words m w) (any_cut₃ Q w) e) in
          (r.exact w v).1 ((erased_cuts m Q U h w v).1 (and_right (all_words m w) (any_cut₃ Q w) e))

  not_both : (a b : Bool) → a && not (a && b) ≡ a && not b
  not_both true b = refl
  not_both false b = refl

  -- THE MARKED CONSTRUCTION: a plan of letters is accepted just when no cut of it passes Q.
  pub exclude_right : (X : Machine) (Q : CutTest) → MarkedBy m X Q
      → Keeps (λ M. Right m M (intersection (all_words m) (all_cut₃ (λ v x y. not (Q v x y))))) (erase_and_exclude fmt m X)
  unfolding erase_and_exclude
  exclude_right X Q h =
      then_keeps (λ E. Erases m E h.set) goal (erase_stage fmt m X) _ (erase_stage_lem fmt m X h.set h.recognizes) λ E r.
      keeps_map (λ M. Recognizes (suc m) M (difference (all_words m) (intersection (all_words m) (any_cut₃ Q)))) goal (pair_stage fmt (suc m) without (all_machine m) E)
      (λ M s. record { recognizes = recognizes_same (suc m) M (difference (all_words m) (intersection (all_words m) (any_cut₃ Q))) L (λ w o. same w) s; letters = intersection_letters m (all_words m) (all_cut₃ (λ v x y. not (Q v x y))) (all_words_sound m) })
      (pair_stage_lem fmt (suc m) without (all_machine m) E (all_words m) (intersection (all_words m) (any_cut₃ Q)) (all_recognizes m) (erased_recognizes h.set E Q h.marked r))
    where
      L : Language
      L = intersection (all_words m) (all_cut₃ (λ v x y. not (Q v x y)))

      goal : Machine → Type 0
      goal M = Right m M L

      same : (w : Word) → all_words m w && not (all_words m w && any_cut₃ Q w) ≡ all_words m w && all_cut₃ (λ v x y. not (Q v x y)) w
      same w = not_both (all_words m w) (any_cut₃ Q w) ∙ ap (λ b. all_words m w && b) (not_any_cut₃ Q w)

-- ---- the contexts

marked_as : (m : ℕ) (M : Machine) (Q Q' : CutTest) → ((v x y : Word) → Over m v → Over m x → Over m y → Q v x y ≡ Q' v x y) → MarkedBy m M Q → MarkedBy m M Q'
marked_as m M Q Q' e h = record { set = h.set; recognizes = h.recognizes; marked = marked_same m Q Q' h.set e h.marked }

-- what is marked while the contexts are taken: for `-` the calls that none of them has, for `|` the calls that one has
abbrev taken : Pairing → Bool → Bool → Bool
taken without p f = p && not f
taken either p f = p && f
taken both p f = p && f

-- one context more
one_more : (o : Pairing) → o ≢ both → (p f l r : Bool) → combine o (taken o p f) (l && (p && r)) ≡ taken o p (f || l && r)
one_more both n p f l r = absurd (n refl)
one_more without n true true l r = refl
one_more without n true false l r = refl
one_more without n false f l r = refl
one_more either n true true l r = refl
one_more either n true false l r = refl
one_more either n false f true r = refl
one_more either n false f false r = refl

-- q has the letters and names of p
pub pattern_known : (ls names : List ℕ) (kind : RuleKind) (p : Expr) → known ls names (pattern_of kind p) ≡ known ls names p
pattern_known ls names restricts p = refl
pattern_known ls names forbids p = refl
pattern_known ls names obliges p = refl

module _ (fmt : Format) (ls : List ℕ) (names : List ℕ) (xs : List (ℕ × Machine)) (ys : List (ℕ × Language)) (env : EnvRight (length ls) xs ys) where
  abbrev m : ℕ
  m = length ls

  abbrev all : Language
  all = all_words (length ls)

  paired : (o : Pairing) (A B : Machine) (Q Q' : CutTest) → o ≢ both → MarkedBy m A Q → MarkedBy m B Q'
      → Keeps (λ M. MarkedBy m M (λ v x y. combine o (Q v x y) (Q' v x y))) (pair_stage fmt (suc m) o A B)
  paired without A B Q Q' n a b = difference_marked fmt m A B Q Q' a b
  paired either A B Q Q' n a b = union_marked fmt m A B Q Q' a b
  paired both A B Q Q' n a b = absurd (n refl)

  context_marked : (M : Machine) (P : Language) → Right m M P → (c : Expr × Expr) → known ls names c.0 && known ls names c.1 ≡ true
      → Keeps (λ C. MarkedBy m C (λ v x y. matches ls ys c.0 v && (P x && matches ls ys c.1 y))) (context_stages fmt ls xs M c)
  unfolding context_stages
  context_marked M P p c k =
      then_keeps (λ A. Right m A (matches ls ys c.0)) _ (evaluate fmt ls xs c.0) _ (expression_right fmt ls names xs ys env c.0 (and_left (known ls names c.0) (known ls names c.1) k)) λ A a.
      then_keeps (λ B. Right m B (matches ls ys c.1)) _ (evaluate fmt ls xs c.1) _ (expression_right fmt ls names xs ys env c.1 (and_right (known ls names c.0) (known ls names c.1) k)) λ B b.
      row_marked fmt m A M B (matches ls ys c.0) P (matches ls ys c.1) a p b

  contexts_marked : (o : Pairing) → o ≢ both → (M : Machine) (P : Language) → Right m M P → (cs : List (Expr × Expr)) → all_known ls names cs ≡ true
      → (X : Machine) (f : Word → Word → Bool) → MarkedBy m X (λ v x y. taken o (P x) (f v y))
      → Keeps (λ Y. MarkedBy m Y (λ v x y. taken o (P x) (f v y || fits (contexts_in ls ys cs) v y))) (contexts_by fmt ls xs o M cs X)
  unfolding contexts_by
  contexts_marked o n M P p [] k X f h = marked_as m X _ _ (λ v x y a b c. ap (taken o (P x)) (or_false (f v y))) h
    where
      or_false : (b : Bool) → b ≡ b || false
      or_false true = refl
      or_false false = refl
  contexts_marked o n M P p (c ∷ cs) k X f h =
      then_keeps (λ C. MarkedBy m C (λ v x y. L v && (P x && R y))) goal (context_stages fmt ls xs M c) _ (context_marked M P p c k₀) λ C g.
      then_keeps (λ Y. MarkedBy m Y (λ v x y. combine o (taken o (P x) (f v y)) (L v && (P x && R y)))) goal (pair_stage fmt (suc m) o X C) _ (paired o X C _ _ n h g) λ Y y.
      keeps_map (λ Z. MarkedBy m Z (λ v x y. taken o (P x) (f₁ v y || fits (contexts_in ls ys cs) v y))) goal (contexts_by fmt ls xs o M cs Y)
      (λ Z z. marked_as m Z _ _ (λ v x y a b c. ap (taken o (P x)) (or_assoc (f v y) (L v && R y) (fits (contexts_in ls ys cs) v y))) z)
      (contexts_marked o n M P p cs (and_right (known ls names c.0 && known ls names c.1) (all_known ls names cs) k) Y f₁
      (marked_as m Y _ _ (λ v x y a b c. one_more o n (P x) (f v y) (L v) (R y)) y))
    where
      L : Language
      L = matches ls ys c.0

      R : Language
      R = matches ls ys c.1

      f₁ : Word → Word → Bool
      f₁ v y = f v y || L v && R y

      k₀ : known ls names c.0 && known ls names c.1 ≡ true
      k₀ = and_left (known ls names c.0 && known ls names c.1) (all_known ls names cs) k

      goal : Machine → Type 0
      goal Y = MarkedBy m Y (λ v x y. taken o (P x) (f v y || fits (contexts_in ls ys (c ∷ cs)) v y))

      or_assoc : (a b c : Bool) → (a || b) || c ≡ a || (b || c)
      or_assoc true b c = refl
      or_assoc false b c = refl

  -- the union of the contexts
  union_of : (M : Machine) (P : Language) → Right m M P → (cs : List (Expr × Expr)) → all_known ls names cs ≡ true
      → Keeps (λ Y. MarkedBy m Y (λ v x y. P x && fits (contexts_in ls ys cs) v y)) (union_contexts fmt ls xs M cs)
  unfolding union_contexts
  union_of M P p [] k = tt
  union_of M P p (c ∷ cs) k =
      then_keeps (λ C. MarkedBy m C (λ v x y. matches ls ys c.0 v && (P x && matches ls ys c.1 y))) _ (context_stages fmt ls xs M c) _
      (context_marked M P p c (and_left (known ls names c.0 && known ls names c.1) (all_known ls names cs) k)) λ X h.
      contexts_marked either (λ e. let z : ◌≡◌ {A = ℕ} 0 1 = cc in omega arith) M P p cs (and_right (known ls names c.0 && known ls names c.1) (all_known ls names cs) k) X (λ v y. matches ls ys c.0 v && matches ls ys c.1 y)
      (marked_as m X _ _ (λ v x y a b d. swap (matches ls ys c.0 v) (P x) (matches ls ys c.1 y)) h)
    where
      swap : (l p r : Bool) → l && (p && r) ≡ p && (l && r)
      swap true true r = refl
      swap true false r = refl
      swap false true r = refl
      swap false false r = refl

  -- ---- the rules

  -- the calls of a rule, as its stages make them
  abbrev calls : RuleKind → Expr → Language
  calls kind p = matches ls ys (pattern_of kind p)

  set_marked : (kind : RuleKind) (M : Machine) (p : Expr) → Right m M (calls kind p) → (cs : List (Expr × Expr)) → all_known ls names cs ≡ true
      → Keeps (λ X. MarkedBy m X (violates kind (matches ls ys p) (contexts_in ls ys cs))) (marked_of fmt ls xs kind M cs)
  unfolding marked_of
  set_marked restricts M p r cs k =
      then_keeps (λ X. MarkedBy m X (λ v x y. all v && (calls restricts p x && all y))) _ (marked_stages fmt m (all_machine m) M (all_machine m)) _
      (row_marked fmt m (all_machine m) M (all_machine m) all (calls restricts p) all every r every) λ X h.
      contexts_marked without (λ e. let z : ◌≡◌ {A = ℕ} 0 1 = cc in omega arith) M (calls restricts p) r cs k X (λ v y. false)
      (marked_as m X _ _ (λ v x y a b c. first (calls restricts p x) (all_words_whole m v a) (all_words_whole m y c)) h)
    where
      every : Right m (all_machine m) all
      every = record { recognizes = all_recognizes m; letters = all_words_sound m }

      first : {s t : Bool} (p : Bool) → s ≡ true → t ≡ true → s && (p && t) ≡ p && true
      first p e f = rw (e, f)
  set_marked forbids M p r cs k = union_of M (calls forbids p) r cs k
  set_marked obliges M p r cs k =
      keeps_map _ _ (union_contexts fmt ls xs M cs)
      (λ Y y. marked_as m Y _ _ (λ v x y a b c. excluded (matches ls ys p x) (fits (contexts_in ls ys cs) v y) (all_words_whole m x b)) y) (union_of M (calls obliges p) r cs k)
    where
      excluded : {t : Bool} (p f : Bool) → t ≡ true → (t && not p) && f ≡ not p && f
      excluded p f e = rw e

  -- RULES. The machine of a rule accepts exactly the plans of letters that the rule allows.
  pub rule_right : (kind : RuleKind) (p : Expr) (cs : List (Expr × Expr)) → known ls names p ≡ true → all_known ls names cs ≡ true
      → Keeps (λ M. Right m M (intersection all (demands kind (matches ls ys p) (contexts_in ls ys cs)))) (evaluate_rule fmt ls xs kind p cs)
  unfolding evaluate_rule
  rule_right kind p cs kp kc =
      then_keeps (λ M. Right m M (calls kind p)) _ (evaluate fmt ls xs (pattern_of kind p)) _ (expression_right fmt ls names xs ys env (pattern_of kind p) (pattern_known ls names kind p ∙ kp)) λ M r.
      then_keeps (λ X. MarkedBy m X (violates kind (matches ls ys p) (contexts_in ls ys cs))) _ (marked_of fmt ls xs kind M cs) _ (set_marked kind M p r cs kc) λ X h.
      exclude_right fmt m X (violates kind (matches ls ys p) (contexts_in ls ys cs)) h
