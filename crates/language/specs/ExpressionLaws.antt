-- Compiled expressions are right: with machines of the names that are right for their languages, the machine of an expression is canonical, accepts
-- exactly the plans that the expression means, and no word that has a mark.
use Rattle.std.specs.Prelude.{◌≡◌, Bool, true, false, List, [], ◌∷◌, ℕ, suc, length, eqb}
use Rattle.std.proofs.Common.{◌∙◌}
use Rattle.std.proofs.Math.Dec.{ltb}
use Rattle.automata.specs.Format.{Format}
use Rattle.automata.specs.Booleans.{choose, not_true, and_left, and_right}
use Rattle.automata.specs.Basics.{nat_test, ltb_lt}
use Rattle.automata.specs.Automaton.{Over, accepts}
use Rattle.automata.specs.Machine.{Machine, automaton}
use Rattle.automata.specs.Stage.{Made, made, refused, Keeps}
use Rattle.automata.proofs.Stage.{then_keeps}
use Rattle.automata.specs.Given.{empty_machine, all_machine}
use Rattle.automata.specs.Stages.{Pairing, either, both, without, pair_stage, concat_stage, star_stage}
use Rattle.language.specs.Cuts.{Word}
use Rattle.language.specs.Language.{Language, empty_word, all_words, concatenation, star as star_of, OfLetters, empty_letters, symbol_letters, all_words_sound, concatenation_letters, star_letters, union_letters, intersection_letters, difference_letters}
use Rattle.language.specs.Recognizes.{Recognizes, recognizes_same}
use Rattle.language.specs.GivenLaws.{letter_recognizes, dot_recognizes, empty_recognizes, all_recognizes}
use Rattle.language.specs.StageLaws.{combined, pair_stage_lem, concat_stage_lem, star_stage_lem}
use Rattle.language.specs.Expression.{Expr, letter, name, dot, empty, pair, join, star, plus, option, complement}
use Rattle.language.specs.Environment.{lookup, known}
use Rattle.language.specs.Evaluate.{column, evaluate}
use Rattle.language.specs.Matches.{matches}

-- The machine M, over m letters and the mark, is right for the set of plans L.
pub record Right (m : ℕ) (M : Machine) (L : Language) : Type 0 where
  pub recognizes : Recognizes (suc m) M L
  pub letters : OfLetters m L

pub right_same : (m : ℕ) (M : Machine) (L L' : Language) → ((w : Word) → L w ≡ L' w) → Right m M L → Right m M L'
right_same m M L L' e r = record { recognizes = recognizes_same (suc m) M L L' (λ w o. e w) r.recognizes; letters = λ w t. r.letters w (e w ∙ t) }

-- and so it accepts no word that has a mark
pub right_marks : (m : ℕ) (M : Machine) (L : Language) → Right m M L → (w : Word) → Over (suc m) w → (Over m w → ⊥) → accepts (automaton M) w ≡ false
right_marks m M L r w o n = r.recognizes.exact w o ∙ not_true (L w) (λ t. n (r.letters w t))

-- Machines and languages of the same names, each machine right for its language.
abbrev pub EnvRight : ℕ → List (ℕ × Machine) → List (ℕ × Language) → Type 0
EnvRight m [] [] = Unit {0}
EnvRight m [] (y ∷ ys) = ⊥
EnvRight m (x ∷ xs) [] = ⊥
EnvRight m (x ∷ xs) (y ∷ ys) = (x.0 ≡ y.0) × Right m x.1 y.1 × EnvRight m xs ys

empty_right : (m : ℕ) → Right m (empty_machine m) empty_word
empty_right m = record { recognizes = empty_recognizes m; letters = empty_letters m }

lookup_right : (m b : ℕ) (xs : List (ℕ × Machine)) (ys : List (ℕ × Language)) → EnvRight m xs ys → Right m (lookup b (empty_machine m) xs) (lookup b empty_word ys)
lookup_right m b [] [] r = empty_right m
lookup_right m b [] (y ∷ ys) r = absurd r
lookup_right m b (x ∷ xs) [] r = absurd r
lookup_right m b (x ∷ xs) (y ∷ ys) (e, h, r) = rw (← e) (go (eqb b x.0) (lookup_right m b xs ys r))
  where
    go : (t : Bool) → Right m (lookup b (empty_machine m) xs) (lookup b empty_word ys)
        → Right m (choose t (λ _. x.1) (λ _. lookup b (empty_machine m) xs)) (choose t (λ _. y.1) (λ _. lookup b empty_word ys))
    go true f = h
    go false f = f

combined_letters : (m : ℕ) (o : Pairing) (A B : Language) → OfLetters m A → OfLetters m B → OfLetters m (combined o A B)
combined_letters m either A B a b = union_letters m A B a b
combined_letters m both A B a b = intersection_letters m A B a
combined_letters m without A B a b = difference_letters m A B a

pub keeps_map : (P Q : Machine → Type 0) (r : Made) → ((M : Machine) → P M → Q M) → Keeps P r → Keeps Q r
keeps_map P Q (made counts M) f p = f M p
keeps_map P Q (refused r) f p = tt

module _ (fmt : Format) (m : ℕ) where
  pub pair_right : (o : Pairing) (A B : Machine) (L L' : Language) → Right m A L → Right m B L' → Keeps (λ M. Right m M (combined o L L')) (pair_stage fmt (suc m) o A B)
  pair_right o A B L L' a b =
      keeps_map (λ M. Recognizes (suc m) M (combined o L L')) (λ M. Right m M (combined o L L')) (pair_stage fmt (suc m) o A B)
      (λ M r. record { recognizes = r; letters = combined_letters m o L L' a.letters b.letters })
      (pair_stage_lem fmt (suc m) o A B L L' a.recognizes b.recognizes)

  concat_right : (A B : Machine) (L L' : Language) → Right m A L → Right m B L' → Keeps (λ M. Right m M (concatenation L L')) (concat_stage fmt (suc m) A B)
  concat_right A B L L' a b =
      keeps_map (λ M. Recognizes (suc m) M (concatenation L L')) (λ M. Right m M (concatenation L L')) (concat_stage fmt (suc m) A B)
      (λ M r. record { recognizes = r; letters = concatenation_letters m L L' a.letters b.letters })
      (concat_stage_lem fmt (suc m) A B L L' a.recognizes b.recognizes)

  star_right : (A : Machine) (L : Language) → Right m A L → Keeps (λ M. Right m M (star_of L)) (star_stage fmt (suc m) A)
  star_right A L a =
      keeps_map (λ M. Recognizes (suc m) M (star_of L)) (λ M. Right m M (star_of L)) (star_stage fmt (suc m) A)
      (λ M r. record { recognizes = r; letters = star_letters m L a.letters })
      (star_stage_lem fmt (suc m) A L a.recognizes)

-- EXPRESSIONS. Where the letters and names are known, the machine that is kept is right for what the expression means.
module _ (fmt : Format) (ls : List ℕ) (names : List ℕ) (xs : List (ℕ × Machine)) (ys : List (ℕ × Language)) (env : EnvRight (length ls) xs ys) where
  abbrev m : ℕ
  m = length ls

  pub expression_right : (e : Expr) → known ls names e ≡ true → Keeps (λ M. Right m M (matches ls ys e)) (evaluate fmt ls xs e)
  unfolding evaluate
  expression_right (letter b) k = record {
    recognizes = letter_recognizes m (column ls b);
    letters = symbol_letters m (eqb (column ls b)) (λ c t. rw (← nat_test.sound (column ls b) c t) (ltb_lt (column ls b) m k));
  }
  expression_right (name b) k = lookup_right m b xs ys env
  expression_right dot k = record { recognizes = dot_recognizes m; letters = symbol_letters m (λ c. ltb c m) (λ c t. ltb_lt c m t) }
  expression_right empty k = empty_right m
  expression_right (pair o e f) k =
      then_keeps (λ M. Right m M (matches ls ys e)) (λ M. Right m M (matches ls ys (pair o e f))) (evaluate fmt ls xs e) _
      (expression_right e (and_left (known ls names e) (known ls names f) k)) λ A a.
      then_keeps (λ M. Right m M (matches ls ys f)) (λ M. Right m M (matches ls ys (pair o e f))) (evaluate fmt ls xs f) _
      (expression_right f (and_right (known ls names e) (known ls names f) k)) λ B b.
      pair_right fmt m o A B (matches ls ys e) (matches ls ys f) a b
  expression_right (join e f) k =
      then_keeps (λ M. Right m M (matches ls ys e)) (λ M. Right m M (matches ls ys (join e f))) (evaluate fmt ls xs e) _
      (expression_right e (and_left (known ls names e) (known ls names f) k)) λ A a.
      then_keeps (λ M. Right m M (matches ls ys f)) (λ M. Right m M (matches ls ys (join e f))) (evaluate fmt ls xs f) _
      (expression_right f (and_right (known ls names e) (known ls names f) k)) λ B b.
      concat_right fmt m A B (matches ls ys e) (matches ls ys f) a b
  expression_right (star e) k =
      then_keeps (λ M. Right m M (matches ls ys e)) (λ M. Right m M (matches ls ys (star e))) (evaluate fmt ls xs e) _
      (expression_right e k) λ A a.
      star_right fmt m A (matches ls ys e) a
  expression_right (plus e) k =
      then_keeps (λ M. Right m M (matches ls ys e)) (λ M. Right m M (matches ls ys (plus e))) (evaluate fmt ls xs e) _
      (expression_right e k) λ A a.
      then_keeps (λ M. Right m M (star_of (matches ls ys e))) (λ M. Right m M (matches ls ys (plus e))) (star_stage fmt (suc m) A) _
      (star_right fmt m A (matches ls ys e) a) λ B b.
      concat_right fmt m A B (matches ls ys e) (star_of (matches ls ys e)) a b
  expression_right (option e) k =
      then_keeps (λ M. Right m M (matches ls ys e)) (λ M. Right m M (matches ls ys (option e))) (evaluate fmt ls xs e) _
      (expression_right e k) λ A a.
      pair_right fmt m either (empty_machine m) A empty_word (matches ls ys e) (empty_right m) a
  expression_right (complement e) k =
      then_keeps (λ M. Right m M (matches ls ys e)) (λ M. Right m M (matches ls ys (complement e))) (evaluate fmt ls xs e) _
      (expression_right e k) λ A a.
      pair_right fmt m without (all_machine m) A (all_words m) (matches ls ys e) (record { recognizes = all_recognizes m; letters = all_words_sound m }) a
