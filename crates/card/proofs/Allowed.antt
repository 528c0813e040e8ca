-- Laws of what specs/Allowed.antt defines.
use Rattle.std.specs.Prelude.{◌≡◌, refl, true, false, ◌⊎◌, ◌↔◌, List, [], ◌∷◌, ◌++◌, ℕ, zero, suc, ◌≤◌, ◌<◌, length, get_or, eqb}
use Rattle.std.proofs.Common.{sym, ap, ◌∙◌, inl, inr, not-suc-le-zero, zero-lt-suc, arith}
use Rattle.automata.specs.Booleans.{not_true}
use Rattle.automata.specs.Basics.{LtCases, lt_cases, lt_ltb, nat_test}
use Rattle.automata.specs.Automaton.{Over, run, run_append, accepts}
use Rattle.automata.specs.Machine.{Machine, automaton}
use Rattle.automata.specs.Dead.{Dead}
use Rattle.automata.specs.Decide.{contradict}
use Rattle.automata.proofs.Restrict.{over_dec}
use Rattle.card.specs.Alphabet.{Alphabet, column, columns, Known, spell, known_count, Counted, all_known, first_unknown}
use Rattle.card.proofs.Alphabet.{columns_append, columns_spell, known_append}
use Rattle.card.specs.Allowed.{allows}

pub known_count_lem : (ls plan : List ℕ) → Known ls plan → known_count ls plan ≡ length plan
known_count_lem ls [] o = refl
known_count_lem ls (l ∷ plan) o = rw (lt_ltb (column ls l) (length ls) o.0) (ap suc (known_count_lem ls plan o.1))

pub count_known : (ls plan : List ℕ) → known_count ls plan ≡ length plan → Known ls plan
count_known ls [] e = tt
count_known ls (l ∷ plan) e = go (lt_cases (column ls l) (length ls)) (count_known ls plan)
  where
    go : LtCases (column ls l) (length ls) → (known_count ls plan ≡ length plan → Known ls plan) → Known ls (l ∷ plan)
    go (inl p) r = let z : suc (known_count ls plan) ≡ suc (length plan) = rw p.1 at e in (p.0, r (omega arith))
    go (inr p) r = let z : 0 ≡ suc (length plan) = rw p.1 at e in absurd (omega arith)

unknown_count : (ls plan : List ℕ) (j : ℕ) → j < length plan → ((i : ℕ) → i < j → column ls (get_or plan i 0) < length ls)
    → length ls ≤ column ls (get_or plan j 0) → known_count ls plan ≡ j
unknown_count ls [] j b f x = absurd (not-suc-le-zero b)
unknown_count ls (l ∷ plan) zero b f x = go (lt_cases (column ls l) (length ls))
  where
    go : LtCases (column ls l) (length ls) → known_count ls (l ∷ plan) ≡ zero
    go (inl p) = absurd (omega (arith, p.0))
    go (inr p) = rw p.1
unknown_count ls (l ∷ plan) (suc j) b f x =
    rw (lt_ltb (column ls l) (length ls) (f zero (zero-lt-suc j))) (ap suc (unknown_count ls plan j (omega arith) (λ i v. f (suc i) (omega arith)) x))

-- One count only is right.
pub counted_only : (ls plan : List ℕ) (n : ℕ) → Counted ls plan n → known_count ls plan ≡ n
counted_only ls plan n (all_known o) = known_count_lem ls plan o
counted_only ls plan n (first_unknown j b f x) = unknown_count ls plan j b f x

module _ (ls : List ℕ) (M : Machine) where
  pub allows_known : (plan : List ℕ) → Known ls plan → allows ls M plan ≡ accepts (automaton M) (columns ls plan)
  unfolding allows
  allows_known plan o = rw (known_count_lem ls plan o, nat_test.whole (length plan))

  pub allows_unknown : (plan : List ℕ) → (Known ls plan → ⊥) → allows ls M plan ≡ false
  unfolding allows
  allows_unknown plan f = rw (not_true (eqb (known_count ls plan) (length plan)) (λ e. f (count_known ls plan (nat_test.sound (known_count ls plan) (length plan) e))))

  -- just the plans of the letters whose columns the machine accepts
  pub allows_iff : (plan : List ℕ) → (allows ls M plan ≡ true) ↔ (Known ls plan × (accepts (automaton M) (columns ls plan) ≡ true))
  allows_iff plan = (λ e. go e (over_dec (length ls) (columns ls plan)), λ h. allows_known plan h.0 ∙ h.1)
    where
      go : allows ls M plan ≡ true → Known ls plan ⊎ (Known ls plan → ⊥) → Known ls plan × (accepts (automaton M) (columns ls plan) ≡ true)
      go e (inl o) = (o, sym (allows_known plan o) ∙ e)
      go e (inr f) = contradict e (allows_unknown plan f)

  pub allows_append : (u x : List ℕ) → Known ls u → Known ls x → allows ls M (u ++ x) ≡ (automaton M).accepting (run (automaton M) (run (automaton M) zero (columns ls u)) (columns ls x))
  allows_append u x a b = allows_known (u ++ x) (known_append ls u x a b)
      ∙ ap (accepts (automaton M)) (columns_append ls u x) ∙ ap (automaton M).accepting (run_append (automaton M) zero (columns ls u) (columns ls x))

  pub known_right : (u x : List ℕ) → Known ls (u ++ x) → Known ls x
  known_right [] x o = o
  known_right (l ∷ u) x o = known_right u x o.1

  -- From a dead state no plan goes on to an allowed one.
  pub allows_dead : (u : List ℕ) → Known ls u → Dead (length ls) (automaton M) (run (automaton M) zero (columns ls u)) → (x : List ℕ) → allows ls M (u ++ x) ≡ false
  allows_dead u o d x = go (over_dec (length ls) (columns ls x))
    where
      go : Known ls x ⊎ (Known ls x → ⊥) → allows ls M (u ++ x) ≡ false
      go (inl v) = allows_append u x o v ∙ d (columns ls x) v
      go (inr f) = allows_unknown (u ++ x) (λ v. f (known_right u x v))

  known_spell : Alphabet ls → (w : List ℕ) → Over (length ls) w → Known ls (spell ls w)
  known_spell a w o = rw (columns_spell ls a w o) o

  -- A word accepted from its state continues a plan to an allowed one.
  pub allows_word : Alphabet ls → (u : List ℕ) → Known ls u → (w : List ℕ) → Over (length ls) w
      → (automaton M).accepting (run (automaton M) (run (automaton M) zero (columns ls u)) w) ≡ true → allows ls M (u ++ spell ls w) ≡ true
  allows_word a u o w v e = allows_append u (spell ls w) o (known_spell a w v) ∙ (rw (columns_spell ls a w v) e)

  -- A word of columns is accepted just when its plan is allowed.
  pub allows_spell : Alphabet ls → (w : List ℕ) → Over (length ls) w → allows ls M (spell ls w) ≡ accepts (automaton M) w
  allows_spell a w o = allows_known (spell ls w) (known_spell a w o) ∙ ap (accepts (automaton M)) (columns_spell ls a w o)
