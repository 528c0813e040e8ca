-- What the given machines accept, and how many states they have.
use Rattle.std.specs.Prelude.{◌≡◌, refl, Bool, true, false, ◌&&◌, eqb, ltb}
use Rattle.std.proofs.Math.Path.{sym}
use Rattle.std.proofs.Common.{ap, ◌∙◌, le_refl}
use Rattle.std.proofs.Math.Bool.{cond}
use mathlib.Core.List.{[], ◌∷◌}
use Prim.Native.Nat.{ℕ, zero, suc, ◌≤◌, ◌<◌}
use native.Mathlib.Omega.{arith}
use Rattle.automata.specs.Basics.{nat_test, tab, lt_ltb, ltb_false}
use Rattle.automata.specs.Automaton.{Automaton, Over, run, accepts}
use Rattle.automata.specs.Machine.{Machine, size, automaton, minimal_numbers, at_least}
use Rattle.automata.proofs.GivenTables.{given_smallest, cond_below}
use Rattle.automata.specs.Given.{one_sign, many_signs, given, letter_machine, dot_machine, empty_machine, all_machine, mark_machine}
use Rattle.language.specs.Cuts.{Word}
use Rattle.language.specs.Language.{Language, empty_word, symbol, single, any_symbol, all_words}
use Rattle.language.specs.Recognizes.{Recognizes}

-- ---- what they accept

given_recognizes : (k : ℕ) (A : Automaton ℕ) (L : Language) → A.start < 3 → ((s c : ℕ) → s < 3 → A.step s c < 3) → ((w : Word) → accepts A w ≡ L w) → Recognizes k (given k A) L
given_recognizes k A L h f e = let s = given_smallest k A h f in record { canonical = s.canonical; exact = λ w o. sym (s.words w o) ∙ e w }

module _ (good : ℕ → Bool) where
  one_lost : (w : Word) → (one_sign good).accepting (run (one_sign good) 2 w) ≡ false
  one_lost [] = refl
  one_lost (c ∷ w) = one_lost w

  one_behind : (w : Word) → (one_sign good).accepting (run (one_sign good) 1 w) ≡ empty_word w
  one_behind [] = refl
  one_behind (c ∷ w) = one_lost w

  one_accepts : (w : Word) → accepts (one_sign good) w ≡ symbol good w
  one_accepts [] = refl
  one_accepts (c ∷ w) = go (good c)
    where
      go : (b : Bool) → (one_sign good).accepting (run (one_sign good) (cond b 1 2) w) ≡ b && empty_word w
      go true = one_behind w
      go false = one_lost w

  pub one_recognizes : (k : ℕ) → Recognizes k (given k (one_sign good)) (symbol good)
  one_recognizes k = given_recognizes k (one_sign good) (symbol good) (omega arith)
      (λ s c h. cond_below (eqb s 0) (cond (good c) 1 2) 2 3 (cond_below (good c) 1 2 3 (omega arith) (omega arith)) (omega arith)) one_accepts

  many_lost : (w : Word) → (many_signs good).accepting (run (many_signs good) 1 w) ≡ false
  many_lost [] = refl
  many_lost (c ∷ w) = many_lost w

  many_recognizes : (k : ℕ) (L : Language) → ((w : Word) → accepts (many_signs good) w ≡ L w) → Recognizes k (given k (many_signs good)) L
  many_recognizes k L e = given_recognizes k (many_signs good) L (omega arith)
      (λ s c h. cond_below (eqb s 0) (cond (good c) 0 1) 1 3 (cond_below (good c) 0 1 3 (omega arith) (omega arith)) (omega arith)) e

pub letter_recognizes : (m c : ℕ) → Recognizes (suc m) (letter_machine m c) (single c)
letter_recognizes m c = one_recognizes (eqb c) (suc m)

pub dot_recognizes : (m : ℕ) → Recognizes (suc m) (dot_machine m) (any_symbol m)
dot_recognizes m = one_recognizes (λ c. ltb c m) (suc m)

empty_same : (m : ℕ) (w : Word) → accepts (many_signs (λ c. false)) w ≡ empty_word w
empty_same m [] = refl
empty_same m (c ∷ w) = many_lost (λ c. false) w

pub empty_recognizes : (m : ℕ) → Recognizes (suc m) (empty_machine m) empty_word
empty_recognizes m = many_recognizes (λ c. false) (suc m) empty_word (empty_same m)

all_same : (m : ℕ) (w : Word) → accepts (many_signs (λ c. ltb c m)) w ≡ all_words m w
all_same m [] = refl
all_same m (c ∷ w) = go (ltb c m) (all_same m w)
  where
    go : (b : Bool) → accepts (many_signs (λ c. ltb c m)) w ≡ all_words m w → eqb (run (many_signs (λ c. ltb c m)) (cond b 0 1) w) 0 ≡ b && all_words m w
    go true e = e
    go false e = many_lost (λ c. ltb c m) w

pub all_recognizes : (m : ℕ) → Recognizes (suc m) (all_machine m) (all_words m)
all_recognizes m = many_recognizes (λ c. ltb c m) (suc m) (all_words m) (all_same m)

-- ---- how many states they have

below_three : (P : ℕ → Type 0) → P 0 → P 1 → P 2 → (i : ℕ) → i < 3 → P i
below_three P a b c zero h = a
below_three P a b c (suc zero) h = b
below_three P a b c (suc (suc zero)) h = c
below_three P a b c (suc (suc (suc i))) h = absurd (omega arith)

module _ (k : ℕ) (M : Machine) (good : ℕ → Bool) (c : ℕ) (h : c < k) where
  -- c, i times
  word : ℕ → Word
  word i = tab (λ _. c) i

  over : (i : ℕ) → Over k (word i)
  unfolding word
  over zero = tt
  over (suc i) = (h, over i)

  abbrev A : Automaton ℕ
  A = automaton M

  code : ℕ → ℕ
  code q = cond (A.accepting q) 1 (cond (A.accepting (A.step q c)) 0 2)

  one_size : Recognizes k M (symbol good) → good c ≡ true → size M ≡ 3
  unfolding word code
  one_size r g =
      let upper : size M ≤ 3 = minimal_numbers k M r.canonical (one_sign good) 3 (omega arith)
      (λ s c b v. cond_below (eqb s 0) (cond (good c) 1 2) 2 3 (cond_below (good c) 1 2 3 (omega arith) (omega arith)) (omega arith))
      (λ w o. r.exact w o ∙ sym (one_accepts good w)) in
      let lower : 3 ≤ size M = at_least k M r.canonical.formed 3 word (λ i b. over i) code
      (below_three (λ i. code (run A 0 (word i)) ≡ i)
      (rw (r.exact [] (over 0), r.exact (c ∷ []) (over 1), g))
      (rw (r.exact (c ∷ []) (over 1), g))
      (rw (r.exact (c ∷ c ∷ []) (over 2), r.exact (c ∷ c ∷ c ∷ []) (over 3), g))) in
      omega arith

  many_size : (L : Language) → Recognizes k M L → ((w : Word) → accepts (many_signs good) w ≡ L w) → L [] ≡ true → L (c ∷ []) ≡ false → size M ≡ 2
  unfolding word
  many_size L r e yes' no' =
      let upper : size M ≤ 2 = minimal_numbers k M r.canonical (many_signs good) 2 (omega arith)
      (λ s c b v. cond_below (eqb s 0) (cond (good c) 0 1) 1 2 (cond_below (good c) 0 1 2 (omega arith) (omega arith)) (omega arith))
      (λ w o. r.exact w o ∙ sym (e w)) in
      let lower : 2 ≤ size M = at_least k M r.canonical.formed 2 word (λ i b. over i) (λ q. cond (A.accepting q) 0 1)
      (below_two (λ i. cond (A.accepting (run A 0 (word i))) 0 1 ≡ i)
      (rw (r.exact [] (over 0), yes'))
      (rw (r.exact (c ∷ []) (over 1), no'))) in
      omega arith
    where
      below_two : (P : ℕ → Type 0) → P 0 → P 1 → (i : ℕ) → i < 2 → P i
      below_two P a b zero h = a
      below_two P a b (suc zero) h = b
      below_two P a b (suc (suc i)) h = absurd (omega arith)

-- "Letter and `.` have 3 states, `@` 2, `.*` 2, the day M made of one mark 3."
pub letter_size : (m c : ℕ) → c < m → size (letter_machine m c) ≡ 3
letter_size m c h = one_size (suc m) (letter_machine m c) (eqb c) c (omega arith) (letter_recognizes m c) (nat_test.whole c)

pub mark_size : (m : ℕ) → size (mark_machine m) ≡ 3
mark_size m = one_size (suc m) (mark_machine m) (eqb m) m (omega arith) (letter_recognizes m m) (nat_test.whole m)

pub dot_size : (m : ℕ) → 0 < m → size (dot_machine m) ≡ 3
dot_size m h = one_size (suc m) (dot_machine m) (λ c. ltb c m) 0 (omega arith) (dot_recognizes m) (lt_ltb 0 m h)

pub empty_size : (m : ℕ) → size (empty_machine m) ≡ 2
empty_size m = many_size (suc m) (empty_machine m) (λ c. false) m (omega arith) empty_word (empty_recognizes m) (empty_same m) refl refl

pub all_size : (m : ℕ) → size (all_machine m) ≡ 2
all_size m = many_size (suc m) (all_machine m) (λ c. ltb c m) m (omega arith) (all_words m) (all_recognizes m) (all_same m) refl (ap (λ b. b && true) (ltb_false m m (le_refl m)))
