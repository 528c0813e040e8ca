-- Languages, the sets of plans that expressions mean, as Boolean tests; and what concatenation and star mean.
use Rattle.std.specs.Prelude.{◌≡◌, refl, Bool, true, false, not, ◌&&◌, ◌||◌, List, [], ◌∷◌, ◌++◌, ℕ, zero, suc, ◌≤◌, ◌<◌, length, eqb, ltb}
use Rattle.std.proofs.Common.{ap, ◌∙◌, le_refl, not-suc-le-zero, le_of_suc-le-suc, arith, length-append}
use Rattle.std.proofs.lemmas.Bool.{false≢true}
use Rattle.automata.specs.Booleans.{and_left, and_right, and_both}
use Rattle.automata.specs.Basics.{ltb_lt, lt_ltb}
use Rattle.automata.specs.Automaton.{Over, over_append}
use Rattle.language.specs.Cuts.{Word, any_cut, any_cut_sound, any_cut_whole}

-- "Expressions mean sets of plans."
abbrev pub Language : Type 0
Language = Word → Bool

-- `@`: the empty plan only.
abbrev pub empty_word : Language
empty_word [] = true
empty_word (c ∷ w) = false

-- The one-letter plans whose letter passes.
abbrev pub symbol : (ℕ → Bool) → Language
symbol p [] = false
symbol p (c ∷ w) = p c && empty_word w

-- "a letter: that one-letter plan"; the mark M is one such sign.
abbrev pub single : ℕ → Language
single c = symbol (eqb c)

-- `.`: every one-letter plan in the book's letters, which are the columns below m.
abbrev pub any_symbol : ℕ → Language
any_symbol m = symbol (λ c. ltb c m)

-- `.*` as the paper puts it in: every plan of the book's letters.
abbrev pub all_words : ℕ → Language
all_words m [] = true
all_words m (c ∷ w) = ltb c m && all_words m w

-- "AB: a plan of A followed by one of B."
abbrev pub concatenation : Language → Language → Language
concatenation A B w = any_cut (λ u v. A u && B v) w

-- "`A*`: any number of plans of A in a row, none included." At most n of them, none empty: w has no more than its length.
abbrev pub star_up_to : Language → ℕ → Language
star_up_to A zero w = empty_word w
star_up_to A (suc n) [] = true
star_up_to A (suc n) (c ∷ w) = any_cut (λ u v. A (c ∷ u) && star_up_to A n v) w

abbrev pub star : Language → Language
star A w = star_up_to A (length w) w

-- "`A|B` either, `A&B` both, `A-B` in A and not in B."
abbrev pub union : Language → Language → Language
union A B w = A w || B w

abbrev pub intersection : Language → Language → Language
intersection A B w = A w && B w

abbrev pub difference : Language → Language → Language
difference A B w = A w && not (B w)

-- "`!A` is `.*-A`."
abbrev pub complement : ℕ → Language → Language
complement m A = difference (all_words m) A

-- ---- what they mean

pub concatenation_sound : (A B : Language) (w : Word) → concatenation A B w ≡ true
    → (u : Word) × (v : Word) × (w ≡ u ++ v) × (A u ≡ true) × (B v ≡ true)
concatenation_sound A B w e =
    let (u, v, q, t) = any_cut_sound (λ u v. A u && B v) w e in
    (u, v, q, and_left (A u) (B v) t, and_right (A u) (B v) t)

pub concatenation_whole : (A B : Language) (u v : Word) → A u ≡ true → B v ≡ true → concatenation A B (u ++ v) ≡ true
concatenation_whole A B u v a b = any_cut_whole (λ u v. A u && B v) u v (and_both (A u) (B v) a b)

-- words in a row
abbrev pub in_row : List Word → Word
in_row [] = []
in_row (u ∷ us) = u ++ in_row us

abbrev pub Each : Language → List Word → Type 0
Each A [] = Unit {0}
Each A (u ∷ us) = (A u ≡ true) × Each A us

abbrev pub InStar : Language → Word → Type 0
InStar A w = (us : List Word) × (w ≡ in_row us) × Each A us

star_up_to_sound : (A : Language) (n : ℕ) (w : Word) → star_up_to A n w ≡ true → InStar A w
star_up_to_sound A zero [] e = ([], refl, tt)
star_up_to_sound A zero (c ∷ w) e = absurd (false≢true e)
star_up_to_sound A (suc n) [] e = ([], refl, tt)
star_up_to_sound A (suc n) (c ∷ w) e =
    let (u, v, q, t) = any_cut_sound (λ u v. A (c ∷ u) && star_up_to A n v) w e in
    let (us, q', a) = star_up_to_sound A n v (and_right (A (c ∷ u)) (star_up_to A n v) t) in
    ((c ∷ u) ∷ us, ap (λ l. c ∷ l) (q ∙ ap (λ l. u ++ l) q'), (and_left (A (c ∷ u)) (star_up_to A n v) t, a))

star_up_to_whole : (A : Language) (us : List Word) (n : ℕ) → Each A us → length (in_row us) ≤ n → star_up_to A n (in_row us) ≡ true
star_up_to_whole A [] zero a h = refl
star_up_to_whole A [] (suc n) a h = refl
star_up_to_whole A ([] ∷ us) n a h = star_up_to_whole A us n a.1 h
star_up_to_whole A ((c ∷ u) ∷ us) zero a h = absurd (not-suc-le-zero h)
star_up_to_whole A ((c ∷ u) ∷ us) (suc n) a h =
    any_cut_whole (λ u v. A (c ∷ u) && star_up_to A n v) u (in_row us)
    (and_both (A (c ∷ u)) (star_up_to A n (in_row us)) a.0 (star_up_to_whole A us n a.1 (omega (arith, le_of_suc-le-suc h, length-append u (in_row us)))))

pub star_sound : (A : Language) (w : Word) → star A w ≡ true → InStar A w
star_sound A w e = star_up_to_sound A (length w) w e

pub star_whole : (A : Language) (us : List Word) → Each A us → star A (in_row us) ≡ true
star_whole A us a = star_up_to_whole A us (length (in_row us)) a (le_refl (length (in_row us)))

pub symbol_sound : (p : ℕ → Bool) (w : Word) → symbol p w ≡ true → (c : ℕ) × (w ≡ c ∷ []) × (p c ≡ true)
symbol_sound p [] e = absurd (false≢true e)
symbol_sound p (c ∷ []) e = (c, refl, and_left (p c) true e)
symbol_sound p (c ∷ d ∷ w) e = absurd (false≢true (and_right (p c) false e))

-- ---- languages of words of letters

-- L has words of the columns below m only: none with a mark.
abbrev pub OfLetters : ℕ → Language → Type 0
OfLetters m L = (w : Word) → L w ≡ true → Over m w

pub all_words_sound : (m : ℕ) → OfLetters m (all_words m)
all_words_sound m [] e = tt
all_words_sound m (c ∷ w) e = (ltb_lt c m (and_left (ltb c m) (all_words m w) e), all_words_sound m w (and_right (ltb c m) (all_words m w) e))

pub all_words_whole : (m : ℕ) (w : Word) → Over m w → all_words m w ≡ true
all_words_whole m [] o = refl
all_words_whole m (c ∷ w) o = and_both (ltb c m) (all_words m w) (lt_ltb c m o.0) (all_words_whole m w o.1)

pub empty_letters : (m : ℕ) → OfLetters m empty_word
empty_letters m [] e = tt
empty_letters m (c ∷ w) e = absurd (false≢true e)

pub symbol_letters : (m : ℕ) (p : ℕ → Bool) → ((c : ℕ) → p c ≡ true → c < m) → OfLetters m (symbol p)
symbol_letters m p h w e = let (c, q, t) = symbol_sound p w e in rw q (h c t, tt)

pub concatenation_letters : (m : ℕ) (A B : Language) → OfLetters m A → OfLetters m B → OfLetters m (concatenation A B)
concatenation_letters m A B a b w e =
    let (u, v, q, s, t) = concatenation_sound A B w e in
    rw q (over_append m u v (a u s) (b v t))

pub star_letters : (m : ℕ) (A : Language) → OfLetters m A → OfLetters m (star A)
star_letters m A a w e = let (us, q, r) = star_sound A w e in rw q (all us r)
  where
    all : (us : List Word) → Each A us → Over m (in_row us)
    all [] r = tt
    all (u ∷ us) r = over_append m u (in_row us) (a u r.0) (all us r.1)

pub union_letters : (m : ℕ) (A B : Language) → OfLetters m A → OfLetters m B → OfLetters m (union A B)
union_letters m A B a b w e = go (A w) refl e
  where
    go : (x : Bool) → A w ≡ x → x || B w ≡ true → Over m w
    go true q t = a w q
    go false q t = b w t

pub intersection_letters : (m : ℕ) (A B : Language) → OfLetters m A → OfLetters m (intersection A B)
intersection_letters m A B a w e = a w (and_left (A w) (B w) e)

pub difference_letters : (m : ℕ) (A B : Language) → OfLetters m A → OfLetters m (difference A B)
difference_letters m A B a w e = a w (and_left (A w) (not (B w)) e)
