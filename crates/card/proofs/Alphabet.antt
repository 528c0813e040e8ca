-- Laws of what specs/Alphabet.antt defines.
use Rattle.std.specs.Prelude.{◌≡◌, refl, true, List, [], ◌∷◌, ◌++◌, ℕ, zero, suc, ◌≤◌, ◌<◌, length, get_or, ltb}
use Rattle.std.proofs.Common.{ap, ap₂, inl, inr, suc-le-suc, le_trans, not-suc-le-zero, le_of_suc-le-suc, zero-lt-suc, arith}
use Rattle.std.proofs.lemmas.Bool.{false≢true}
use Rattle.automata.specs.Booleans.{choose}
use Rattle.automata.specs.Basics.{LtCases, lt_cases, lt_ltb, nat_test, find_at, find_least}
use Rattle.automata.specs.Automaton.{Over}
use Rattle.card.specs.Alphabet.{Alphabet, Counted, Known, all_known, alphabet_test, column, columns, first_unknown, known_count, rising_from, spell}

-- ---- strictly rising, a to z

-- what the test says from lo on
record From (lo : ℕ) (ls : List ℕ) : Type 0 where
  letter : (i : ℕ) → i < length ls → (lo < get_or ls i 0) × (get_or ls i 0 < 123)
  rising : (i j : ℕ) → i < j → j < length ls → get_or ls i 0 < get_or ls j 0

from_sound : (lo : ℕ) (ls : List ℕ) → rising_from lo ls ≡ true → From lo ls
from_sound lo [] e = record { letter = λ i h. absurd (not-suc-le-zero h); rising = λ i j b h. absurd (not-suc-le-zero h) }
from_sound lo (l ∷ ls) e = go (lt_cases lo l) (lt_cases l 123) (from_sound l ls)
  where
    go : LtCases lo l → LtCases l 123 → (rising_from l ls ≡ true → From l ls) → From lo (l ∷ ls)
    go (inr p) q r = absurd (false≢true (rw p.1 at e))
    go (inl p) (inr q) r = absurd (false≢true (rw (p.1, q.1) at e))
    go (inl p) (inl q) r = record { letter = letter; rising = rising }
      where
        f : From l ls
        f = r (rw (p.1, q.1) at e)

        letter : (i : ℕ) → i < suc (length ls) → (lo < get_or (l ∷ ls) i 0) × (get_or (l ∷ ls) i 0 < 123)
        letter zero h = (p.0, q.0)
        letter (suc i) h = let t = f.letter i (le_of_suc-le-suc h) in (le_trans p.0 (omega arith), t.1)

        rising : (i j : ℕ) → i < j → j < suc (length ls) → get_or (l ∷ ls) i 0 < get_or (l ∷ ls) j 0
        rising i zero b h = absurd (not-suc-le-zero b)
        rising zero (suc j) b h = (f.letter j (le_of_suc-le-suc h)).0
        rising (suc i) (suc j) b h = f.rising i j (le_of_suc-le-suc b) (le_of_suc-le-suc h)

from_whole : (lo : ℕ) (ls : List ℕ) → From lo ls → rising_from lo ls ≡ true
from_whole lo [] f = refl
from_whole lo (l ∷ ls) f =
    rw (lt_ltb lo l (f.letter zero (zero-lt-suc (length ls))).0, lt_ltb l 123 (f.letter zero (zero-lt-suc (length ls))).1)
    (from_whole l ls (record {
      letter = λ i h. (f.rising zero (suc i) (zero-lt-suc i) (suc-le-suc h), (f.letter (suc i) (suc-le-suc h)).1);
      rising = λ i j b h. f.rising (suc i) (suc j) (suc-le-suc b) (suc-le-suc h);
    }))

pub alphabet_sound : (ls : List ℕ) → alphabet_test ls ≡ true → Alphabet ls
unfolding alphabet_test
alphabet_sound ls e = let f = from_sound 96 ls e in record {
  letter = λ i h. let t = f.letter i h in (omega arith, omega arith);
  rising = f.rising;
}

pub alphabet_whole : (ls : List ℕ) → Alphabet ls → alphabet_test ls ≡ true
unfolding alphabet_test
alphabet_whole ls a = from_whole 96 ls (record {
  letter = λ i h. let t = a.letter i h in (omega arith, omega arith);
  rising = a.rising;
})

-- ---- columns

pub columns_append : (ls u v : List ℕ) → columns ls (u ++ v) ≡ columns ls u ++ columns ls v
columns_append ls [] v = refl
columns_append ls (l ∷ u) v = ap (λ w. column ls l ∷ w) (columns_append ls u v)

pub known_left : (ls u v : List ℕ) → Known ls (u ++ v) → Known ls u
known_left ls [] v o = tt
known_left ls (l ∷ u) v o = (o.0, known_left ls u v o.1)

pub known_append : (ls u v : List ℕ) → Known ls u → Known ls v → Known ls (u ++ v)
known_append ls [] v a b = b
known_append ls (l ∷ u) v a b = (a.0, known_append ls u v a.1 b)

-- In an alphabet the column of letter i is i.
pub column_letter : (ls : List ℕ) → Alphabet ls → (i : ℕ) → i < length ls → column ls (get_or ls i 0) ≡ i
column_letter ls a i h = go (lt_cases (column ls (get_or ls i 0)) i)
  where
    low : column ls (get_or ls i 0) ≤ i
    low = find_least nat_test 0 (get_or ls i 0) ls i h refl

    go : LtCases (column ls (get_or ls i 0)) i → column ls (get_or ls i 0) ≡ i
    go (inl p) = absurd (omega (arith, find_at nat_test 0 (get_or ls i 0) ls (le_trans (suc-le-suc low) h), a.rising (column ls (get_or ls i 0)) i p.0 h))
    go (inr p) = omega (arith, low)

pub columns_spell : (ls : List ℕ) → Alphabet ls → (w : List ℕ) → Over (length ls) w → columns ls (spell ls w) ≡ w
columns_spell ls a [] o = refl
columns_spell ls a (i ∷ w) o = ap₂ ◌∷◌ (column_letter ls a i o.0) (columns_spell ls a w o.1)

-- ---- how many letters precede the first that is not on the card

pub counted : (ls plan : List ℕ) → Counted ls plan (known_count ls plan)
counted ls [] = all_known tt
counted ls (l ∷ plan) = go (lt_cases (column ls l) (length ls)) (counted ls plan)
  where
    more : (n : ℕ) → column ls l < length ls → Counted ls plan n → Counted ls (l ∷ plan) (suc n)
    more n h (all_known o) = all_known (h, o)
    more n h (first_unknown j b f e) = first_unknown (suc j) (suc-le-suc b) before e
      where
        before : (i : ℕ) → i < suc j → column ls (get_or (l ∷ plan) i 0) < length ls
        before zero v = h
        before (suc i) v = f i (le_of_suc-le-suc v)

    go : LtCases (column ls l) (length ls) → Counted ls plan (known_count ls plan)
        → Counted ls (l ∷ plan) (choose (ltb (column ls l) (length ls)) (λ _. suc (known_count ls plan)) (λ _. 0))
    go (inl p) r = rw p.1 (more (known_count ls plan) p.0 r)
    go (inr p) r = rw p.1 (first_unknown zero (zero-lt-suc (length plan)) (λ i v. absurd (not-suc-le-zero v)) p.0)

pub known_at : (ls plan : List ℕ) → Known ls plan → (j : ℕ) → j < length plan → column ls (get_or plan j 0) < length ls
known_at ls [] o j h = absurd (not-suc-le-zero h)
known_at ls (l ∷ plan) o zero h = o.0
known_at ls (l ∷ plan) o (suc j) h = known_at ls plan o.1 j (le_of_suc-le-suc h)

pub at_known : (ls plan : List ℕ) → ((j : ℕ) → j < length plan → column ls (get_or plan j 0) < length ls) → Known ls plan
at_known ls [] h = tt
at_known ls (l ∷ plan) h = (h zero (zero-lt-suc (length plan)), at_known ls plan (λ j b. h (suc j) (suc-le-suc b)))
