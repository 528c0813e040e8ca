-- Laws of what specs/HeadLaws.antt defines.
use Rattle.std.specs.Prelude.{◌≡◌, refl, true, false, ◌&&◌, ◌⊎◌, length, get_or}
use Rattle.std.proofs.Common.{sym, ap, ◌∙◌, subst, inl, inr, not-suc-le-zero, le_of_suc-le-suc, zero-lt-suc, arith}
use Rattle.std.proofs.Math.Bool.{Bool}
use Rattle.std.proofs.lemmas.Bool.{false≢true}
use mathlib.Core.List.{List, [], ◌∷◌, tail-eq_of_cons-eq}
use Prim.Native.Nat.{ℕ, zero, suc, ◌≤◌, ◌<◌, suc-le-suc}
use lib.Dec.{eqb, ltb, leb, leb→le, T}
use Rattle.automata.specs.Format.{Format}
use Rattle.automata.specs.Booleans.{choose, bool_cases, and_left, and_right, and_both}
use Rattle.automata.specs.Basics.{LtCases, lt_cases, lt_ltb, ltb_lt, nat_test}
use Rattle.automata.specs.Decide.{contradict}
use Rattle.book.specs.Kind.{kind_of, signs, sign_kind, is_letter, sign_byte, colon_kind, underscore_kind}
use Rattle.book.specs.Text.{Line, too_deep, count_of, line_test, rising, fewest_letters, is_head, letters_of, unless}
use Rattle.book.specs.Line as L
use Rattle.book.specs.Line.{HeadRead, letters, read_head}
use Rattle.book.specs.LineLaws.{Countable}
use Rattle.book.proofs.LineLaws.{deep_exact}
use Rattle.book.specs.HeadLaws.{HeadForm, HeadSays, malformed_line, nesting_too_deep, no_line_end, says, too_many_contexts}

-- ---- letters

leb_true : (a b : ℕ) → leb a b ≡ true → a ≤ b
leb_true a b e = leb→le a b (subst T (sym e) tt)

pub le_leb : (a b : ℕ) → a ≤ b → leb a b ≡ true
le_leb a b h = go (leb a b) refl
  where
    go : (t : Bool) → leb a b ≡ t → t ≡ true
    go true e = refl
    go false e = absurd (subst T e (lib.Dec.le→leb a b h))

letter_range : (b : ℕ) → is_letter b ≡ true → (97 ≤ b) × (b ≤ 122)
letter_range b e = go (bool_cases (leb 97 b && leb b 122)) e
  where
    no_sign : (ss : List ℕ) (k : ℕ) → 2 ≤ k → sign_kind b ss k ≡ 1 → ⊥
    no_sign [] k h q = omega arith
    no_sign (s ∷ ss) k h q = at (eqb b s) q (no_sign ss (suc k) (omega arith))
      where
        at : (t : Bool) → choose t (λ _. k) (λ _. sign_kind b ss (suc k)) ≡ 1 → (sign_kind b ss (suc k) ≡ 1 → ⊥) → ⊥
        at true q f = omega arith
        at false q f = f q

    name_no : (t : Bool) → eqb (choose t (λ _. 2) (λ _. sign_kind b signs 3)) 1 ≡ true → ⊥
    name_no true e = omega (arith, nat_test.sound 2 1 e)
    name_no false e = no_sign signs 3 (omega arith) (nat_test.sound (sign_kind b signs 3) 1 e)

    go : (leb 97 b && leb b 122 ≡ true) ⊎ (leb 97 b && leb b 122 ≡ false) → is_letter b ≡ true → (97 ≤ b) × (b ≤ 122)
    go (inl t) e = (leb_true 97 b (and_left (leb 97 b) (leb b 122) t), leb_true b 122 (and_right (leb 97 b) (leb b 122) t))
    go (inr t) e = absurd (name_no (leb 65 b && leb b 90) (rw t at e))

pub letter_kind_lem : (b : ℕ) → 97 ≤ b → b ≤ 122 → is_letter b ≡ true
letter_kind_lem b h g = rw (and_both (leb 97 b) (leb b 122) (le_leb 97 b h) (le_leb b 122 g))

-- ---- rising letters, entry by entry

record Rises (low : ℕ) (ls : List ℕ) : Type 0 where
  above : (i : ℕ) → i < length ls → low < get_or ls i 0
  letter : (i : ℕ) → i < length ls → (97 ≤ get_or ls i 0) × (get_or ls i 0 ≤ 122)
  rises : (i j : ℕ) → i < j → j < length ls → get_or ls i 0 < get_or ls j 0

rising_sound : (ls : List ℕ) (low : ℕ) → rising low ls ≡ true → Rises low ls
rising_sound [] low e = record { above = λ i h. absurd (not-suc-le-zero h); letter = λ i h. absurd (not-suc-le-zero h); rises = λ i j h g. absurd (not-suc-le-zero g) }
rising_sound (b ∷ bs) low e = go (bool_cases (is_letter b && ltb low b)) e (rising_sound bs b)
  where
    go : (is_letter b && ltb low b ≡ true) ⊎ (is_letter b && ltb low b ≡ false) → rising low (b ∷ bs) ≡ true → (rising b bs ≡ true → Rises b bs) → Rises low (b ∷ bs)
    go (inr t) e ih = absurd (false≢true (rw t at e))
    go (inl t) e ih = record { above = above; letter = letter; rises = rises }
      where
        r : Rises b bs
        r = ih (rw t at e)

        lo : low < b
        lo = ltb_lt low b (and_right (is_letter b) (ltb low b) t)

        above : (i : ℕ) → i < length (b ∷ bs) → low < get_or (b ∷ bs) i 0
        above zero h = lo
        above (suc i) h = omega (arith, lo, r.above i (le_of_suc-le-suc h))

        letter : (i : ℕ) → i < length (b ∷ bs) → (97 ≤ get_or (b ∷ bs) i 0) × (get_or (b ∷ bs) i 0 ≤ 122)
        letter zero h = letter_range b (and_left (is_letter b) (ltb low b) t)
        letter (suc i) h = r.letter i (le_of_suc-le-suc h)

        rises : (i j : ℕ) → i < j → j < length (b ∷ bs) → get_or (b ∷ bs) i 0 < get_or (b ∷ bs) j 0
        rises i zero h g = absurd (not-suc-le-zero h)
        rises zero (suc j) h g = r.above j (le_of_suc-le-suc g)
        rises (suc i) (suc j) h g = r.rises i j (le_of_suc-le-suc h) (le_of_suc-le-suc g)

rising_whole : (ls : List ℕ) (low : ℕ) → Rises low ls → rising low ls ≡ true
rising_whole [] low r = refl
rising_whole (b ∷ bs) low r =
    let (h, g) = r.letter zero (zero-lt-suc (length bs)) in
    rw (letter_kind_lem b h g, lt_ltb low b (r.above zero (zero-lt-suc (length bs))))
    (rising_whole bs b (record { above = λ i h. r.rises zero (suc i) (zero-lt-suc i) (suc-le-suc h); letter = λ i h. r.letter (suc i) (suc-le-suc h); rises = λ i j h g. r.rises (suc i) (suc j) (suc-le-suc h) (suc-le-suc g) }))

-- ---- line 1

pub head_sound : (fmt : Format) (bs : List ℕ) → is_head fmt bs ≡ true → (ls : List ℕ) × HeadForm fmt bs ls
head_sound fmt [] e = absurd (false≢true e)
head_sound fmt (b ∷ ls) e =
    let colon = and_left (eqb (kind_of b) colon_kind) (leb fewest_letters (length ls) && (leb (length ls) fmt.most_letters && rising 0 ls)) e in
    let rest = and_right (eqb (kind_of b) colon_kind) (leb fewest_letters (length ls) && (leb (length ls) fmt.most_letters && rising 0 ls)) e in
    let least = and_left (leb fewest_letters (length ls)) (leb (length ls) fmt.most_letters && rising 0 ls) rest in
    let rest' = and_right (leb fewest_letters (length ls)) (leb (length ls) fmt.most_letters && rising 0 ls) rest in
    let r : Rises 0 ls = rising_sound ls 0 (and_right (leb (length ls) fmt.most_letters) (rising 0 ls) rest') in (
      ls,
      (
        ap (λ x. x ∷ ls) (sign_byte b 13 colon),
        record {
          least = leb_true fewest_letters (length ls) least;
          most = leb_true (length ls) fmt.most_letters (and_left (leb (length ls) fmt.most_letters) (rising 0 ls) rest');
          letter = r.letter;
          rises = r.rises;
        },
      ),
    )

pub head_whole : (fmt : Format) (bs ls : List ℕ) → HeadForm fmt bs ls → is_head fmt bs ≡ true
head_whole fmt bs ls (e, L) =
    rw (e, le_leb fewest_letters (length ls) L.least, le_leb (length ls) fmt.most_letters L.most)
    (rising_whole ls 0 (record { above = λ i h. omega (arith, (L.letter i h).0); letter = L.letter; rises = L.rises }))

pub head_letters : (fmt : Format) (l : Line) (ls : List ℕ) → HeadForm fmt l.bytes ls → letters_of l ≡ ls
head_letters fmt l ls (e, L) = rw e

module _ (fmt : Format) (l : Line) where
  pub head_says : HeadSays fmt l (read_head fmt l)
  unfolding read_head line_test
  head_says = deep (bool_cases (too_deep 0 0 l.bytes)) (lt_cases 4 (count_of underscore_kind l.bytes)) (bool_cases l.ended) (bool_cases (is_head fmt l.bytes))
    where
      test : Bool → Bool → Bool → ℕ
      test a b c = choose a (λ _. 3) λ _. choose b (λ _. 4) λ _. choose c (λ _. 0) (λ _. 5)

      result : Bool → Bool → Bool → HeadRead
      result a b c = unless (eqb (test a b c) 0) (λ _. L.HeadRead.stops (test a b c)) λ _. unless (is_head fmt l.bytes) (λ _. L.HeadRead.stops 5) λ _. letters (letters_of l)

      ready : too_deep 0 0 l.bytes ≡ false → count_of underscore_kind l.bytes ≤ 4 → Countable l.bytes
      ready a b = record { nesting = λ p. contradict ((deep_exact l.bytes).1 p) a; contexts = b }

      last : Countable l.bytes → l.ended ≡ true → (is_head fmt l.bytes ≡ true) ⊎ (is_head fmt l.bytes ≡ false)
          → HeadSays fmt l (unless (is_head fmt l.bytes) (λ _. L.HeadRead.stops 5) λ _. letters (letters_of l))
      last C t (inl h) =
          let (ls, f) = head_sound fmt l.bytes h in
          rw h (subst (λ x. HeadSays fmt l (letters x)) (sym (head_letters fmt l ls f)) (says C t ls f))
      last C t (inr h) = rw h (malformed_line C t (λ ls f. contradict (head_whole fmt l.bytes ls f) h))

      deep : (too_deep 0 0 l.bytes ≡ true) ⊎ (too_deep 0 0 l.bytes ≡ false) → LtCases 4 (count_of underscore_kind l.bytes) → (l.ended ≡ true) ⊎ (l.ended ≡ false)
          → (is_head fmt l.bytes ≡ true) ⊎ (is_head fmt l.bytes ≡ false) → HeadSays fmt l (result (too_deep 0 0 l.bytes) (ltb 4 (count_of underscore_kind l.bytes)) l.ended)
      deep (inl a) b c h = rw a (nesting_too_deep ((deep_exact l.bytes).0 a))
      deep (inr a) (inl b) c h = rw (a, b.1) (too_many_contexts (λ p. contradict ((deep_exact l.bytes).1 p) a) b.0)
      deep (inr a) (inr b) (inr c) h = rw (a, b.1) (subst (λ t. HeadSays fmt l (result false false t)) (sym c) (no_line_end (ready a b.0) c))
      deep (inr a) (inr b) (inl c) h = rw (a, b.1) (subst (λ t. HeadSays fmt l (result false false t)) (sym c) (last (ready a b.0) c h))

  pub head_says_only : (r : HeadRead) → HeadSays fmt l r → read_head fmt l ≡ r
  head_says_only r s = go (read_head fmt l) r head_says s
    where
      go : (q r : HeadRead) → HeadSays fmt l q → HeadSays fmt l r → q ≡ r
      go q r (nesting_too_deep p) (nesting_too_deep p') = refl
      go q r (nesting_too_deep p) (too_many_contexts n h) = absurd (n p)
      go q r (nesting_too_deep p) (no_line_end C t) = absurd (C.nesting p)
      go q r (nesting_too_deep p) (malformed_line C t n) = absurd (C.nesting p)
      go q r (nesting_too_deep p) (says C t ls f) = absurd (C.nesting p)
      go q r (too_many_contexts n h) (nesting_too_deep p) = absurd (n p)
      go q r (too_many_contexts n h) (too_many_contexts n' h') = refl
      go q r (too_many_contexts n h) (no_line_end C t) = absurd (omega (arith, C.contexts))
      go q r (too_many_contexts n h) (malformed_line C t m) = absurd (omega (arith, C.contexts))
      go q r (too_many_contexts n h) (says C t ls f) = absurd (omega (arith, C.contexts))
      go q r (no_line_end C t) (nesting_too_deep p) = absurd (C.nesting p)
      go q r (no_line_end C t) (too_many_contexts n h) = absurd (omega (arith, C.contexts))
      go q r (no_line_end C t) (no_line_end C' t') = refl
      go q r (no_line_end C t) (malformed_line C' t' m) = contradict t' t
      go q r (no_line_end C t) (says C' t' ls f) = contradict t' t
      go q r (malformed_line C t m) (nesting_too_deep p) = absurd (C.nesting p)
      go q r (malformed_line C t m) (too_many_contexts n h) = absurd (omega (arith, C.contexts))
      go q r (malformed_line C t m) (no_line_end C' t') = contradict t t'
      go q r (malformed_line C t m) (malformed_line C' t' m') = refl
      go q r (malformed_line C t m) (says C' t' ls f) = absurd (m ls f)
      go q r (says C t ls f) (nesting_too_deep p) = absurd (C.nesting p)
      go q r (says C t ls f) (too_many_contexts n h) = absurd (omega (arith, C.contexts))
      go q r (says C t ls f) (no_line_end C' t') = contradict t t'
      go q r (says C t ls f) (malformed_line C' t' m) = absurd (m ls f)
      go q r (says C t ls f) (says C' t' ls' f') = ap letters (tail-eq_of_cons-eq (sym f.0 ∙ f'.0))

  pub head_elim : (P : HeadRead → Type 0) → ((r : ℕ) → P (L.HeadRead.stops r)) → ((ls : List ℕ) → HeadForm fmt l.bytes ls → P (letters ls)) → P (read_head fmt l)
  head_elim P off on = go (read_head fmt l) head_says
    where
      go : (r : HeadRead) → HeadSays fmt l r → P r
      go r (nesting_too_deep p) = off 3
      go r (too_many_contexts n h) = off 4
      go r (no_line_end C t) = off 5
      go r (malformed_line C t n) = off 5
      go r (says C t ls f) = on ls f
