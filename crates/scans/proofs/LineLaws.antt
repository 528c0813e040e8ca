-- Laws of what is found along a line: its end, the count of brackets, of bytes of a kind, and rising letters.
use mathlib.Core.Path.{◌≡◌, refl, sym, ap, ◌∙◌}
use mathlib.Core.Bool.{Bool, true, false, ◌&&◌, true≢false}
use mathlib.Core.Logic.{inl, inr}
use mathlib.Core.List.{List, [], ◌∷◌}
use Prim.Native.Nat.{ℕ, zero, suc, ◌+◌, ◌-◌, ◌<◌, ◌≤◌}
use native.Mathlib.Numerals.{add-one}
use native.Mathlib.Omega.{arith}
use borrow.Author.Tests.{eq-eqb, ne_eqb, lt-ltb, le-ltb, le-leb, lt-leb}
use lib.Dec.{eqb, leb}
use lib.ListN.{length, take, drop, drop_of_length-le, get_or}
use lib.Seq.{drop-cons, take_all}
use Rattle.std.proofs.Common.{length-drop}
use Rattle.std.specs.Prelude.{count_by, cond, ◌==◌}
use Rattle.std.proofs.lemmas.List.Recursion.{is_count_by}
use Rattle.std.proofs.lemmas.List.Sums.{count_by_more_yes, count_by_more_no}
use Rattle.automata.specs.Booleans.{choose}
use Rattle.automata.specs.Basics.{LtCases, lt_cases, SameCases, nat_test, same_cases, find}
use Rattle.octets.proofs.PlaceLaws.{place_within, place_before, place_found}
use Rattle.automata.specs.Format.{narrow}
use Rattle.book.specs.Kind.{kind_of, sign_only, letter_kind, open_kind, close_kind, line_end_kind, colon_kind, underscore_kind}
use Rattle.book.specs.Text.{lines_of, too_deep, count_of, line_test, rising, is_head, letters_of}
use Rattle.book.specs.Line.{letters, stops, read_head}
use Rattle.book.specs.Refusals.{refusal_number}
use Rattle.book.specs.declared.refusal.Refusal.{Refusal}
use Rattle.book.specs.declared.refusal.Refusal.TheVariants.{NestingTooDeep, TooManyContexts, MalformedLine, UndefinedSymbol, DuplicateName}
use Rattle.scans.specs.Lines.{line_of, line_at, Ends}

-- the bytes from i on are the byte at i and those past it
pub front : (s : List ℕ) (i : ℕ) → i < length s → drop i s ≡ get_or s i 0 ∷ drop (i + 1) s
front s i h = rw (add-one, drop-cons s i 0)

-- all that is left from a place on
pub rest_whole : (s : List ℕ) (at : ℕ) → take (length s - at) (drop at s) ≡ drop at s
rest_whole s at = take_all (length s - at) (drop at s) (omega (arith, length-drop at s))

-- ---- the end of a line

-- no line end from `at` up to i
pub record Plain (s : List ℕ) (at i : ℕ) : Type 0 where
  pub none : (j : ℕ) → at ≤ j → j < i → kind_of (get_or s j 0) ≡ line_end_kind → ⊥

pub plain_start : (s : List ℕ) (at : ℕ) → Plain s at at
plain_start s at = record { none = λ j h k e. omega arith }

pub plain_next : (s : List ℕ) (at i k : ℕ) → k ≡ kind_of (get_or s i 0) → (k ≡ line_end_kind → ⊥) → Plain s at i → Plain s at (i + 1)
plain_next s at i k q n p = record { none = go }
  where
    go : (j : ℕ) → at ≤ j → j < i + 1 → kind_of (get_or s j 0) ≡ line_end_kind → ⊥
    go j h l e = at_last (lt_cases j i)
      where
        at_last : LtCases j i → ⊥
        at_last (inl x) = p.none j h x.0 e
        at_last (inr x) = let z : j ≡ i = omega arith in n (q ∙ ap (λ x. kind_of (get_or s x 0)) (sym z) ∙ e)

line_from : (s : List ℕ) (i : ℕ) → i ≤ length s → (i < length s → kind_of (get_or s i 0) ≡ line_end_kind) → (n at : ℕ) → at + n ≡ i → Plain s at i → at < length s
    → lines_of (drop at s) ≡ line_at s at i ∷ lines_of (drop (suc i) s)
line_from s i w e zero at q p h =
    let z : at ≡ i = omega arith in
    let d : i - i ≡ 0 = omega arith in
    let k : i < length s = omega arith in
    rw (z, d, lt-ltb i (length s) k, drop-cons s i 0 k, eq-eqb (kind_of (get_or s i 0)) line_end_kind (e k))
line_from s i w e (suc n) at q p h =
    more (lt_cases (suc at) (length s)) (λ h. line_from s i w e n (suc at) (omega arith) (record { none = λ j a b. p.none j (omega arith) b }) h)
  where
    more : LtCases (suc at) (length s) → (suc at < length s → lines_of (drop (suc at) s) ≡ line_at s (suc at) i ∷ lines_of (drop (suc i) s)) → lines_of (drop at s) ≡ line_at s at i ∷ lines_of (drop (suc i) s)
    more (inl x) f =
        let d : i - at ≡ suc (i - suc at) = omega arith in
        rw (d, drop-cons s at 0 h, ne_eqb (kind_of (get_or s at 0)) line_end_kind (p.none at (omega arith) (omega arith)), f x.0)
    more (inr x) f =
        let d : i - at ≡ 1 = omega arith in
        rw (d, drop-cons s at 0 h, ne_eqb (kind_of (get_or s at 0)) line_end_kind (p.none at (omega arith) (omega arith)), drop_of_length-le s {i = suc at} x.0, drop_of_length-le s {i = suc i} (omega arith), le-ltb i (length s) (omega arith))

pub ends_at : (s : List ℕ) (at i : ℕ) → at ≤ i → i ≤ length s → (i < length s → kind_of (get_or s i 0) ≡ line_end_kind) → Plain s at i → Ends s at i
ends_at s at i h w e p = record { from = h; within = w; lines = λ l. line_from s i w e (i - at) at (omega arith) p l }

-- the first line end from `at` on
pub ends_from : (s : List ℕ) (at e : ℕ) → at ≤ length s → e ≡ at + find nat_test 10 (drop at s) → Ends s at e
ends_from s at e h q =
    let w = place_within s at 10 e h q in
    ends_at s at e w.0 w.1 (λ l. ap kind_of (place_found s at 10 e h q l)) (record { none = λ j l m x. place_before s at 10 e h q j l m (sign_only _ 12 x) })

-- ---- 3 and 4

-- along the line up to i: so many `(` and `)` were passed, and what is left decides as the whole
pub record Along (s : List ℕ) (i o c : ℕ) : Type 0 where
  pub opens : o ≤ i
  pub closes : c ≤ i
  pub deep : too_deep o c (drop i s) ≡ too_deep 0 0 s

pub along_start : (s : List ℕ) → Along s 0 0 0
along_start s = record { opens = omega arith; closes = omega arith; deep = refl }

module _ (s : List ℕ) (i k : ℕ) (h : i < length s) (q : k ≡ kind_of (get_or s i 0)) where
  kind_is : (x : ℕ) → k ≡ x → eqb (kind_of (get_or s i 0)) x ≡ true
  kind_is x e = eq-eqb (kind_of (get_or s i 0)) x (sym q ∙ e)

  kind_not : (x : ℕ) → (k ≡ x → ⊥) → eqb (kind_of (get_or s i 0)) x ≡ false
  kind_not x e = ne_eqb (kind_of (get_or s i 0)) x (λ w. e (q ∙ w))

  module _ {o c : ℕ} (v : Along s i o c) where
    pub along_over : k ≡ open_kind → c + 4 < suc o → too_deep 0 0 s ≡ true
    along_over e l = sym v.deep ∙ rw (front s i h, kind_is open_kind e, lt-ltb (c + 4) (suc o) l)

    pub along_open : k ≡ open_kind → suc o ≤ c + 4 → Along s (i + 1) (o + 1) c
    along_open e l = record {
      opens = omega (arith, v.opens);
      closes = omega (arith, v.closes);
      deep = rw (add-one o) (rw (front s i h, kind_is open_kind e, le-ltb (c + 4) (suc o) l) at v.deep);
    }

    pub along_close : k ≡ close_kind → Along s (i + 1) o (c + 1)
    along_close e = record {
      opens = omega (arith, v.opens);
      closes = omega (arith, v.closes);
      deep = rw (add-one c) (rw (front s i h, kind_not open_kind (λ w. omega arith), kind_is close_kind e) at v.deep);
    }

    pub along_other : (k ≡ open_kind → ⊥) → (k ≡ close_kind → ⊥) → Along s (i + 1) o c
    along_other a b = record {
      opens = omega (arith, v.opens);
      closes = omega (arith, v.closes);
      deep = rw (front s i h, kind_not open_kind a, kind_not close_kind b) at v.deep;
    }

  -- ---- rising letters
  pub rises_not : (low : ℕ) → (k ≡ letter_kind → ⊥) → rising low (drop i s) ≡ false
  rises_not low n = rw (front s i h, kind_not letter_kind n)

  pub rises_low : (low : ℕ) → k ≡ letter_kind → get_or s i 0 ≤ low → rising low (drop i s) ≡ false
  rises_low low e l = rw (front s i h, kind_is letter_kind e, le-ltb low (get_or s i 0) l)

  pub rises_on : (low : ℕ) → k ≡ letter_kind → low < get_or s i 0 → rising (get_or s i 0) (drop (i + 1) s) ≡ rising low (drop i s)
  rises_on low e l = rw (front s i h, kind_is letter_kind e, lt-ltb low (get_or s i 0) l)

-- a byte is passed: `(` is one more there and not too deep, `)` one more there, and nothing else counts
pub along_next : (s : List ℕ) (i o c o' c' : ℕ) → i < length s → Along s i o c
    → (get_or s i 0 ≡ 40 → o' ≡ o + 1) → (get_or s i 0 ≡ 40 → o' ≤ c + 4) → ((get_or s i 0 ≡ 40 → ⊥) → o' ≡ o) → (get_or s i 0 ≡ 41 → c' ≡ c + 1) → ((get_or s i 0 ≡ 41 → ⊥) → c' ≡ c) → Along s (i + 1) o' c'
along_next s i o c o' c' h v p few q r t = go (same_cases nat_test (get_or s i 0) 40) (same_cases nat_test (get_or s i 0) 41)
  where
    go : SameCases nat_test (get_or s i 0) 40 → SameCases nat_test (get_or s i 0) 41 → Along s (i + 1) o' c'
    go (inl x) y = rw (p x.0, t (λ z. omega (arith, x.0, z))) (along_open s i _ h refl v (ap kind_of x.0) (omega (arith, few x.0, p x.0)))
    go (inr x) (inl y) = rw (q x.0, r y.0) (along_close s i _ h refl v (ap kind_of y.0))
    go (inr x) (inr y) = rw (q x.0, t y.0) (along_other s i _ h refl v (λ e. x.0 (sign_only _ 2 e)) (λ e. y.0 (sign_only _ 10 e)))

pub shallow : {s : List ℕ} {i o c : ℕ} → Along s i o c → length s ≤ i → too_deep 0 0 s ≡ false
shallow {s} {i} v h = sym v.deep ∙ rw (drop_of_length-le s {i = i} h)

-- the bytes of `_`'s kind are the bytes `_`
gap_step : (b : ℕ) (s : List ℕ) → count_of underscore_kind (b ∷ s) ≡ cond (b == 95) (1 + count_of underscore_kind s) (count_of underscore_kind s)
gap_step b s = go (same_cases nat_test b 95)
  where
    go : SameCases nat_test b 95 → count_of underscore_kind (b ∷ s) ≡ cond (b == 95) (1 + count_of underscore_kind s) (count_of underscore_kind s)
    go (inl p) = rw (eq-eqb (kind_of b) underscore_kind (ap kind_of p.0), p.1) (omega arith)
    go (inr p) = rw (ne_eqb (kind_of b) underscore_kind (λ e. p.0 (sign_only b 17 e)), p.1)

pub gaps_counted : (s : List ℕ) → count_of underscore_kind s ≡ count_by (λ b. b == 95) s
gaps_counted s = is_count_by (count_of underscore_kind) (λ b. b == 95) refl gap_step s

-- a byte is passed: `_` is one more there, and nothing else counts
pub gaps_next : (s : List ℕ) (i n n' : ℕ) → i < length s → n ≡ count_by (λ b. b == 95) (take i s) → (get_or s i 0 ≡ 95 → n' ≡ n + 1) → ((get_or s i 0 ≡ 95 → ⊥) → n' ≡ n) → n' ≡ count_by (λ b. b == 95) (take (i + 1) s)
gaps_next s i n n' h v p q = go (same_cases nat_test (get_or s i 0) 95)
  where
    go : SameCases nat_test (get_or s i 0) 95 → n' ≡ count_by (λ b. b == 95) (take (i + 1) s)
    go (inl x) = p x.0 ∙ ap (λ k. k + 1) v ∙ sym (count_by_more_yes (λ b. b == 95) s i 0 h x.1)
    go (inr x) = q x.0 ∙ v ∙ sym (count_by_more_no (λ b. b == 95) s i 0 h x.1)

pub rises_end : (s : List ℕ) (i low : ℕ) → length s ≤ i → rising low (drop i s) ≡ true
rises_end s i low h = rw (drop_of_length-le s {i = i} h)

-- ---- the tests of a line

module _ (bs : List ℕ) (ended : Bool) where
  pub test_deep : too_deep 0 0 bs ≡ true → line_test (line_of bs ended) ≡ 3
  unfolding line_test
  test_deep e = rw e

  pub test_contexts : too_deep 0 0 bs ≡ false → 4 < count_of underscore_kind bs → line_test (line_of bs ended) ≡ 4
  unfolding line_test
  test_contexts e h = rw (e, lt-ltb 4 (count_of underscore_kind bs) h)

  pub test_end : too_deep 0 0 bs ≡ false → count_of underscore_kind bs ≤ 4 → line_test (line_of bs ended) ≡ choose ended (λ _. 0) (λ _. 5)
  unfolding line_test
  test_end e h = rw (e, le-ltb 4 (count_of underscore_kind bs) h)

-- ---- line 1

pub head_none : (s : List ℕ) → length s < 1 → is_head narrow s ≡ false
head_none [] h = refl
head_none (b ∷ s) h = absurd (omega arith)

and_false : (a : Bool) → a && false ≡ false
and_false true = refl
and_false false = refl

module _ (s : List ℕ) (k : ℕ) (h : 0 < length s) (q : k ≡ kind_of (get_or s 0 0)) where
  head_is : is_head narrow s ≡ eqb k colon_kind && (leb 1 (length s - 1) && (leb (length s - 1) 26 && rising 0 (drop 1 s)))
  head_is = go s h q
    where
      go : (s : List ℕ) → 0 < length s → k ≡ kind_of (get_or s 0 0) → is_head narrow s ≡ eqb k colon_kind && (leb 1 (length s - 1) && (leb (length s - 1) 26 && rising 0 (drop 1 s)))
      go [] h q = absurd (omega arith)
      go (b ∷ s) h q = let z : suc (length s) - 1 ≡ length s = omega arith in rw (q, z)

  pub head_sign : (k ≡ colon_kind → ⊥) → is_head narrow s ≡ false
  head_sign n = head_is ∙ rw (ne_eqb k colon_kind n)

  pub head_short : k ≡ colon_kind → length s < 2 → is_head narrow s ≡ false
  head_short e l = head_is ∙ rw (eq-eqb k colon_kind e, lt-leb 1 (length s - 1) (omega arith))

  pub head_long : k ≡ colon_kind → 27 < length s → is_head narrow s ≡ false
  head_long e l = head_is ∙ rw (eq-eqb k colon_kind e, le-leb 1 (length s - 1) (omega arith), lt-leb (length s - 1) 26 (omega arith))

  pub head_rises : k ≡ colon_kind → 2 ≤ length s → length s ≤ 27 → is_head narrow s ≡ rising 0 (drop 1 s)
  head_rises e l m = head_is ∙ rw (eq-eqb k colon_kind e, le-leb 1 (length s - 1) (omega arith), le-leb (length s - 1) 26 (omega arith))

-- a refusal's number is none of a line that passes
pub refused_not : (r : Refusal) → refusal_number r ≡ 0 → ⊥
refused_not NestingTooDeep e = omega arith
refused_not TooManyContexts e = omega arith
refused_not MalformedLine e = omega arith
refused_not UndefinedSymbol e = omega arith
refused_not DuplicateName e = omega arith

module _ (s : List ℕ) (ended : Bool) where
  pub head_tested : (r : Refusal) → line_test (line_of s ended) ≡ refusal_number r → read_head narrow (line_of s ended) ≡ stops (refusal_number r)
  unfolding read_head
  head_tested r q = rw (q, ne_eqb (refusal_number r) 0 (refused_not r))

  pub head_letters : line_test (line_of s ended) ≡ 0 → is_head narrow s ≡ true → read_head narrow (line_of s ended) ≡ letters (take (length s - 1) (drop 1 s))
  unfolding read_head
  head_letters q h = rw (q, h) (ap letters (go s))
    where
      go : (s : List ℕ) → letters_of (line_of s ended) ≡ take (length s - 1) (drop 1 s)
      go [] = refl
      go (b ∷ s) = let z : suc (length s) - 1 ≡ length s = omega arith in rw z (sym (take_all (length s) s (omega arith)))

  pub head_malformed : line_test (line_of s ended) ≡ 0 → is_head narrow s ≡ false → read_head narrow (line_of s ended) ≡ stops 5
  unfolding read_head
  head_malformed q h = rw (q, h)

pub head_length : (s : List ℕ) → is_head narrow s ≡ true → 1 ≤ length s
head_length [] e = absurd (true≢false (sym e))
head_length (b ∷ s) e = omega arith
