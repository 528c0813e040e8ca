-- "The kind of every byte (letter, name, each sign, space, line end, stray) is one constant table": here are the kinds; crates/lexer has the table.
-- The definitions of the reader know bytes by their kinds only.
use Rattle.std.specs.Prelude.{◌≡◌, refl, Bool, true, false, ◌&&◌, List, [], ◌∷◌, ℕ, zero, suc, ◌+◌, ◌≤◌, ◌<◌, eqb, ltb, leb, length, get_or}
use Rattle.std.proofs.Common.{inl, inr, zero-le, suc-le-suc, arith, le-leb, eq-eqb, ne_eqb}
use Rattle.std.proofs.lemmas.Bool.{lt-leb}
use Rattle.automata.specs.Booleans.{choose}
use Rattle.automata.specs.Basics.{SameCases, nat_test, same_cases, ltb_lt}
use Rattle.automata.specs.Decide.{all_below_lem}

-- The kinds, numbered so that those which begin an item, those which go on with one, and those which join chains stand in a row each; the signs in
-- the order of `signs`.
abbrev pub stray_kind : ℕ
stray_kind = 0

abbrev pub letter_kind : ℕ
letter_kind = 1

abbrev pub name_kind : ℕ
name_kind = 2

abbrev pub dot_kind : ℕ
dot_kind = 3

abbrev pub at_kind : ℕ
at_kind = 4

abbrev pub open_kind : ℕ
open_kind = 5

abbrev pub bang_kind : ℕ
bang_kind = 6

abbrev pub star_kind : ℕ
star_kind = 7

abbrev pub plus_kind : ℕ
plus_kind = 8

abbrev pub question_kind : ℕ
question_kind = 9

abbrev pub ampersand_kind : ℕ
ampersand_kind = 10

abbrev pub minus_kind : ℕ
minus_kind = 11

abbrev pub bar_kind : ℕ
bar_kind = 12

abbrev pub close_kind : ℕ
close_kind = 13

abbrev pub space_kind : ℕ
space_kind = 14

abbrev pub line_end_kind : ℕ
line_end_kind = 15

abbrev pub colon_kind : ℕ
colon_kind = 16

abbrev pub equals_kind : ℕ
equals_kind = 17

abbrev pub greater_kind : ℕ
greater_kind = 18

abbrev pub slash_kind : ℕ
slash_kind = 19

abbrev pub underscore_kind : ℕ
underscore_kind = 20

abbrev pub less_kind : ℕ
less_kind = 21

abbrev pub caret_kind : ℕ
caret_kind = 22

-- the signs, the space and the line end:  . @ ( ! * + ? & - | ) space line-end : = > / _ < ^
abbrev pub signs : List ℕ
signs = 46 ∷ 64 ∷ 40 ∷ 33 ∷ 42 ∷ 43 ∷ 63 ∷ 38 ∷ 45 ∷ 124 ∷ 41 ∷ 32 ∷ 10 ∷ 58 ∷ 61 ∷ 62 ∷ 47 ∷ 95 ∷ 60 ∷ 94 ∷ []

abbrev pub sign_kind : ℕ → List ℕ → ℕ → ℕ
sign_kind b [] k = stray_kind
sign_kind b (s ∷ ss) k = choose (eqb b s) (λ _. k) (λ _. sign_kind b ss (suc k))

-- "A letter is a byte 0x61 to 0x7A (a to z)"; "a name (one byte A to Z)"; then the signs in their order; all others are stray.
abbrev pub kind_of : ℕ → ℕ
kind_of b =
    choose (leb 97 b && leb b 122) (λ _. letter_kind) λ _.
    choose (leb 65 b && leb b 90) (λ _. name_kind) λ _.
    sign_kind b signs dot_kind

abbrev pub is_letter : ℕ → Bool
is_letter b = eqb (kind_of b) letter_kind

abbrev pub is_name : ℕ → Bool
is_name b = eqb (kind_of b) name_kind

-- a letter, a name, `.`, `@`, `(`, `!` begin an item
abbrev pub item_kind : ℕ → Bool
item_kind k = leb letter_kind k && leb k bang_kind

abbrev pub starts_item : ℕ → Bool
starts_item b = item_kind (kind_of b)

-- ---- a sign is known by its kind

module _ (b : ℕ) where
  -- a sign's kind, counted from k, is k and its place
  sign_place : (ss : List ℕ) (k i : ℕ) → 1 ≤ k → eqb (sign_kind b ss k) (k + i) ≡ true → b ≡ get_or ss i 0
  sign_place [] k i h e = absurd (omega (arith, nat_test.sound 0 (k + i) e))
  sign_place (s ∷ ss) k i h e = go (same_cases nat_test b s) i e (sign_place ss (suc k))
    where
      above : (ss : List ℕ) (k : ℕ) → 1 ≤ k → (sign_kind b ss k ≡ 0 → ⊥) → k ≤ sign_kind b ss k
      above [] k h n = absurd (n refl)
      above (s ∷ ss) k h n = at (eqb b s) n (above ss (suc k) (omega arith))
        where
          at : (t : Bool) → (choose t (λ _. k) (λ _. sign_kind b ss (suc k)) ≡ 0 → ⊥) → ((sign_kind b ss (suc k) ≡ 0 → ⊥) → suc k ≤ sign_kind b ss (suc k)) → k ≤ choose t (λ _. k) (λ _. sign_kind b ss (suc k))
          at true n f = omega arith
          at false n f = omega (arith, f n)

      go : SameCases nat_test b s → (i : ℕ) → eqb (choose (eqb b s) (λ _. k) (λ _. sign_kind b ss (suc k))) (k + i) ≡ true
          → ((i : ℕ) → 1 ≤ suc k → eqb (sign_kind b ss (suc k)) (suc k + i) ≡ true → b ≡ get_or ss i 0) → b ≡ get_or (s ∷ ss) i 0
      go (inl p) zero e f = p.0
      go (inl p) (suc i) e f = let z : k ≡ k + suc i = nat_test.sound k (k + suc i) (rw p.1 at e) in absurd (omega arith)
      go (inr p) zero e f =
          let z : sign_kind b ss (suc k) ≡ k + zero = nat_test.sound (sign_kind b ss (suc k)) (k + zero) (rw p.1 at e) in
          absurd (omega (arith, above ss (suc k) (omega arith) (λ x. omega arith)))
      go (inr p) (suc i) e f = let z : k + suc i ≡ suc k + i = omega arith in f i (omega arith) (subst_eq z (rw p.1 at e))
        where
          subst_eq : k + suc i ≡ suc k + i → eqb (sign_kind b ss (suc k)) (k + suc i) ≡ true → eqb (sign_kind b ss (suc k)) (suc k + i) ≡ true
          subst_eq z e = rw (← z) e

  -- The byte of a sign, from its kind.
  pub sign_byte : (i : ℕ) → eqb (kind_of b) (dot_kind + i) ≡ true → b ≡ get_or signs i 0
  sign_byte i e = go (leb 97 b && leb b 122) (leb 65 b && leb b 90) e
    where
      go : (s t : Bool) → eqb (choose s (λ _. letter_kind) (λ _. choose t (λ _. name_kind) (λ _. sign_kind b signs dot_kind))) (dot_kind + i) ≡ true → b ≡ get_or signs i 0
      go true t e = absurd (omega (arith, nat_test.sound letter_kind (dot_kind + i) e))
      go false true e = absurd (omega (arith, nat_test.sound name_kind (dot_kind + i) e))
      go false false e = sign_place signs dot_kind i (omega arith) e

  -- The same from an equation: a sign is the one byte of its kind.
  pub sign_only : (i : ℕ) → kind_of b ≡ dot_kind + i → b ≡ get_or signs i 0
  sign_only i e = sign_byte i (eq-eqb (kind_of b) (dot_kind + i) e)

-- ---- "All bytes from 0x80 up are stray"

-- the first of them; ASCII ends before it
abbrev pub ascii_end : ℕ
ascii_end = 128

module _ (b : ℕ) where
  -- a byte above all signs is none of them
  no_sign : (ss : List ℕ) (k : ℕ) → ((i : ℕ) → i < length ss → get_or ss i 0 < b) → sign_kind b ss k ≡ stray_kind
  no_sign [] k f = refl
  no_sign (s ∷ ss) k f =
      let low : s < b = f 0 (suc-le-suc zero-le) in
      rw (ne_eqb b s (λ e. omega arith)) (no_sign ss (suc k) (λ i h. f (suc i) (suc-le-suc h)))

  -- Letters and names end before 0x80, and every sign stands before it.
  pub kind_high : ascii_end ≤ b → kind_of b ≡ stray_kind
  kind_high h =
      rw (le-leb 97 b (omega arith), lt-leb b 122 (omega arith), le-leb 65 b (omega arith), lt-leb b 90 (omega arith))
      (no_sign signs dot_kind λ i k. let low = ltb_lt (get_or signs i 0) ascii_end (all_below_lem (λ j. ltb (get_or signs j 0) ascii_end) (length signs) refl i k) in omega arith)
