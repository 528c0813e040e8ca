-- What a test of a token's kind says of its number.
use Rattle.std.proofs.Common.{◌≡◌, refl, ap, sym, ◌∙◌, true, false, Bool, ◌&&◌, ℕ, ◌<◌, ◌≤◌, eqb, leb, arith}
use mathlib.Core.Bool.{not}
use denote.Enum.Bare.{sameb, same_true, same_false, differs_true, differs_false}
use Rattle.lexer.specs.contracts.kinds.Kind.{the_type}
use Rattle.automata.specs.Booleans.{choose}
use Rattle.lexer.specs.Kinds.{kind_number}
use Rattle.lexer.specs.declared.kinds.Kind.{Kind}
use Rattle.lexer.specs.declared.kinds.Kind.TheVariants.{Stray, Letter, Name, Dot, At, Open, Bang, Star, Plus, Question, Ampersand, Minus, Bar, Close, Space, LineEnd, Colon, Equals, Greater, Slash, Underscore, Less, Caret}

-- the kind of a number
abbrev kind_at : ℕ → Kind
kind_at n =
    choose (eqb n 1) (λ _. Letter) λ _.
    choose (eqb n 2) (λ _. Name) λ _.
    choose (eqb n 3) (λ _. Dot) λ _.
    choose (eqb n 4) (λ _. At) λ _.
    choose (eqb n 5) (λ _. Open) λ _.
    choose (eqb n 6) (λ _. Bang) λ _.
    choose (eqb n 7) (λ _. Star) λ _.
    choose (eqb n 8) (λ _. Plus) λ _.
    choose (eqb n 9) (λ _. Question) λ _.
    choose (eqb n 10) (λ _. Ampersand) λ _.
    choose (eqb n 11) (λ _. Minus) λ _.
    choose (eqb n 12) (λ _. Bar) λ _.
    choose (eqb n 13) (λ _. Close) λ _.
    choose (eqb n 14) (λ _. Space) λ _.
    choose (eqb n 15) (λ _. LineEnd) λ _.
    choose (eqb n 16) (λ _. Colon) λ _.
    choose (eqb n 17) (λ _. Equals) λ _.
    choose (eqb n 18) (λ _. Greater) λ _.
    choose (eqb n 19) (λ _. Slash) λ _.
    choose (eqb n 20) (λ _. Underscore) λ _.
    choose (eqb n 21) (λ _. Less) λ _.
    choose (eqb n 22) (λ _. Caret) λ _.
    Stray

kind_back : (k : Kind) → kind_at (kind_number k) ≡ k
kind_back Stray = refl
kind_back Letter = refl
kind_back Name = refl
kind_back Dot = refl
kind_back At = refl
kind_back Open = refl
kind_back Bang = refl
kind_back Star = refl
kind_back Plus = refl
kind_back Question = refl
kind_back Ampersand = refl
kind_back Minus = refl
kind_back Bar = refl
kind_back Close = refl
kind_back Space = refl
kind_back LineEnd = refl
kind_back Colon = refl
kind_back Equals = refl
kind_back Greater = refl
kind_back Slash = refl
kind_back Underscore = refl
kind_back Less = refl
kind_back Caret = refl

-- a number is of one kind
pub kind_only : (k j : Kind) → kind_number k ≡ kind_number j → k ≡ j
kind_only k j e = sym (kind_back k) ∙ (ap kind_at e ∙ kind_back j)

-- a test `k == j`
module _ {b : Bool} (k j : Kind) (e : b ≡ sameb the_type k j) where
  pub equal_true : b ≡ true → kind_number k ≡ kind_number j
  equal_true q = ap kind_number (same_true the_type tt k j (sym e ∙ q))

  pub equal_false : b ≡ false → kind_number k ≡ kind_number j → ⊥
  equal_false q n = same_false the_type k j (sym e ∙ q) (kind_only k j n)

-- a test `k != j`
module _ {b : Bool} (k j : Kind) (e : b ≡ not (sameb the_type k j)) where
  pub unequal_true : b ≡ true → kind_number k ≡ kind_number j → ⊥
  unequal_true q n = differs_true the_type k j (sym e ∙ q) (kind_only k j n)

  pub unequal_false : b ≡ false → kind_number k ≡ kind_number j
  unequal_false q = ap kind_number (differs_false the_type tt k j (sym e ∙ q))

-- a test of a range of kinds
module _ {r : Bool} (a b : ℕ) (k : Kind) (e : r ≡ (leb a (kind_number k) && leb (kind_number k) b)) where
  pub inside : r ≡ true → (a ≤ kind_number k) × (kind_number k ≤ b)
  inside q = go (kind_number k) (sym e ∙ q)
    where
      go : (n : ℕ) → (leb a n && leb n b) ≡ true → (a ≤ n) × (n ≤ b)
      go n z = grind arith

  pub outside : r ≡ false → a ≤ kind_number k → b < kind_number k
  outside q = go (kind_number k) (sym e ∙ q)
    where
      go : (n : ℕ) → (leb a n && leb n b) ≡ false → a ≤ n → b < n
      go n z h = grind arith
