-- Laws of membership, of the names' flags, and of the letters and names of a program.
use mathlib.Core.Path.{◌≡◌, refl, sym, ap, ◌∙◌}
use mathlib.Core.Bool.{Bool, true, false, ◌&&◌}
use mathlib.Core.Logic.{inl, inr, ◌≢◌}
use mathlib.Core.List.{List, [], ◌∷◌}
use Prim.Native.Nat.{ℕ, suc, ◌+◌, ◌-◌, ◌<◌, ◌≤◌}
use native.Mathlib.Omega.{arith}
use borrow.Author.Tests.{eq-eqb, ne_eqb, leb-true}
use lib.Dec.{eqb, ltb, leb}
use lib.ListN.{length, drop, drop_of_length-le, get_or, set, replicate, get_or-replicate}
use lib.Seq.{get_or-set_same, get_or-set_other}
use Rattle.automata.specs.Booleans.{choose, and_left, and_right}
use Rattle.automata.specs.Basics.{LtCases, lt_cases, SameCases, same_cases, nat_test, find, lt_ltb, ltb_false}
use Rattle.language.specs.Expression.{member}
use Rattle.std.specs.List.{list_any}
use Rattle.std.proofs.Common.{nat_eq}
use Rattle.book.specs.Kind.{kind_of, is_name, signs, sign_kind, letter_kind, name_kind, dot_kind}
use Rattle.reader.specs.declared.names.Names.{Names}
use Rattle.reader.specs.Names.{Holds, More}
use Rattle.reader.specs.Known.{code_known, KnowsSymbol, Knows}
use Rattle.scans.proofs.LineLaws.{front}

-- ---- membership

pub member_same : (x y : ℕ) (l : List ℕ) → y ≡ x → member x (y ∷ l) ≡ true
member_same x y l e = rw (eq-eqb x y (sym e)) (lt_ltb 0 (suc (length l)) (omega arith))

pub member_other : (x y : ℕ) (l : List ℕ) → (y ≡ x → ⊥) → member x (y ∷ l) ≡ member x l
member_other x y l n = rw (ne_eqb x y (λ e. n (sym e))) (go (lt_cases (find nat_test x l) (length l)))
  where
    go : LtCases (find nat_test x l) (length l) → ltb (suc (find nat_test x l)) (suc (length l)) ≡ ltb (find nat_test x l) (length l)
    go (inl p) = lt_ltb (suc (find nat_test x l)) (suc (length l)) (omega arith) ∙ sym p.1
    go (inr p) = ltb_false (suc (find nat_test x l)) (suc (length l)) (omega arith) ∙ sym p.1

-- the letters as the library's test of a list
pub member_any : (x : ℕ) (l : List ℕ) → list_any (λ y. nat_eq y x) l ≡ member x l
member_any x [] = refl
member_any x (y ∷ l) = go (same_cases nat_test y x) (member_any x l)
  where
    go : SameCases nat_test y x → list_any (λ y. nat_eq y x) l ≡ member x l → list_any (λ y. nat_eq y x) (y ∷ l) ≡ member x (y ∷ l)
    go (inl p) e = rw (p.1, member_same x y l p.0) refl
    go (inr p) e = rw (p.1, member_other x y l p.0) e

-- ---- names

sign_above : (b : ℕ) (ss : List ℕ) (k : ℕ) → dot_kind ≤ k → sign_kind b ss k ≢ name_kind
sign_above b [] k h e = omega arith
sign_above b (s ∷ ss) k h e = go (eqb b s) e (sign_above b ss (suc k) (omega arith))
  where
    go : (t : Bool) → choose t (λ _. k) (λ _. sign_kind b ss (suc k)) ≡ name_kind → sign_kind b ss (suc k) ≢ name_kind → ⊥
    go true e f = omega arith
    go false e f = f e

-- a name is a byte A to Z
pub name_byte : (b : ℕ) → is_name b ≡ true → (65 ≤ b) × (b ≤ 90)
name_byte b e = go (leb 97 b && leb b 122) (leb 65 b && leb b 90) refl (nat_test.sound (kind_of b) name_kind e)
  where
    go : (s t : Bool) → leb 65 b && leb b 90 ≡ t → ◌≡◌ {A = ℕ} (choose s (λ _. letter_kind) (λ _. choose t (λ _. name_kind) (λ _. sign_kind b signs dot_kind))) name_kind → (65 ≤ b) × (b ≤ 90)
    go true t q e = absurd (omega arith)
    go false true q e = (leb-true 65 b (and_left (leb 65 b) (leb b 90) q), leb-true b 90 (and_right (leb 65 b) (leb b 90) q))
    go false false q e = absurd (sign_above b signs dot_kind (omega arith) e)

name_range : (b : ℕ) → is_name b ≡ true → b - 65 < 26
name_range b e = omega (arith, (name_byte b e).0, (name_byte b e).1)

pub holds_none : (f : Names) → f.defined ≡ replicate 26 false → Holds f []
holds_none f e = record { says = λ x n. rw e (sym (get_or-replicate 26 (x - 65) false false (name_range x n))) }

pub holds_more : (f : Names) (x : ℕ) (r : Names) → is_name x ≡ true → length f.defined ≡ 26 → r.defined ≡ set f.defined (x - 65) true → More f x r
holds_more f x r n l e = record { more = λ names h. record { says = λ y m. go names h y m (same_cases nat_test x y) } }
  where
    go : (names : List ℕ) → Holds f names → (y : ℕ) → is_name y ≡ true → SameCases nat_test x y → member y (x ∷ names) ≡ get_or r.defined (y - 65) false
    go names h y m (inl p) =
        member_same y x names p.0 ∙ sym (rw (e, ← p.0) (get_or-set_same f.defined (x - 65) true false (omega (arith, name_range x n))))
    go names h y m (inr p) =
        member_other y x names p.0 ∙ h.says y m ∙ sym (rw e (get_or-set_other f.defined (x - 65) (y - 65) true false (λ z. p.0 (omega (arith, (name_byte x n).0, (name_byte y m).0)))))

-- ---- the letters and names of a program

-- the code from i on is known exactly when the whole is
pub record KnownFrom (code letters : List ℕ) (f : Names) (i : ℕ) : Type 0 where
  pub says : (names : List ℕ) → Holds f names → code_known letters names (drop i code) ≡ code_known letters names code

module _ (b k : ℕ) (letters : List ℕ) (f : Names) (q : k ≡ kind_of b) where
  is_kind : (x : ℕ) → k ≡ x → eqb (kind_of b) x ≡ true
  is_kind x e = eq-eqb (kind_of b) x (sym q ∙ e)

  not_kind : (x : ℕ) → (k ≡ x → ⊥) → eqb (kind_of b) x ≡ false
  not_kind x n = ne_eqb (kind_of b) x (λ w. n (q ∙ w))

  pub is_name_lem : k ≡ name_kind → is_name b ≡ true
  is_name_lem e = is_kind name_kind e

  pub symbol_letter : (r : Bool) → k ≡ letter_kind → r ≡ member b letters → KnowsSymbol b letters f r
  symbol_letter r e m = record { says = λ names o. rw (is_kind letter_kind e) m }

  pub symbol_name : (r : Bool) → k ≡ name_kind → r ≡ get_or f.defined (b - 65) false → KnowsSymbol b letters f r
  symbol_name r e m = record { says = λ names o. rw (not_kind letter_kind (λ w. omega arith), is_kind name_kind e) (m ∙ sym (o.says b (is_kind name_kind e))) }

  pub symbol_other : (k ≡ letter_kind → ⊥) → (k ≡ name_kind → ⊥) → KnowsSymbol b letters f true
  symbol_other m n = record { says = λ names o. rw (not_kind letter_kind m, not_kind name_kind n) }

module _ (code letters : List ℕ) (f : Names) (i : ℕ) (r : Bool) (h : i < length code) (s : KnowsSymbol (get_or code i 0) letters f r) (v : KnownFrom code letters f i) where
  step : (names : List ℕ) → Holds f names → code_known letters names code ≡ r && code_known letters names (drop (i + 1) code)
  step names o = sym (v.says names o) ∙ rw (front code i h) (ap (λ t. t && code_known letters names (drop (i + 1) code)) (sym (s.says names o)))

  pub known_not : r ≡ false → Knows code letters f false
  known_not e = record { says = λ names o. sym (rw e at (step names o)) }

  pub known_next : r ≡ true → KnownFrom code letters f (i + 1)
  known_next e = record { says = λ names o. sym (rw e at (step names o)) }

pub known_start : (code letters : List ℕ) (f : Names) → KnownFrom code letters f 0
known_start code letters f = record { says = λ names o. refl }

pub known_end : (code letters : List ℕ) (f : Names) (i : ℕ) → length code ≤ i → KnownFrom code letters f i → Knows code letters f true
known_end code letters f i h v = record { says = λ names o. sym (sym (v.says names o) ∙ rw (drop_of_length-le code {i = i} h)) }
