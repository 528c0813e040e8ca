-- Rows of flags, entry by entry.
use mathlib.Core.Path.{◌≡◌, refl, sym, ap, ◌∙◌}
use mathlib.Core.Bool.{Bool, true, false, ◌&&◌, ◌||◌, not, false≢true}
use mathlib.Core.Logic.{inl, inr}
use mathlib.Core.List.{List, [], ◌∷◌}
use Prim.Native.Nat.{ℕ, zero, suc, ◌+◌, ◌<◌, ◌≤◌}
use native.Mathlib.Nat.{not-suc-le-zero, le_of_suc-le-suc}
use native.Mathlib.Numerals.{add-one}
use native.Mathlib.Omega.{arith}
use lib.Dec.{eqb}
use lib.ListN.{length, get_or, set, replicate, length-set, length-replicate, get_or-replicate}
use lib.Seq.{ext_get_or, get_or-set_same, get_or-set_other}
use borrow.Author.Tests.{eq-eqb, ne_eqb}
use Rattle.std.specs.List.{zip, list_any}
use Rattle.automata.specs.Table.{flag_of}
use Rattle.automata.specs.Booleans.{choose, not_true}
use Rattle.automata.specs.Basics.{length_tab, get_or_tab, SameCases, same_cases, nat_test}
use Rattle.automata.specs.Decide.{any_below, any_below_lem}
use Rattle.rows.specs.Rows.{bit, flag_at}
use Rattle.flags.specs.Flags.{flag_row, leads_to, some_accepting}

-- A row whose flags the test says.
pub record Flags (m : ℕ) (f : ℕ → Bool) (row : List ℕ) : Type 0 where
  pub long : length row ≡ m
  pub entry : (t : ℕ) → t < m → get_or row t 0 ≡ bit (f t)

pub flags_row : {m : ℕ} {f : ℕ → Bool} {row : List ℕ} → Flags m f row → row ≡ flag_row f m
flags_row {m} {f} {row} F =
    ext_get_or 0 row (flag_row f m) (F.long ∙ sym (length_tab (λ t. bit (f t)) m))
    λ t h. F.entry t (omega (arith, F.long)) ∙ sym (get_or_tab (λ t. bit (f t)) m t 0 (omega (arith, F.long)))

pub row_flags : {m : ℕ} {f : ℕ → Bool} {row : List ℕ} → row ≡ flag_row f m → Flags m f row
row_flags {m} {f} {row} e = record {
  long = ap length e ∙ length_tab (λ t. bit (f t)) m;
  entry = λ t h. ap (λ (l : List ℕ). get_or l t 0) e ∙ get_or_tab (λ t. bit (f t)) m t 0 h;
}

-- the same flags by another test
pub flags_same : {m : ℕ} {f g : ℕ → Bool} {row : List ℕ} → Flags m f row → ((t : ℕ) → t < m → f t ≡ g t) → Flags m g row
flags_same F h = record { long = F.long; entry = λ t b. F.entry t b ∙ ap bit (h t b) }

pub flags_none : {m : ℕ} {row : List ℕ} → row ≡ replicate m 0 → Flags m (λ t. false) row
flags_none {m} e = record { long = ap length e ∙ length-replicate m 0; entry = λ t h. ap (λ (l : List ℕ). get_or l t 0) e ∙ get_or-replicate m t 0 0 h }

-- one flag more
pub flags_set : {m : ℕ} {f g : ℕ → Bool} {row : List ℕ} (x : ℕ) → Flags m f row → x < m → g x ≡ true → ((t : ℕ) → t < m → (t ≡ x → ⊥) → g t ≡ f t) → Flags m g (set row x 1)
flags_set {m} {f} {g} {row} x F b here other = record { long = length-set row x 1 ∙ F.long; entry = λ t h. go t h (same_cases nat_test t x) }
  where
    go : (t : ℕ) → t < m → SameCases nat_test t x → get_or (set row x 1) t 0 ≡ bit (g t)
    go t h (inl p) = rw (p.0, get_or-set_same row x 1 0 (omega (arith, F.long)), here)
    go t h (inr p) = get_or-set_other row x t 1 0 p.0 ∙ F.entry t h ∙ ap bit (sym (other t h p.0))

-- ---- members of a row

pub flag_set : (r : List ℕ) (q : ℕ) → (get_or r q 0 ≡ 0 → ⊥) → flag_at r q ≡ true
flag_set r q h = ap not (ne_eqb (get_or r q 0) 0 h)

pub flag_clear : (r : List ℕ) (q : ℕ) → get_or r q 0 ≡ 0 → flag_at r q ≡ false
flag_clear r q h = ap not (eq-eqb (get_or r q 0) 0 h)

pub bit_flag : (r : List ℕ) (q : ℕ) (b : Bool) → get_or r q 0 ≡ bit b → flag_at r q ≡ b
bit_flag r q true e = rw e
bit_flag r q false e = rw e

pub any_next : (f : ℕ → Bool) (n : ℕ) → any_below f (n + 1) ≡ choose (f n) (λ _. true) (λ _. any_below f n)
any_next f n = rw add-one

pub any_ext : (f g : ℕ → Bool) (n : ℕ) → ((i : ℕ) → i < n → f i ≡ g i) → any_below f n ≡ any_below g n
any_ext f g zero h = refl
any_ext f g (suc n) h = rw (h n (omega arith), any_ext f g n (λ i b. h i (omega arith)))

-- ---- what the members lead to

module _ (member : ℕ → Bool) (next : ℕ → ℕ) (m q : ℕ) {row : List ℕ} (F : Flags m (leads_to member next q) row) where
  -- q is one, and its flag is set
  pub lead_in : member q ≡ true → next q < m → Flags m (leads_to member next (q + 1)) (set row (next q) 1)
  lead_in e b = flags_set (next q) F b (any_next (λ p. member p && eqb (next p) (next q)) q ∙ rw (e, eq-eqb (next q) (next q) refl))
      λ t h o. any_next (λ p. member p && eqb (next p) t) q ∙ rw (e, ne_eqb (next q) t (λ z. o (sym z)))

-- ---- an accepting member

or_choose : (a b c : Bool) → choose b (λ _. true) (λ _. a || c) ≡ a || choose b (λ _. true) (λ _. c)
or_choose true true c = refl
or_choose true false c = refl
or_choose false true c = refl
or_choose false false c = refl

any_front : (f : ℕ → Bool) (n : ℕ) → any_below f (suc n) ≡ f 0 || any_below (λ i. f (suc i)) n
any_front f zero = go (f 0)
  where
    go : (b : Bool) → choose b (λ _. true) (λ _. false) ≡ b || false
    go true = refl
    go false = refl
any_front f (suc n) = ap (λ (v : Bool). choose (f (suc n)) (λ _. true) (λ _. v)) (any_front f n) ∙ or_choose (f 0) (f (suc n)) (any_below (λ i. f (suc i)) n)

-- a flag beside an accepting state
abbrev pub both : ℕ × ℕ → Bool
both p = flag_of p.0 && flag_of p.1

pub both_any : (r a : List ℕ) → length r ≤ length a → list_any both (zip r a) ≡ some_accepting (flag_at r) (flag_at a) (length r)
both_any [] a h = refl
both_any (x ∷ r) [] h = absurd (not-suc-le-zero h)
both_any (x ∷ r) (y ∷ a) h =
    ap (λ (v : Bool). both (x, y) || v) (both_any r a (le_of_suc-le-suc h))
    ∙ sym (any_front (λ q. flag_at (x ∷ r) q && flag_at (y ∷ a) q) (length r))

-- no state is in the row
pub accepting_none : (r a : List ℕ) (n : ℕ) → ((p : ℕ) → p < n → flag_at r p && flag_at a p ≡ false) → false ≡ some_accepting (flag_at r) (flag_at a) n
accepting_none r a n f = sym (not_true (some_accepting (flag_at r) (flag_at a) n) λ e.
    let (p, b, x) = any_below_lem (λ p. flag_at r p && flag_at a p) n e in
    false≢true (sym (f p b) ∙ x))

-- ---- a flag is set besides

pub or_false : (b : Bool) → b || false ≡ b
or_false true = refl
or_false false = refl

pub or_true : (b : Bool) → b || true ≡ true
or_true true = refl
or_true false = refl

pub or_assoc : (a b c : Bool) → (a || b) || c ≡ a || (b || c)
or_assoc true b c = refl
or_assoc false b c = refl

pub flags_add : {m : ℕ} {f : ℕ → Bool} {row : List ℕ} (x : ℕ) → Flags m f row → x < m → Flags m (λ t. f t || eqb t x) (set row x 1)
flags_add {m} {f} {row} x F b = flags_set x F b (rw (eq-eqb x x refl) (or_true (f x))) λ t h o. rw (ne_eqb t x o) (or_false (f t))

pub flags_at : {m : ℕ} {f : ℕ → Bool} {row : List ℕ} → Flags m f row → (t : ℕ) → t < m → flag_at row t ≡ f t
flags_at {m} {f} {row} F t h = bit_flag row t (f t) (F.entry t h)
