-- Laws of a part that is laid down byte by byte, and of parts laid down one behind the other.
use mathlib.Core.Path.{◌≡◌, refl, sym, ap, ◌∙◌}
use mathlib.Core.List.{List, [], ◌∷◌, ◌++◌, append-nil, append_assoc}
use Prim.Native.Nat.{ℕ, suc, ◌+◌, ◌-◌, ◌*◌, ◌≤◌, ◌<◌}
use native.Mathlib.Omega.{arith}
use native.Mathlib.Numerals.{add-one}
use lib.ListN.{length, get_or, take, drop, set, length-set, take-append-drop}
use Rattle.std.proofs.Common.{length-append, length-take-le, length-drop}
use Rattle.std.proofs.Math.Seq.{take-append_seam}
use Rattle.std.proofs.lemmas.Slice.{drop-append-drop}
use lib.Seq.{take-suc-set, drop-set-lt, drop-drop, ext_get_or}
use Rattle.automata.specs.Basics.{tab, length_tab, get_or_tab}
use Rattle.automata.specs.Format.{narrow}
use Rattle.automata.specs.Numbering.{tab_snoc}
use Rattle.card.specs.Number.{little_endian}
use Rattle.card.specs.Layout.{contents}
use Rattle.sections.specs.Laid.{Laid}

drop_more : (b c : ℕ) (l l' : List ℕ) → b ≤ c → drop b l ≡ drop b l' → drop c l ≡ drop c l'
drop_more b c l l' h e =
    let z : c ≡ b + (c - b) = omega arith in
    rw z (sym (drop-drop (c - b) b l) ∙ ap (drop (c - b)) e ∙ drop-drop (c - b) b l')

-- nothing is laid down
pub laid_none : (a : ℕ) (old : List ℕ) → Laid a a [] old old
laid_none a old = record { long = refl; begins = sym (append-nil (take a old)); rest = refl }

-- one byte more
pub laid_byte : (a b : ℕ) (x old card : List ℕ) (v : ℕ) → Laid a b x old card → b < length card → Laid a (suc b) (x ++ (v ∷ [])) old (set card b v)
laid_byte a b x old card v l h = record {
  long = length-set card b v ∙ l.long;
  begins = take-suc-set card b v h ∙ ap (λ y. y ++ (v ∷ [])) l.begins ∙ append_assoc (take a old) x (v ∷ []);
  rest = drop-set-lt (suc b) card b v (omega arith) ∙ drop_more b (suc b) card old (omega arith) l.rest;
}

-- one byte more of a tabulated part
pub laid_next : (a i : ℕ) (f : ℕ → ℕ) (old card : List ℕ) (v : ℕ) → Laid a (a + i) (tab f i) old card → a + i < length card → v ≡ f i
    → Laid a (a + (i + 1)) (tab f (i + 1)) old (set card (a + i) v)
laid_next a i f old card v l h e =
    let z : a + (i + 1) ≡ suc (a + i) = omega arith in
    rw (z, add-one i, ← tab_snoc f i, e) (laid_byte a (a + i) (tab f i) old card (f i) l h)

-- two parts, one behind the other
pub laid_join : (a b c : ℕ) (x y old mid new : List ℕ) → b ≤ c → Laid a b x old mid → Laid b c y mid new → Laid a c (x ++ y) old new
laid_join a b c x y old mid new h l r = record {
  long = r.long ∙ l.long;
  begins = r.begins ∙ ap (λ z. z ++ y) l.begins ∙ append_assoc (take a old) x y;
  rest = r.rest ∙ drop_more b c mid old h l.rest;
}

-- a part from the list's begin on
pub laid_whole : (x old new : List ℕ) → Laid 0 (length x) x old new → new ≡ x ++ drop (length x) old
laid_whole x old new l = sym (take-append-drop (length x) new) ∙ ap (λ y. y ++ drop (length x) new) l.begins ∙ ap (λ y. x ++ y) l.rest

-- a list is its tabulated entries
pub tab_get_or : (l : List ℕ) → tab (λ i. get_or l i 0) (length l) ≡ l
tab_get_or l = ext_get_or 0 (tab (λ i. get_or l i 0) (length l)) l (length_tab (λ i. get_or l i 0) (length l)) λ i h.
    get_or_tab (λ i. get_or l i 0) (length l) i 0 (rw (length_tab (λ i. get_or l i 0) (length l)) at h)

-- ---- the contents

-- two bytes
pub laid_two : (a x y : ℕ) (old : List ℕ) → a + 2 ≤ length old → Laid a (a + 2) (x ∷ y ∷ []) old (set (set old a x) (a + 1) y)
laid_two a x y old h =
    let z : a + 2 ≡ suc (suc a) = omega arith in
    rw (z, add-one a) (laid_byte a (suc a) (x ∷ []) old (set old a x) y (laid_byte a a [] old old x (laid_none a old) (omega arith)) (omega (arith, length-set old a x)))

-- the six numbers
pub laid_contents : (m n : ℕ) (c₀ c₁ c₂ c₃ c₄ c₅ c₆ : List ℕ)
    → Laid 0 2 (little_endian 2 12) c₀ c₁ → Laid 2 4 (little_endian 2 m) c₁ c₂ → Laid 4 6 (little_endian 2 (12 + m)) c₂ c₃
    → Laid 6 8 (little_endian 2 n) c₃ c₄ → Laid 8 10 (little_endian 2 (12 + m + n)) c₄ c₅ → Laid 10 12 (little_endian 2 (n * m)) c₅ c₆
    → Laid 0 12 (contents narrow m n) c₀ c₆
laid_contents m n c₀ c₁ c₂ c₃ c₄ c₅ c₆ a b c d e f =
    let z : n * m * 1 ≡ n * m = omega arith in
    rw z
    (laid_join 0 10 12 _ _ c₀ c₅ c₆ (omega arith)
    (laid_join 0 8 10 _ _ c₀ c₄ c₅ (omega arith)
    (laid_join 0 6 8 _ _ c₀ c₃ c₄ (omega arith)
    (laid_join 0 4 6 _ _ c₀ c₂ c₃ (omega arith) (laid_join 0 2 4 _ _ c₀ c₁ c₂ (omega arith) a b) c) d) e) f)

-- ---- a part that is copied

pub laid_copied : (a e : ℕ) (x y old : List ℕ) → e ≤ length old → a ≤ e → length x ≡ e - a → y ≡ x → Laid a e x old (take a old ++ (y ++ drop (e - a) (drop a old)))
laid_copied a e x y old h le l f = rw (f, drop-drop (e - a) a old) (record {
  long = simp (length-append, length-drop) (omega (arith, length-take-le a old (omega arith)));
  begins = begin;
  rest = rest;
})
  where
    k : a + (e - a) ≡ e
    k = omega arith

    long : length (take a old ++ x) ≡ e
    long = omega (arith, length-append (take a old) x, length-take-le a old (omega arith))

    begin : take e (take a old ++ (x ++ drop (a + (e - a)) old)) ≡ take a old ++ x
    begin = rw (← append_assoc (take a old) x (drop (a + (e - a)) old)) (rw long at (take-append_seam (take a old ++ x) (drop (a + (e - a)) old)))

    rest : drop e (take a old ++ (x ++ drop (a + (e - a)) old)) ≡ drop e old
    rest = rw (k, ← append_assoc (take a old) x (drop e old)) (drop-append-drop e old (take a old ++ x) e (omega arith) long)
