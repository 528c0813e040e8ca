-- The marked construction, for whichever marked set is erased. A test Q of cuts v, x, y has as its marked set the words v M x M y that pass it; erasing
-- the marks leaves the words with a cut that passes. Marked sets are made by concatenation, difference and union.
use Rattle.std.specs.Prelude.{◌≡◌, refl, ◌↔◌, ℕ, suc, eqb}
use Rattle.std.proofs.Common.{sym, ap, ap₂, ◌∙◌, subst, inl, inr, le_refl, lt_irrefl, arith}
use mathlib.Core.Bool.{Bool, true, false, not, ◌&&◌, ◌||◌}
use mathlib.Core.List.{[], ◌∷◌, ◌++◌, append-nil, append_assoc, head-eq_of_cons-eq, tail-eq_of_cons-eq}
use Rattle.automata.specs.Booleans.{bool_iff, and_left, and_right, and_both}
use Rattle.automata.specs.Basics.{SameCases, nat_test, same_cases}
use Rattle.automata.specs.Automaton.{Over, over_append, over_parts, over_more}
use Rattle.automata.specs.Operations.{strip}
use Rattle.language.specs.Cuts.{Word, any_cut₃, any_cut₃_sound, any_cut₃_whole}
use Rattle.language.specs.Language.{Language, single, symbol_sound, concatenation, concatenation_sound, concatenation_whole, union, difference, OfLetters}

-- A test of the cuts of a word in three.
abbrev pub CutTest : Type 0
CutTest = Word → Word → Word → Bool

-- v M x M y; the mark is the column m, behind the m letters
abbrev pub marks : ℕ → Word → Word → Word → Word
marks m v x y = v ++ (m ∷ (x ++ (m ∷ y)))

-- A word of letters with two marks put in.
abbrev pub Shaped : ℕ → Word → Type 0
Shaped m u = (v : Word) × (x : Word) × (y : Word) × (u ≡ marks m v x y) × Over m v × Over m x × Over m y

-- U is the marked set of Q: it has words v M x M y only, and those of them that pass Q.
pub record Marked (m : ℕ) (Q : CutTest) (U : Language) : Type 0 where
  pub shaped : (u : Word) → U u ≡ true → Shaped m u
  pub exact : (v x y : Word) → Over m v → Over m x → Over m y → U (marks m v x y) ≡ Q v x y

-- ---- words with marks

-- the first mark parts a word in one way
first_mark : (k : ℕ) (v v' t t' : Word) → Over k v → Over k v' → v ++ (k ∷ t) ≡ v' ++ (k ∷ t') → (v ≡ v') × (t ≡ t')
first_mark k [] [] t t' o o' e = (refl, tail-eq_of_cons-eq e)
first_mark k [] (c ∷ v') t t' o o' e = absurd (lt_irrefl k (rw (sym (head-eq_of_cons-eq e)) at o'.0))
first_mark k (c ∷ v) [] t t' o o' e = absurd (lt_irrefl k (rw (head-eq_of_cons-eq e) at o.0))
first_mark k (c ∷ v) (c' ∷ v') t t' o o' e =
    let (p, q) = first_mark k v v' t t' o.1 o'.1 (tail-eq_of_cons-eq e) in
    (ap₂ ◌∷◌ (head-eq_of_cons-eq e) p, q)

strip_plain : (k : ℕ) (v t : Word) → Over k v → strip k (v ++ t) ≡ v ++ strip k t
strip_plain k [] t o = refl
strip_plain k (c ∷ v) t o = go (same_cases nat_test c k) (strip_plain k v t o.1)
  where
    go : SameCases nat_test c k → strip k (v ++ t) ≡ v ++ strip k t → mathlib.Core.Bool.cond (eqb c k) (strip k (v ++ t)) (c ∷ strip k (v ++ t)) ≡ c ∷ (v ++ strip k t)
    go (inl p) f = absurd (omega (arith, o.0))
    go (inr p) f = rw p.1 (ap (λ l. c ∷ l) f)

strip_mark : (k : ℕ) (t : Word) → strip k (k ∷ t) ≡ strip k t
strip_mark k t = rw (nat_test.whole k)

strip_none : (k : ℕ) (v : Word) → Over k v → strip k v ≡ v
strip_none k v o = ap (strip k) (sym (append-nil v)) ∙ strip_plain k v [] o ∙ append-nil v

strip_marks : (k : ℕ) (v x y : Word) → Over k v → Over k x → Over k y → strip k (marks k v x y) ≡ v ++ (x ++ y)
strip_marks k v x y a b c =
    strip_plain k v (k ∷ (x ++ (k ∷ y))) a
    ∙ ap (λ l. v ++ l) (strip_mark k (x ++ (k ∷ y)) ∙ strip_plain k x (k ∷ y) b ∙ ap (λ l. x ++ l) (strip_mark k y ∙ strip_none k y c))

over_marks : (m : ℕ) (v x y : Word) → Over m v → Over m x → Over m y → Over (suc m) (marks m v x y)
over_marks m v x y a b c =
    over_append (suc m) v (m ∷ (x ++ (m ∷ y))) (over_more m v a)
    (le_refl (suc m), over_append (suc m) x (m ∷ y) (over_more m x b) (le_refl (suc m), over_more m y c))

-- ---- the marked sets of products: l M p M r, "joined left to right"

abbrev pub marked_row : ℕ → Language → Language → Language → Language
marked_row m L P R = concatenation (concatenation (concatenation (concatenation L (single m)) P) (single m)) R

module _ (m : ℕ) (L P R : Language) where
  mark_is : (w : Word) → single m w ≡ true → w ≡ m ∷ []
  mark_is w e = let (c, q, t) = symbol_sound (eqb m) w e in q ∙ ap (λ x. x ∷ []) (sym (nat_test.sound m c t))

  regroup : (v x y : Word) → (((v ++ (m ∷ [])) ++ x) ++ (m ∷ [])) ++ y ≡ marks m v x y
  regroup v x y = simp append_assoc

  row_sound : (u : Word) → marked_row m L P R u ≡ true → (v : Word) × (x : Word) × (y : Word) × (u ≡ marks m v x y) × (L v ≡ true) × (P x ≡ true) × (R y ≡ true)
  row_sound u e =
      let (a, y, q, s, r) = concatenation_sound (concatenation (concatenation (concatenation L (single m)) P) (single m)) R u e in
      let (b, c, q₁, s₁, t₁) = concatenation_sound (concatenation (concatenation L (single m)) P) (single m) a s in
      let (d, x, q₂, s₂, p) = concatenation_sound (concatenation L (single m)) P b s₁ in
      let (v, f, q₃, l, t₂) = concatenation_sound L (single m) d s₂ in
      let g : d ≡ v ++ (m ∷ []) = q₃ ∙ ap (λ w. v ++ w) (mark_is f t₂) in
      let h : a ≡ ((v ++ (m ∷ [])) ++ x) ++ (m ∷ []) = q₁ ∙ ap₂ ◌++◌ (q₂ ∙ ap (λ w. w ++ x) g) (mark_is c t₁) in
      (v, x, y, q ∙ ap (λ w. w ++ y) h ∙ regroup v x y, l, p, r)

  mark_in : single m (m ∷ []) ≡ true
  mark_in = rw (nat_test.whole m)

  row_whole : (v x y : Word) → L v ≡ true → P x ≡ true → R y ≡ true → marked_row m L P R (marks m v x y) ≡ true
  row_whole v x y l p r =
      subst (λ u. marked_row m L P R u ≡ true) (regroup v x y)
      (concatenation_whole (concatenation (concatenation (concatenation L (single m)) P) (single m)) R (((v ++ (m ∷ [])) ++ x) ++ (m ∷ [])) y
      (concatenation_whole (concatenation (concatenation L (single m)) P) (single m) ((v ++ (m ∷ [])) ++ x) (m ∷ [])
      (concatenation_whole (concatenation L (single m)) P (v ++ (m ∷ [])) x (concatenation_whole L (single m) v (m ∷ []) l mark_in) p) mark_in) r)

  pub marked_row_lem : OfLetters m L → OfLetters m P → OfLetters m R → Marked m (λ v x y. L v && (P x && R y)) (marked_row m L P R)
  marked_row_lem ol op or = record {
    shaped = λ u e. let (v, x, y, q, l, p, r) = row_sound u e in (v, x, y, q, ol v l, op x p, or y r);
    exact = λ v x y a b c. bool_iff (marked_row m L P R (marks m v x y)) (L v && (P x && R y)) (to v x y a b c)
        (λ e. row_whole v x y (and_left (L v) (P x && R y) e) (and_left (P x) (R y) (and_right (L v) (P x && R y) e)) (and_right (P x) (R y) (and_right (L v) (P x && R y) e)));
  }
    where
      to : (v x y : Word) → Over m v → Over m x → Over m y → marked_row m L P R (marks m v x y) ≡ true → L v && (P x && R y) ≡ true
      to v x y a b c e =
          let (v', x', y', q, l, p, r) = row_sound (marks m v x y) e in
          let (s, t) = first_mark m v v' (x ++ (m ∷ y)) (x' ++ (m ∷ y')) a (ol v' l) q in
          let (s', t') = first_mark m x x' y y' b (op x' p) t in
          and_both (L v) (P x && R y) (rw s l) (and_both (P x) (R y) (rw s' p) (rw t' r))

-- ---- differences and unions of marked sets

pub marked_difference : (m : ℕ) (Q Q' : CutTest) (U U' : Language) → Marked m Q U → Marked m Q' U' → Marked m (λ v x y. Q v x y && not (Q' v x y)) (difference U U')
marked_difference m Q Q' U U' h h' = record {
  shaped = λ u e. h.shaped u (and_left (U u) (not (U' u)) e);
  exact = λ v x y a b c. ap₂ (λ s t. s && not t) (h.exact v x y a b c) (h'.exact v x y a b c);
}

pub marked_union : (m : ℕ) (Q Q' : CutTest) (U U' : Language) → Marked m Q U → Marked m Q' U' → Marked m (λ v x y. Q v x y || Q' v x y) (union U U')
marked_union m Q Q' U U' h h' = record {
  shaped = λ u e. go u (U u) refl e;
  exact = λ v x y a b c. ap₂ ◌||◌ (h.exact v x y a b c) (h'.exact v x y a b c);
}
  where
    go : (u : Word) (b : Bool) → U u ≡ b → b || U' u ≡ true → Shaped m u
    go u true q t = h.shaped u q
    go u false q t = h'.shaped u t

-- the same set, of a test that says the same
pub marked_same : (m : ℕ) (Q Q' : CutTest) (U : Language) → ((v x y : Word) → Over m v → Over m x → Over m y → Q v x y ≡ Q' v x y) → Marked m Q U → Marked m Q' U
marked_same m Q Q' U e h = record { shaped = h.shaped; exact = λ v x y a b c. h.exact v x y a b c ∙ e v x y a b c }

-- ---- erasing the marks

-- "Erase U": w is a word of U, less its marks.
abbrev pub Erased : ℕ → Language → Word → Type 0
Erased m U w = (u : Word) × Over (suc m) u × (strip m u ≡ w) × (U u ≡ true)

-- THE MARKED CONSTRUCTION: erasing the marked set of Q leaves the words with a cut that passes Q.
pub erased_cuts : (m : ℕ) (Q : CutTest) (U : Language) → Marked m Q U → (w : Word) → Over m w → Erased m U w ↔ (any_cut₃ Q w ≡ true)
erased_cuts m Q U h w o = (to, back)
  where
    to : Erased m U w → any_cut₃ Q w ≡ true
    to (u, ou, s, t) =
        let (v, x, y, q, a, b, c) = h.shaped u t in
        let e : w ≡ v ++ (x ++ y) = sym s ∙ ap (strip m) q ∙ strip_marks m v x y a b c in
        rw e (any_cut₃_whole Q v x y (sym (h.exact v x y a b c) ∙ ap U (sym q) ∙ t))

    back : any_cut₃ Q w ≡ true → Erased m U w
    back e =
        let (v, x, y, q, t) = any_cut₃_sound Q w e in
        let (a, r) = over_parts m v (x ++ y) (rw q at o) in
        let (b, c) = over_parts m x y r in
        (marks m v x y, over_marks m v x y a b c, strip_marks m v x y a b c ∙ sym q, h.exact v x y a b c ∙ t)
