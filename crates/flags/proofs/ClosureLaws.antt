-- Following one transition per state: the flags that it adds, and that fewer steps than there are states do.
use mathlib.Core.Path.{◌≡◌, refl, sym, ap, ◌∙◌}
use mathlib.Core.Bool.{Bool, true, false, ◌&&◌, false≢true}
use mathlib.Core.Logic.{◌⊎◌, inl, inr}
use mathlib.Core.List.{List, [], ◌∷◌}
use Prim.Native.Nat.{ℕ, zero, suc, ◌+◌, ◌-◌, ◌≤◌, ◌<◌, suc-le-suc}
use native.Mathlib.Nat.{le_refl, not-suc-le-zero, le_of_suc-le-suc}
use native.Mathlib.Omega.{arith}
use lib.Dec.{eqb}
use lib.ListN.{length, get_or, set, replicate, length-set, length-replicate}
use borrow.Author.Tests.{eq-eqb, ne_eqb}
use Rattle.automata.specs.Booleans.{choose, bool_cases}
use Rattle.automata.specs.Basics.{SameCases, same_cases, nat_test, LtCases, lt_cases, Inj, pigeonhole}
use Rattle.automata.specs.Decide.{any_below, any_below_lem, below_any}
use Rattle.rows.specs.Rows.{flag_at}
use Rattle.rows.specs.Sums.{Bits}
use Rattle.rows.proofs.BitLaws.{flag_here, flag_keep, flag_source, bits_set}
use Rattle.flags.specs.Closure.{times, unset, Closed, Chased, Gains}
use Rattle.flags.specs.Flags.{leads_to}
use Rattle.flags.proofs.FlagLaws.{flag_clear, any_next}

-- ---- steps

times_next : (f : ℕ → ℕ) (i q : ℕ) → times f i (f q) ≡ f (times f i q)
times_next f zero q = refl
times_next f (suc i) q = times_next f i (f q)

times_sum : (f : ℕ → ℕ) (i j q : ℕ) → times f j (times f i q) ≡ times f (i + j) q
times_sum f zero j q = let z : zero + j ≡ j = omega arith in rw z
times_sum f (suc i) j q = let z : suc i + j ≡ suc (i + j) = omega arith in rw z (times_sum f i j (f q))

module _ (f : ℕ → ℕ) (n : ℕ) (inside : (q : ℕ) → q < n → f q < n) where
  times_in : (i q : ℕ) → q < n → times f i q < n
  times_in zero q h = h
  times_in (suc i) q h = times_in i (f q) (inside q h)

  -- the state that n steps lead to is met before
  met : (q : ℕ) → q < n → (j : ℕ) × (j < n) × (times f j q ≡ times f n q)
  met q h = go (bool_cases (any_below (λ j. eqb (times f j q) (times f n q)) n))
    where
      found : (j : ℕ) → eqb (times f j q) (times f n q) ≡ true → times f j q ≡ times f n q
      found j e = nat_test.sound (times f j q) (times f n q) e

      later : (i j : ℕ) → i < j → j ≤ n → times f i q ≡ times f j q → (l : ℕ) × (l < n) × (times f l q ≡ times f n q)
      later i j b g e =
          let z : j + (n - j) ≡ n = omega arith in
          (i + (n - j), omega arith, sym (times_sum f i (n - j) q) ∙ ap (times f (n - j)) e ∙ times_sum f j (n - j) q ∙ ap (λ (l : ℕ). times f l q) z)

      go : (any_below (λ j. eqb (times f j q) (times f n q)) n ≡ true) ⊎ (any_below (λ j. eqb (times f j q) (times f n q)) n ≡ false) → (j : ℕ) × (j < n) × (times f j q ≡ times f n q)
      go (inl e) = let (j, b, x) = any_below_lem (λ j. eqb (times f j q) (times f n q)) n e in (j, b, found j x)
      go (inr e) = absurd (let p = pigeonhole n (suc n) (λ i. times f i q) (λ i b. times_in i q h) one in omega arith)
        where
          never : (l : ℕ) × (l < n) × (times f l q ≡ times f n q) → ⊥
          never (l, b, x) = false≢true (sym e ∙ below_any (λ j. eqb (times f j q) (times f n q)) n l b (eq-eqb (times f l q) (times f n q) x))

          one : Inj (suc n) (λ i. times f i q)
          one i j bi bj x = at (lt_cases i j) (lt_cases j i)
            where
              at : LtCases i j → LtCases j i → i ≡ j
              at (inl p) c = absurd (never (later i j p.0 (omega arith) x))
              at (inr p) (inl r) = absurd (never (later j i r.0 (omega arith) (sym x)))
              at (inr p) (inr r) = omega arith

  -- whatever is reached is reached by fewer steps than there are states
  pub short : (i q : ℕ) → q < n → (j : ℕ) × (j < n) × (times f j q ≡ times f i q)
  short zero q h = (zero, omega arith, refl)
  short (suc i) q h = let (j, b, e) = short i q h in go j b (times_next f j q ∙ ap f e ∙ sym (times_next f i q)) (lt_cases (suc j) n)
    where
      go : (j : ℕ) → j < n → times f (suc j) q ≡ times f (suc i) q → LtCases (suc j) n → (l : ℕ) × (l < n) × (times f l q ≡ times f (suc i) q)
      go j b e (inl p) = (suc j, p.0, e)
      go j b e (inr p) =
          let (l, c, x) = met q h in
          let z : n ≡ suc j = omega arith in
          (l, c, x ∙ ap (λ (v : ℕ). times f v q) z ∙ e)

-- ---- one flag more

pub unset_less : (l : List ℕ) (q : ℕ) → q < length l → get_or l q 0 ≡ 0 → unset (set l q 1) < unset l
unfolding unset
unset_less [] q h e = absurd (not-suc-le-zero h)
unset_less (x ∷ l) zero h e = rw (eq-eqb x 0 e) (le_refl (suc (unset l)))
unset_less (x ∷ l) (suc q) h e = go (eqb x 0) (unset_less l q (le_of_suc-le-suc h) e)
  where
    go : (b : Bool) → unset (set l q 1) < unset l → choose b (λ _. suc (unset (set l q 1))) (λ _. unset (set l q 1)) < choose b (λ _. suc (unset l)) (λ _. unset l)
    go true r = suc-le-suc r
    go false r = r

-- ---- on the way along the marks

-- q is reached from p, and where the row was closed, its flags lead to flags or to q.
pub record Chasing (next : ℕ → ℕ) (n p : ℕ) (row row' : List ℕ) (q : ℕ) : Type 0 where
  pub long : length row' ≡ n
  pub keeps : (x : ℕ) → flag_at row x ≡ true → flag_at row' x ≡ true
  pub within : q < n
  pub way : (i : ℕ) × (times next i p ≡ q)
  pub first : (flag_at row' p ≡ true) ⊎ (p ≡ q)
  pub closed : Closed next row → (x : ℕ) → flag_at row' x ≡ true → (flag_at row' (next x) ≡ true) ⊎ (next x ≡ q)
  pub sound : (x : ℕ) → flag_at row' x ≡ true → (flag_at row x ≡ true) ⊎ ((i : ℕ) × (times next i p ≡ x))
  pub bits : Bits row → Bits row'

pub chase_start : (next : ℕ → ℕ) (n p : ℕ) (row : List ℕ) → length row ≡ n → p < n → Chasing next n p row row p
chase_start next n p row l h = record {
  long = l;
  keeps = λ x f. f;
  within = h;
  way = (zero, refl);
  first = inr refl;
  closed = λ C x f. inl (C x f);
  sound = λ x f. inl f;
  bits = λ b. b;
}

pub chase_more : {next : ℕ → ℕ} {n p : ℕ} {row row' : List ℕ} {q : ℕ} → Chasing next n p row row' q → (q' : ℕ) → q' ≡ next q → q' < n → Chasing next n p row (set row' q 1) q'
chase_more {next} {n} {p} {row} {row'} {q} C q' e b = record {
  long = length-set row' q 1 ∙ C.long;
  keeps = λ x f. flag_keep row' q h x (C.keeps x f);
  within = b;
  way = (suc C.way.0, times_next next C.way.0 p ∙ ap next C.way.1 ∙ sym e);
  first = inl (first C.first);
  closed = λ K x f. from K x (flag_source row' q h x f);
  sound = λ x f. root x (flag_source row' q h x f);
  bits = λ v. bits_set row' q h (C.bits v);
}
  where
    h : q < length row'
    h = omega (arith, C.long, C.within)

    first : (flag_at row' p ≡ true) ⊎ (p ≡ q) → flag_at (set row' q 1) p ≡ true
    first (inl f) = flag_keep row' q h p f
    first (inr z) = rw z (flag_here row' q h)

    old : (x : ℕ) → (flag_at row' (next x) ≡ true) ⊎ (next x ≡ q) → flag_at (set row' q 1) (next x) ≡ true
    old x (inl f) = flag_keep row' q h (next x) f
    old x (inr z) = rw z (flag_here row' q h)

    from : Closed next row → (x : ℕ) → (x ≡ q) ⊎ (flag_at row' x ≡ true) → (flag_at (set row' q 1) (next x) ≡ true) ⊎ (next x ≡ q')
    from K x (inl z) = inr (ap next z ∙ sym e)
    from K x (inr f) = inl (old x (C.closed K x f))

    root : (x : ℕ) → (x ≡ q) ⊎ (flag_at row' x ≡ true) → (flag_at row x ≡ true) ⊎ ((i : ℕ) × (times next i p ≡ x))
    root x (inl z) = inr (C.way.0, C.way.1 ∙ sym z)
    root x (inr f) = C.sound x f

pub chase_end : {next : ℕ → ℕ} {n p : ℕ} {row row' : List ℕ} {q : ℕ} → Chasing next n p row row' q → flag_at row' q ≡ true → Chased next n p row row'
chase_end {next} {n} {p} {row} {row'} {q} C e = record {
  long = C.long;
  keeps = C.keeps;
  first = at p C.first;
  closed = λ K x f. at (next x) (C.closed K x f);
  sound = C.sound;
  bits = C.bits;
}
  where
    at : (x : ℕ) → (flag_at row' x ≡ true) ⊎ (x ≡ q) → flag_at row' x ≡ true
    at x (inl f) = f
    at x (inr z) = rw z e

-- ---- on the way along the members

-- no flag is set
pub gain_none : (next : ℕ → ℕ) (n : ℕ) (row : List ℕ) → row ≡ replicate n 0 → Gains next n (λ t. false) row
gain_none next n row e = record {
  long = ap length e ∙ length-replicate n 0;
  keeps = λ x f. absurd (false≢true f);
  closed = λ x f. absurd (none x f);
  sound = λ x f. absurd (none x f);
  bits = λ x. rw (blank x);
}
  where
    all : (m x y : ℕ) → get_or (replicate m y) x y ≡ y
    all zero x y = refl
    all (suc m) zero y = refl
    all (suc m) (suc x) y = all m x y

    blank : (x : ℕ) → get_or row x 0 ≡ 0
    blank x = ap (λ (l : List ℕ). get_or l x 0) e ∙ all n x 0

    none : (x : ℕ) → flag_at row x ≡ true → ⊥
    none x f = false≢true (sym (flag_clear row x (blank x)) ∙ f)

-- the same members by another test
pub gain_same : {next : ℕ → ℕ} {n : ℕ} {f g : ℕ → Bool} {row : List ℕ} → Gains next n f row → ((x : ℕ) → f x ≡ g x) → Gains next n g row
gain_same {next} {n} {f} {g} {row} G same = record { long = G.long; keeps = λ x e. G.keeps x (same x ∙ e); closed = G.closed; sound = λ x e. root x (G.sound x e); bits = G.bits }
  where
    root : (x : ℕ) → (q : ℕ) × (i : ℕ) × (f q ≡ true) × (times next i q ≡ x) → (q : ℕ) × (i : ℕ) × (g q ≡ true) × (times next i q ≡ x)
    root x (q, i, m, y) = (q, i, sym (same q) ∙ m, y)

-- p is one member more
gain_more : {next : ℕ → ℕ} {n p : ℕ} {f g : ℕ → Bool} {row row' : List ℕ} → Gains next n f row → Chased next n p row row' → ((x : ℕ) → g x ≡ true → (f x ≡ true) ⊎ (x ≡ p))
    → ((x : ℕ) → f x ≡ true → g x ≡ true) → g p ≡ true → Gains next n g row'
gain_more {next} {n} {p} {f} {g} {row} {row'} G C only also here = record {
  long = C.long;
  keeps = λ x e. keeps x (only x e);
  closed = C.closed G.closed;
  sound = λ x e. root x (C.sound x e);
  bits = C.bits G.bits;
}
  where
    keeps : (x : ℕ) → (f x ≡ true) ⊎ (x ≡ p) → flag_at row' x ≡ true
    keeps x (inl e) = C.keeps x (G.keeps x e)
    keeps x (inr z) = rw z C.first

    root : (x : ℕ) → (flag_at row x ≡ true) ⊎ ((i : ℕ) × (times next i p ≡ x)) → (q : ℕ) × (i : ℕ) × (g q ≡ true) × (times next i q ≡ x)
    root x (inl e) = let (q, i, m, y) = G.sound x e in (q, i, also q m, y)
    root x (inr (i, y)) = (p, i, here, y)

-- p is the one member
pub gain_one : {next : ℕ → ℕ} {n p : ℕ} {row row' : List ℕ} → row ≡ replicate n 0 → Chased next n p row row' → Gains next n (λ t. eqb t p) row'
gain_one {next} {n} {p} {row} {row'} e C =
    gain_more {f = λ t. false} {g = λ t. eqb t p} (gain_none next n row e) C (λ x z. inr (nat_test.sound x p z)) (λ x z. absurd (false≢true z)) (eq-eqb p p refl)

module _ {next : ℕ → ℕ} {n : ℕ} {row : List ℕ} (member : ℕ → Bool) (to : ℕ → ℕ) (q : ℕ) (G : Gains next n (leads_to member to q) row) where
  -- q is one, and what it leads to is chased
  pub gain_in : {row' : List ℕ} (p : ℕ) → p ≡ to q → member q ≡ true → Chased next n p row row' → Gains next n (leads_to member to (q + 1)) row'
  gain_in p z e C = gain_more {f = leads_to member to q} {g = leads_to member to (q + 1)} G (rw z at C) (λ x f. only x f (same_cases nat_test x (to q))) also here
    where
      step : (x : ℕ) → leads_to member to (q + 1) x ≡ choose (eqb (to q) x) (λ _. true) (λ _. leads_to member to q x)
      step x = any_next (λ p. member p && eqb (to p) x) q ∙ rw e

      only : (x : ℕ) → leads_to member to (q + 1) x ≡ true → SameCases nat_test x (to q) → (leads_to member to q x ≡ true) ⊎ (x ≡ to q)
      only x f (inl z) = inr z.0
      only x f (inr z) = inl (sym (step x ∙ rw (ne_eqb (to q) x (λ y. z.0 (sym y)))) ∙ f)

      also : (x : ℕ) → leads_to member to q x ≡ true → leads_to member to (q + 1) x ≡ true
      also x f = step x ∙ go (eqb (to q) x)
        where
          go : (b : Bool) → choose b (λ _. true) (λ _. leads_to member to q x) ≡ true
          go true = refl
          go false = f

      here : leads_to member to (q + 1) (to q) ≡ true
      here = step (to q) ∙ rw (eq-eqb (to q) (to q) refl)

pub flag_length : (l : List ℕ) (x : ℕ) → flag_at l x ≡ true → x < length l
flag_length [] x e = absurd (false≢true e)
flag_length (y ∷ l) zero e = omega arith
flag_length (y ∷ l) (suc x) e = suc-le-suc (flag_length l x e)
