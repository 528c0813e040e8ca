-- Lists without repeats: what stands in a list, each once; joined lists, mapped lists, and those that pass a test.
use Rattle.std.specs.Prelude.{◌≡◌, refl, Bool, true, false, ◌⊎◌, List, [], ◌∷◌, ◌++◌, map, ℕ, zero, suc, ◌≤◌, ◌<◌, length, get_or}
use Rattle.std.proofs.Common.{sym, ap, ◌∙◌, inl, inr, suc-le-suc, not-suc-le-zero, le_of_suc-le-suc, zero-lt-suc, le_antisymm, arith}
use Rattle.automata.specs.Booleans.{choose, bool_cases}
use Rattle.automata.specs.Basics.{LtCases, lt_cases, Inj, pigeonhole}
use Rattle.automata.specs.Decide.{contradict}

-- x stands in the list; d stands past its end.
abbrev pub In : {A : Type 0} → A → A → List A → Type 0
In d x l = (i : ℕ) × (i < length l) × (get_or l i d ≡ x)

-- No two places of the list have the same.
abbrev pub Once : {A : Type 0} → A → List A → Type 0
Once d l = Inj (length l) (λ i. get_or l i d)

-- Those of a list that pass a test.
abbrev pub passing : {A : Type 0} → (A → Bool) → List A → List A
passing f [] = []
passing f (x ∷ l) = choose (f x) (λ _. x ∷ passing f l) (λ _. passing f l)

-- ---- what stands in a list

module _ {A : Type 0} (d : A) where
  pub in_nil : (x : A) → In d x [] → ⊥
  in_nil x (i, h, e) = not-suc-le-zero h

  pub in_here : (x : A) (l : List A) → In d x (x ∷ l)
  in_here x l = (zero, zero-lt-suc (length l), refl)

  pub in_there : (x y : A) (l : List A) → In d x l → In d x (y ∷ l)
  in_there x y l (i, h, e) = (suc i, suc-le-suc h, e)

  pub in_cases : (x y : A) (l : List A) → In d x (y ∷ l) → (y ≡ x) ⊎ In d x l
  in_cases x y l (zero, h, e) = inl e
  in_cases x y l (suc i, h, e) = inr (i, le_of_suc-le-suc h, e)

  pub in_left : (x : A) (l r : List A) → In d x l → In d x (l ++ r)
  in_left x [] r s = absurd (in_nil x s)
  in_left x (y ∷ l) r s = go (in_cases x y l s) (in_left x l r)
    where
      go : (y ≡ x) ⊎ In d x l → (In d x l → In d x (l ++ r)) → In d x (y ∷ (l ++ r))
      go (inl e) f = rw (← e) (in_here y (l ++ r))
      go (inr t) f = in_there x y (l ++ r) (f t)

  pub in_right : (x : A) (l r : List A) → In d x r → In d x (l ++ r)
  in_right x [] r s = s
  in_right x (y ∷ l) r s = in_there x y (l ++ r) (in_right x l r s)

  pub in_append : (x : A) (l r : List A) → In d x (l ++ r) → In d x l ⊎ In d x r
  in_append x [] r s = inr s
  in_append x (y ∷ l) r s = go (in_cases x y (l ++ r) s) (in_append x l r)
    where
      go : (y ≡ x) ⊎ In d x (l ++ r) → (In d x (l ++ r) → In d x l ⊎ In d x r) → In d x (y ∷ l) ⊎ In d x r
      go (inl e) f = inl (rw (← e) (in_here y l))
      go (inr t) f = more (f t)
        where
          more : In d x l ⊎ In d x r → In d x (y ∷ l) ⊎ In d x r
          more (inl a) = inl (in_there x y l a)
          more (inr b) = inr b

  -- ---- each once

  pub once_cons : (x : A) (l : List A) → (In d x l → ⊥) → Once d l → Once d (x ∷ l)
  once_cons x l f o zero zero a b e = refl
  once_cons x l f o zero (suc j) a b e = absurd (f (j, le_of_suc-le-suc b, sym e))
  once_cons x l f o (suc i) zero a b e = absurd (f (i, le_of_suc-le-suc a, e))
  once_cons x l f o (suc i) (suc j) a b e = ap suc (o i j (le_of_suc-le-suc a) (le_of_suc-le-suc b) e)

  pub once_head : (x : A) (l : List A) → Once d (x ∷ l) → In d x l → ⊥
  once_head x l o (i, h, e) = let z : zero ≡ suc i = o zero (suc i) (zero-lt-suc (length l)) (suc-le-suc h) (sym e) in omega arith

  pub once_tail : (x : A) (l : List A) → Once d (x ∷ l) → Once d l
  once_tail x l o i j a b e = let z : suc i ≡ suc j = o (suc i) (suc j) (suc-le-suc a) (suc-le-suc b) e in omega arith

  pub once_append : (l r : List A) → Once d l → Once d r → ((x : A) → In d x l → In d x r → ⊥) → Once d (l ++ r)
  once_append [] r a b f = b
  once_append (y ∷ l) r a b f =
      once_cons y (l ++ r) (λ s. apart (in_append y l r s)) (once_append l r (once_tail y l a) b (λ x s t. f x (in_there x y l s) t))
    where
      apart : In d y l ⊎ In d y r → ⊥
      apart (inl s) = once_head y l a s
      apart (inr t) = f y (in_here y l) t

  -- ---- those that pass a test

  module _ (f : A → Bool) where
    pub in_passing : (x : A) (l : List A) → In d x (passing f l) → In d x l × (f x ≡ true)
    in_passing x [] s = absurd (in_nil x s)
    in_passing x (y ∷ l) s = go (bool_cases (f y)) (in_passing x l)
      where
        go : (f y ≡ true) ⊎ (f y ≡ false) → (In d x (passing f l) → In d x l × (f x ≡ true)) → In d x (y ∷ l) × (f x ≡ true)
        go (inl e) r = at (in_cases x y (passing f l) (rw e at s))
          where
            at : (y ≡ x) ⊎ In d x (passing f l) → In d x (y ∷ l) × (f x ≡ true)
            at (inl z) = (rw (← z) (in_here y l), rw (← z) e)
            at (inr t) = (in_there x y l (r t).0, (r t).1)
        go (inr e) r = let t : In d x (passing f l) = rw e at s in (in_there x y l (r t).0, (r t).1)

    pub passing_in : (x : A) (l : List A) → In d x l → f x ≡ true → In d x (passing f l)
    passing_in x [] s t = absurd (in_nil x s)
    passing_in x (y ∷ l) s t = go (in_cases x y l s) (bool_cases (f y)) (passing_in x l)
      where
        go : (y ≡ x) ⊎ In d x l → (f y ≡ true) ⊎ (f y ≡ false) → (In d x l → f x ≡ true → In d x (passing f l)) → In d x (passing f (y ∷ l))
        go (inl z) (inl e) r = rw (e, ← z) (in_here y (passing f l))
        go (inl z) (inr e) r = contradict t (rw z at e)
        go (inr w) (inl e) r = rw e (in_there x y (passing f l) (r w t))
        go (inr w) (inr e) r = rw e (r w t)

    pub once_passing : (l : List A) → Once d l → Once d (passing f l)
    once_passing [] o = o
    once_passing (y ∷ l) o = go (bool_cases (f y)) (once_passing l (once_tail y l o))
      where
        go : (f y ≡ true) ⊎ (f y ≡ false) → Once d (passing f l) → Once d (passing f (y ∷ l))
        go (inl e) r = rw e (once_cons y (passing f l) (λ s. once_head y l o (in_passing y l s).0) r)
        go (inr e) r = rw e r

-- ---- a list, each entry changed by a function that tells entries apart

module _ {A B : Type 0} (d : A) (d' : B) (g : A → B) where
  pub in_map : (y : B) (l : List A) → In d' y (map g l) → (x : A) × In d x l × (g x ≡ y)
  in_map y [] s = absurd (in_nil d' y s)
  in_map y (x ∷ l) s = go (in_cases d' y (g x) (map g l) s) (in_map y l)
    where
      go : (g x ≡ y) ⊎ In d' y (map g l) → (In d' y (map g l) → (z : A) × In d z l × (g z ≡ y)) → (z : A) × In d z (x ∷ l) × (g z ≡ y)
      go (inl e) r = (x, in_here d x l, e)
      go (inr t) r = let (z, i, e) = r t in (z, in_there d z x l i, e)

  pub map_in : (x : A) (l : List A) → In d x l → In d' (g x) (map g l)
  map_in x [] s = absurd (in_nil d x s)
  map_in x (y ∷ l) s = go (in_cases d x y l s) (map_in x l)
    where
      go : (y ≡ x) ⊎ In d x l → (In d x l → In d' (g x) (map g l)) → In d' (g x) (g y ∷ map g l)
      go (inl e) r = rw (← e) (in_here d' (g y) (map g l))
      go (inr t) r = in_there d' (g x) (g y) (map g l) (r t)

  pub once_map : ((x z : A) → g x ≡ g z → x ≡ z) → (l : List A) → Once d l → Once d' (map g l)
  once_map inj [] o = λ i j a b e. absurd (not-suc-le-zero a)
  once_map inj (x ∷ l) o = once_cons d' (g x) (map g l) (λ s. apart (in_map (g x) l s)) (once_map inj l (once_tail d x l o))
    where
      apart : ((z : A) × In d z l × (g z ≡ g x)) → ⊥
      apart (z, i, e) = once_head d x l o (rw (inj z x e) at i)

-- ---- how many

-- A list without repeats whose entries all stand in another is not longer.
pub once_shorter : {A : Type 0} (d : A) (l r : List A) → Once d l → ((x : A) → In d x l → In d x r) → length l ≤ length r
once_shorter d l r o f = pigeonhole (length r) (length l) (λ i. place i (lt_cases i (length l))) (λ i h. (at i (lt_cases i (length l)) h).0) apart
  where
    -- where the entry at place i of l stands in r
    place : (i : ℕ) → LtCases i (length l) → ℕ
    place i (inl p) = (f (get_or l i d) (i, p.0, refl)).0
    place i (inr p) = zero

    at : (i : ℕ) (c : LtCases i (length l)) → i < length l → (place i c < length r) × (get_or r (place i c) d ≡ get_or l i d)
    at i (inl p) h = let t = f (get_or l i d) (i, p.0, refl) in (t.1, t.2)
    at i (inr p) h = absurd (omega (arith, p.0))

    apart : Inj (length l) (λ i. place i (lt_cases i (length l)))
    apart i j a b e = o i j a b (sym (at i (lt_cases i (length l)) a).1 ∙ ap (λ k. get_or r k d) e ∙ (at j (lt_cases j (length l)) b).1)

-- So two lists of the same entries, each once, are as long.
pub once_long : {A : Type 0} (d : A) (l r : List A) → Once d l → Once d r → ((x : A) → In d x l → In d x r) → ((x : A) → In d x r → In d x l) → length l ≡ length r
once_long d l r o p f g = le_antisymm (once_shorter d l r o f) (once_shorter d r l p g)
