-- All plans of a length are listed by `plans_of`, and are m to the power k; two listings of the same plans are as long, so a number of plans is one number.
use Rattle.std.specs.Prelude.{◌≡◌, refl, Bool, true, ◌⊎◌, ◌↔◌, List, [], ◌∷◌, map, ℕ, zero, suc, ◌+◌, ◌*◌, ◌^◌, ◌<◌, length}
use Rattle.std.proofs.Common.{sym, ap, ap₂, ◌∙◌, inl, inr, suc-mul, arith, length-append}
use Rattle.std.proofs.Math.Nat.{pow-zero, pow-succ'}
use Rattle.std.proofs.lemmas.List.{length-map}
use Rattle.automata.specs.Basics.{LtCases, lt_cases, nat_test, find_at, find_least}
use Rattle.card.specs.Alphabet.{Alphabet, column}
use Rattle.census.specs.Listing.{In, Once, passing, in_nil, in_here, in_left, in_right, in_append, in_cases, in_there, in_map, map_in, in_passing, passing_in, once_cons, once_head, once_tail, once_append, once_map, once_passing, once_long}
use Rattle.census.specs.Plans.{prefixed, plans_of, OfLength, Lists, NumberOf}

-- ---- listings

-- TWO LISTINGS of the same plans are as long,
pub lists_long : (P : List ℕ → Type 0) (l r : List (List ℕ)) → Lists P l → Lists P r → length l ≡ length r
lists_long P l r a b = once_long [] l r a.once b.once (λ plan s. b.whole plan (a.sound plan s)) (λ plan s. a.whole plan (b.sound plan s))

-- so the number is one: that in every listing.
pub number_long : (P : List ℕ → Type 0) (n : ℕ) → NumberOf P n → (l : List (List ℕ)) → Lists P l → length l ≡ n
number_long P n a l b = lists_long P l a.list b a.lists ∙ a.long

pub number_one : (P : List ℕ → Type 0) (n n' : ℕ) → NumberOf P n → NumberOf P n' → n ≡ n'
number_one P n n' a b = sym (number_long P n a b.list b.lists) ∙ b.long

-- The same plans in other words.
pub lists_alike : (P Q : List ℕ → Type 0) → ((plan : List ℕ) → P plan ↔ Q plan) → (l : List (List ℕ)) → Lists P l → Lists Q l
lists_alike P Q f l a = record { sound = λ plan s. (f plan).0 (a.sound plan s); whole = λ plan q. a.whole plan ((f plan).1 q); once = a.once }

-- Those of a listing that pass a test.
pub lists_passing : (P : List ℕ → Type 0) (f : List ℕ → Bool) (l : List (List ℕ)) → Lists P l → Lists (λ plan. P plan × (f plan ≡ true)) (passing f l)
lists_passing P f l a = record {
  sound = λ plan s. let (i, t) = in_passing [] f plan l s in (a.sound plan i, t);
  whole = λ plan q. passing_in [] f plan l (a.whole plan q.0) q.1;
  once = once_passing [] f l a.once;
}

-- ---- all plans of a length

-- a letter before each plan tells plans apart
before_one : (l : ℕ) (u v : List ℕ) → l ∷ u ≡ l ∷ v → u ≡ v
before_one l u v e = cc

-- A plan stands among the prefixed ones just when its first letter stands among the letters, and what follows among the plans.
in_prefixed : (ls : List ℕ) (plans : List (List ℕ)) (plan : List ℕ) → In [] plan (prefixed ls plans)
    → (l : ℕ) × (rest : List ℕ) × In 0 l ls × In [] rest plans × (l ∷ rest ≡ plan)
in_prefixed [] plans plan s = absurd (in_nil [] plan s)
in_prefixed (l ∷ ls) plans plan s = go (in_append [] plan (map (λ p. l ∷ p) plans) (prefixed ls plans) s) (in_prefixed ls plans plan)
  where
    go : In [] plan (map (λ p. l ∷ p) plans) ⊎ In [] plan (prefixed ls plans)
        → (In [] plan (prefixed ls plans) → (x : ℕ) × (rest : List ℕ) × In 0 x ls × In [] rest plans × (x ∷ rest ≡ plan))
        → (x : ℕ) × (rest : List ℕ) × In 0 x (l ∷ ls) × In [] rest plans × (x ∷ rest ≡ plan)
    go (inl t) r = let (rest, i, e) = in_map [] [] (λ p. l ∷ p) plan plans t in (l, rest, in_here 0 l ls, i, e)
    go (inr t) r = let (x, rest, a, i, e) = r t in (x, rest, in_there 0 x l ls a, i, e)

prefixed_in : (ls : List ℕ) (plans : List (List ℕ)) (l : ℕ) (rest : List ℕ) → In 0 l ls → In [] rest plans → In [] (l ∷ rest) (prefixed ls plans)
prefixed_in [] plans l rest a b = absurd (in_nil 0 l a)
prefixed_in (x ∷ ls) plans l rest a b = go (in_cases 0 l x ls a) (prefixed_in ls plans l rest)
  where
    go : (x ≡ l) ⊎ In 0 l ls → (In 0 l ls → In [] rest plans → In [] (l ∷ rest) (prefixed ls plans)) → In [] (l ∷ rest) (prefixed (x ∷ ls) plans)
    go (inl e) r = rw e (in_left [] (l ∷ rest) (map (λ p. l ∷ p) plans) (prefixed ls plans) (map_in [] [] (λ p. l ∷ p) rest plans b))
    go (inr t) r = in_right [] (l ∷ rest) (map (λ p. x ∷ p) plans) (prefixed ls plans) (r t b)

once_prefixed : (ls : List ℕ) (plans : List (List ℕ)) → Once 0 ls → Once [] plans → Once [] (prefixed ls plans)
once_prefixed [] plans a b = λ i j h g e. absurd (omega arith)
once_prefixed (l ∷ ls) plans a b =
    once_append [] (map (λ p. l ∷ p) plans) (prefixed ls plans) (once_map [] [] (λ p. l ∷ p) (before_one l) plans b)
    (once_prefixed ls plans (once_tail 0 l ls a) b) apart
  where
    apart : (plan : List ℕ) → In [] plan (map (λ p. l ∷ p) plans) → In [] plan (prefixed ls plans) → ⊥
    apart plan s t =
        let (u, i, e) = in_map [] [] (λ p. l ∷ p) plan plans s in
        let (x, v, j, k, g) = in_prefixed ls plans plan t in
        let z : x ≡ l = cc in
        once_head 0 l ls a (rw z at j)

-- The letters of an alphabet are told apart, and a letter is known just when it stands among them.
alphabet_once : (ls : List ℕ) → Alphabet ls → Once 0 ls
alphabet_once ls a i j h g e = go (lt_cases i j) (lt_cases j i)
  where
    go : LtCases i j → LtCases j i → i ≡ j
    go (inl p) q = absurd (omega (arith, a.rising i j p.0 g))
    go (inr p) (inl q) = absurd (omega (arith, a.rising j i q.0 h))
    go (inr p) (inr q) = omega arith

known_in : (ls : List ℕ) (l : ℕ) → column ls l < length ls → In 0 l ls
known_in ls l h = (column ls l, h, find_at nat_test 0 l ls h)

in_known : (ls : List ℕ) (l : ℕ) → In 0 l ls → column ls l < length ls
in_known ls l (i, h, e) = omega (arith, find_least nat_test 0 l ls i h e)

-- ALL PLANS OF k LETTERS, each once.
pub plans_listed : (ls : List ℕ) → Alphabet ls → (k : ℕ) → Lists (OfLength ls k) (plans_of ls k)
plans_listed ls a zero = record {
  sound = λ plan s. empty plan (in_cases [] plan [] [] s);
  whole = λ plan p. none plan p.1;
  once = once_cons [] [] [] (in_nil [] []) (λ i j h g e. absurd (omega arith));
}
  where
    empty : (plan : List ℕ) → ([] ≡ plan) ⊎ In [] plan [] → OfLength ls zero plan
    empty plan (inl e) = rw (← e) (tt, refl)
    empty plan (inr t) = absurd (in_nil [] plan t)

    none : (plan : List ℕ) → length plan ≡ zero → In [] plan ([] ∷ [])
    none [] e = in_here [] [] []
    none (l ∷ plan) e = absurd (omega arith)
plans_listed ls a (suc k) = go (plans_listed ls a k)
  where
    go : Lists (OfLength ls k) (plans_of ls k) → Lists (OfLength ls (suc k)) (plans_of ls (suc k))
    go r = record { sound = sound; whole = whole; once = once_prefixed ls (plans_of ls k) (alphabet_once ls a) r.once }
      where
        sound : (plan : List ℕ) → In [] plan (prefixed ls (plans_of ls k)) → OfLength ls (suc k) plan
        sound plan s =
            let (l, rest, i, j, e) = in_prefixed ls (plans_of ls k) plan s in
            let (o, z) = r.sound rest j in
            rw (← e) ((in_known ls l i, o), ap suc z)

        whole : (plan : List ℕ) → OfLength ls (suc k) plan → In [] plan (prefixed ls (plans_of ls k))
        whole [] p = absurd (omega (arith, p.1))
        whole (l ∷ rest) p = let z : length rest ≡ k = omega (arith, p.1) in prefixed_in ls (plans_of ls k) l rest (known_in ls l p.0.0) (r.whole rest (p.0.1, z))

-- "m to the power k"
prefixed_long : (ls : List ℕ) (plans : List (List ℕ)) → length (prefixed ls plans) ≡ length ls * length plans
prefixed_long [] plans = omega arith
prefixed_long (l ∷ ls) plans = length-append (map (λ p. l ∷ p) plans) (prefixed ls plans) ∙ ap₂ ◌+◌ (length-map plans (λ p. l ∷ p)) (prefixed_long ls plans) ∙ omega (arith, suc-mul (length ls) (length plans))

pub plans_many : (ls : List ℕ) (k : ℕ) → length (plans_of ls k) ≡ length ls ^ k
plans_many ls zero = sym (pow-zero (length ls))
plans_many ls (suc k) = prefixed_long ls (plans_of ls k) ∙ ap (λ n. length ls * n) (plans_many ls k) ∙ sym (pow-succ' (length ls) k)
