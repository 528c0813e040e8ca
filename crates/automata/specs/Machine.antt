-- Machines of numbered states; canonical ones: well formed, numbered by first arrival, no two states equivalent. A canonical machine is the only one that
-- accepts its words (`unique`), and no complete deterministic machine that does has fewer states (`minimal`).
use Rattle.std.specs.Prelude.{◌≡◌, refl, Bool, false, List, [], ◌∷◌, ◌++◌, ℕ, zero, ◌≤◌, ◌<◌, length, get_or, eqb}
use Rattle.std.proofs.Common.{sym, ap, ◌∙◌, subst, inl, inr, arith, ext_get_or}
use Rattle.automata.specs.Basics.{LtCases, same_iff, lt_cases, nat_test, Inj, pigeonhole, range, length_tab, get_or_tab}
use Rattle.automata.specs.Automaton.{Automaton, Over, over_append, run, run_append, Reachable}
use Rattle.automata.specs.Listing.{listing, listing_reached}
use Rattle.automata.specs.Simulation.{Both, both_get_or, both_listing}

-- ---- states that accept the same words

-- From p in A and from q in B the same words of k columns are accepted.
abbrev pub Agree : {S S' : Type 0} → ℕ → Automaton S → Automaton S' → S → S' → Type 0
Agree k A B p q = (w : List ℕ) → Over k w → A.accepting (run A p w) ≡ B.accepting (run B q w)

-- A and B accept the same words of k columns.
abbrev pub SameWords : {S S' : Type 0} → ℕ → Automaton S → Automaton S' → Type 0
SameWords k A B = Agree k A B A.start B.start

pub agree_after : {S S' : Type 0} (k : ℕ) (A : Automaton S) (B : Automaton S') (p : S) (q : S') (u : List ℕ) → Over k u → Agree k A B p q → Agree k A B (run A p u) (run B q u)
agree_after k A B p q u o h w v =
    ap A.accepting (sym (run_append A p u w)) ∙ h (u ++ w) (over_append k u w o v) ∙ ap B.accepting (run_append B q u w)

-- ---- machines

pub record Machine : Type 0 where
  pub accepting : List Bool
  pub moves : List (List ℕ)

abbrev pub size : Machine → ℕ
size M = length M.accepting

abbrev pub automaton : Machine → Automaton ℕ
automaton M = record { start = zero; step = λ p c. get_or (get_or M.moves p []) c zero; accepting = λ p. get_or M.accepting p false }

pub record WellFormed (k : ℕ) (M : Machine) : Type 0 where
  pub some : zero < size M
  pub rows : length M.moves ≡ size M
  pub wide : (p : ℕ) → p < size M → length (get_or M.moves p []) ≡ k
  pub inside : (p c : ℕ) → p < size M → c < k → get_or (get_or M.moves p []) c zero < size M

-- All states are reached, and numbered by first arrival.
abbrev pub Numbered : ℕ → Machine → Type 0
Numbered k M = listing nat_test (automaton M) k (size M) ≡ range (size M)

abbrev pub Equivalent : ℕ → Machine → ℕ → ℕ → Type 0
Equivalent k M p q = Agree k (automaton M) (automaton M) p q

abbrev pub Reduced : ℕ → Machine → Type 0
Reduced k M = (p q : ℕ) → p < size M → q < size M → Equivalent k M p q → p ≡ q

pub record Canonical (k : ℕ) (M : Machine) : Type 0 where
  pub formed : WellFormed k M
  pub numbered : Numbered k M
  pub apart : Reduced k M

pub run_inside : (k : ℕ) (M : Machine) → WellFormed k M → (p : ℕ) (w : List ℕ) → p < size M → Over k w → run (automaton M) p w < size M
run_inside k M f p [] h o = h
run_inside k M f p (c ∷ w) h o = run_inside k M f ((automaton M).step p c) w (f.inside p c h o.0) o.1

-- the word that leads to a state
pub access : (k : ℕ) (M : Machine) → Numbered k M → (p : ℕ) → p < size M → Reachable k (automaton M) p
access k M e p h =
    listing_reached nat_test (automaton M) k (size M) p
    (p, rw (ap length e, length_tab (λ i. i) (size M)) h, ap (λ l. get_or l p zero) e ∙ get_or_tab (λ i. i) (size M) p zero h)

-- a choice for each number below n is a function
pub choice_function : {A : Type 0} (d : A) (n : ℕ) (P : ℕ → A → Type 0) → ((i : ℕ) → i < n → (x : A) × P i x) → (f : ℕ → A) × ((i : ℕ) → i < n → P i (f i))
choice_function {A} d n P h = (λ i. (pick i).0, λ i. (pick i).1)
  where
    pick : (i : ℕ) → (x : A) × (i < n → P i x)
    pick i = go (lt_cases i n)
      where
        go : LtCases i n → (x : A) × (i < n → P i x)
        go (inl p) = ((h i p.0).0, λ _. (h i p.0).1)
        go (inr p) = (d, λ b. absurd (omega arith))

-- MINIMALITY. An automaton that accepts a canonical machine's words, and whose reached states are told apart by codes below m, has at least as
-- many of these as the machine has states.
pub minimal : {S : Type 0} (k : ℕ) (M : Machine) → Canonical k M → (B : Automaton S) (code : S → ℕ) (m : ℕ)
    → ((s : S) → Reachable k B s → code s < m) → ((s t : S) → Reachable k B s → Reachable k B t → code s ≡ code t → s ≡ t)
    → SameWords k (automaton M) B → size M ≤ m
minimal {S} k M C B code m below sharp same =
    pigeonhole m (size M) (λ i. code (at i)) (λ i h. below (at i) (way i h)) one_one
  where
    words : (f : ℕ → List ℕ) × ((i : ℕ) → i < size M → Over k (f i) × (run (automaton M) zero (f i) ≡ i))
    words = choice_function [] (size M) (λ i w. Over k w × (run (automaton M) zero w ≡ i)) (λ i h. let a = access k M C.numbered i h in (a.0, (a.1, a.2)))

    at : ℕ → S
    at i = run B B.start (words.0 i)

    way : (i : ℕ) → i < size M → Reachable k B (at i)
    way i h = (words.0 i, (words.1 i h).0, refl)

    one_one : Inj (size M) (λ i. code (at i))
    one_one i j hi hj e = C.apart i j hi hj λ w o. first i hi w o ∙ ap (λ s. B.accepting (run B s w)) meet ∙ sym (first j hj w o)
      where
        meet : at i ≡ at j
        meet = sharp (at i) (at j) (way i hi) (way j hj) e

        first : (i : ℕ) → i < size M → Agree k (automaton M) B i (at i)
        first i h w o = ap (λ s. (automaton M).accepting (run (automaton M) s w)) (sym (words.1 i h).1) ∙ agree_after k (automaton M) B zero B.start (words.0 i) (words.1 i h).0 same w o

-- The same for a machine whose states are numbers below m, with any start and any step that stays below m.
pub minimal_numbers : (k : ℕ) (M : Machine) → Canonical k M → (B : Automaton ℕ) (m : ℕ) → B.start < m → ((p c : ℕ) → p < m → c < k → B.step p c < m)
    → SameWords k (automaton M) B → size M ≤ m
minimal_numbers k M C B m hs hc same = minimal k M C B (λ s. s) m (λ s r. rw r.2 at (stay B.start r.0 r.1 hs)) (λ s t _ _ e. e) same
  where
    stay : (p : ℕ) (w : List ℕ) → Over k w → p < m → run B p w < m
    stay p [] o h = h
    stay p (c ∷ w) o h = stay (B.step p c) w o.1 (hc p c h o.0)

-- As many states as there are words that lead to states which a code tells apart.
pub at_least : (k : ℕ) (M : Machine) → WellFormed k M → (n : ℕ) (word : ℕ → List ℕ) → ((i : ℕ) → i < n → Over k (word i))
    → (code : ℕ → ℕ) → ((i : ℕ) → i < n → code (run (automaton M) zero (word i)) ≡ i) → n ≤ size M
at_least k M F n word o code e =
    pigeonhole (size M) n (λ i. run (automaton M) zero (word i)) (λ i h. run_inside k M F zero (word i) F.some (o i h))
    (λ i j hi hj q. sym (e i hi) ∙ ap code q ∙ e j hj)

-- UNIQUENESS. Canonical machines that accept the same words are equal.
pub unique : (k : ℕ) (M N : Machine) → Canonical k M → Canonical k N → SameWords k (automaton M) (automaton N) → M ≡ N
unique k M N C D same = λ i. record { accepting = accepting≡ i; moves = moves≡ i }
  where
    n≡ : size M ≡ size N
    n≡ = omega (
      arith,
      minimal_numbers k M C (automaton N) (size N) D.formed.some D.formed.inside same,
      minimal_numbers k N D (automaton M) (size M) C.formed.some C.formed.inside (λ w o. sym (same w o)),
    )

    R : ℕ → ℕ → Type 0
    R p q = (p < size M) × (q < size N) × Agree k (automaton M) (automaton N) p q

    start : R zero zero
    start = (C.formed.some, D.formed.some, same)

    steps : (p q c : ℕ) → c < k → R p q → R ((automaton M).step p c) ((automaton N).step q c)
    steps p q c h (a, b, g) = (C.formed.inside p c a h, D.formed.inside q c b h, λ w o. g (c ∷ w) (h, o))

    agree : (x y x' y' : ℕ) → R x x' → R y y' → eqb x y ≡ eqb x' y'
    agree x y x' y' (a, b, g) (a', b', g') = same_iff nat_test nat_test x y x' y'
        (λ e. D.apart x' y' b b' λ w o. sym (g w o) ∙ ap (λ p. (automaton M).accepting (run (automaton M) p w)) e ∙ g' w o)
        (λ e. C.apart x y a a' λ w o. g w o ∙ ap (λ p. (automaton N).accepting (run (automaton N) p w)) e ∙ sym (g' w o))

    listed : listing nat_test (automaton N) k (size M) ≡ range (size M)
    listed = subst (λ n. listing nat_test (automaton N) k n ≡ range n) (sym n≡) D.numbered

    both : Both R (range (size M)) (range (size M))
    both = rw (C.numbered, listed) at (both_listing R nat_test nat_test agree (automaton M) (automaton N) k steps (size M) start)

    here : (p : ℕ) → p < size M → R p p
    here p h = rw (get_or_tab (λ i. i) (size M) p zero h) at (both_get_or R (range (size M)) (range (size M)) zero zero p start both)

    accepting≡ : M.accepting ≡ N.accepting
    accepting≡ = ext_get_or false M.accepting N.accepting n≡ (λ p h. (here p h).2 [] tt)

    moves≡ : M.moves ≡ N.moves
    moves≡ = ext_get_or [] M.moves N.moves (C.formed.rows ∙ n≡ ∙ sym D.formed.rows)
        λ p h. row p (rw C.formed.rows at h)
      where
        row : (p : ℕ) → p < size M → get_or M.moves p [] ≡ get_or N.moves p []
        row p h = ext_get_or zero (get_or M.moves p []) (get_or N.moves p []) (C.formed.wide p h ∙ sym (D.formed.wide p (here p h).1))
            λ c b. entry c (rw (C.formed.wide p h) at b)
          where
            entry : (c : ℕ) → c < k → (automaton M).step p c ≡ (automaton N).step p c
            entry c b =
                let x = (automaton M).step p c in
                let y = (automaton N).step p c in
                let r : R x y = steps p p c b (here p h) in
                let q : R x x = here x r.0 in
                D.apart x y q.1 r.1 (λ w o. sym (q.2 w o) ∙ r.2 w o)
