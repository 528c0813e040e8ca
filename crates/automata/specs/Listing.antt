-- The listing of an automaton's reachable states in the order of first arrival (breadth first), and what it lists.
use Rattle.std.specs.Prelude.{◌≡◌, refl, ◌⊎◌, ltb}
use Rattle.std.proofs.Common.{sym, ◌∙◌, le_refl, le_of_suc-le-suc, not-suc-le-zero, le_trans, length-append}
use Rattle.std.proofs.Math.Path.{ap}
use Rattle.std.proofs.Math.Bool.{cond}
use Rattle.std.proofs.Math.Logic.{inl, inr}
use mathlib.Core.List.{List, [], ◌∷◌, ◌++◌}
use Prim.Native.Nat.{ℕ, zero, suc, ◌+◌, ◌≤◌, ◌<◌}
use native.Mathlib.Omega.{arith}
use Rattle.std.proofs.Math.ListN.{length, get_or, get_or-append}
use Rattle.std.proofs.Math.Seq.{get_or-append_seam}
use Rattle.automata.specs.Booleans.{choose}
use Rattle.automata.specs.Basics.{LtCases, Test, lt_cases, find, find_at, find_least, Inj, pigeonhole}
use Rattle.automata.specs.Automaton.{Automaton, Over, run, Reachable, reached_step}

-- ---- lists that grow at their end

module _ {S : Type 0} (d : S) where
  -- x stands in l, and where
  abbrev pub At : List S → S → Type 0
  At l x = (i : ℕ) × (i < length l) × (get_or l i d ≡ x)

  -- each entry of l is P
  abbrev pub All : (S → Type 0) → List S → Type 0
  All P l = (i : ℕ) → i < length l → P (get_or l i d)

  -- no entry stands twice
  abbrev pub Distinct : List S → Type 0
  Distinct l = Inj (length l) (λ i. get_or l i d)

  -- l' begins with l
  pub record Extends (l l' : List S) : Type 0 where
    pub longer : length l ≤ length l'
    pub keeps : (i : ℕ) → i < length l → get_or l' i d ≡ get_or l i d

  pub extends_refl : (l : List S) → Extends l l
  extends_refl l = record { longer = le_refl (length l); keeps = λ i h. refl }

  pub extends_trans : {a b c : List S} → Extends a b → Extends b c → Extends a c
  extends_trans p q = record { longer = le_trans p.longer q.longer; keeps = λ i h. q.keeps i (le_trans h p.longer) ∙ p.keeps i h }

  pub extends_at : {l l' : List S} {x : S} → Extends l l' → At l x → At l' x
  extends_at g (i, h, e) = (i, le_trans h g.longer, g.keeps i h ∙ e)

  length_snoc : (l : List S) (x : S) → length (l ++ (x ∷ [])) ≡ suc (length l)
  length_snoc l x = omega (arith, length-append l (x ∷ []))

  -- an index into l with x behind it is one into l, or the last
  snoc_cases : (l : List S) (x : S) (i : ℕ) → i < length (l ++ (x ∷ []))
      → ((i < length l) × (get_or (l ++ (x ∷ [])) i d ≡ get_or l i d)) ⊎ ((i ≡ length l) × (get_or (l ++ (x ∷ [])) i d ≡ x))
  snoc_cases l x i h = go (lt_cases i (length l))
    where
      go : LtCases i (length l)
          → ((i < length l) × (get_or (l ++ (x ∷ [])) i d ≡ get_or l i d)) ⊎ ((i ≡ length l) × (get_or (l ++ (x ∷ [])) i d ≡ x))
      go (inl p) = inl (p.0, get_or-append l (x ∷ []) d i p.0)
      go (inr p) = let e : i ≡ length l = omega (arith, length_snoc l x) in inr (e, rw e (get_or-append_seam l x [] d))

-- ---- the listing

pub find_in : {S : Type 0} (E : Test S) (d x : S) (l : List S) → At d l x → find E x l < length l
find_in E d x l (i, b, e) = omega (arith, find_least E d x l i b e)

module _ {S : Type 0} (E : Test S) where
  -- l, with x behind it where x does not stand in l
  unfoldable pub add : List S → S → List S
  add l x = cond (ltb (find E x l) (length l)) l (l ++ (x ∷ []))

  pub add_cases : (l : List S) (x : S) → ((find E x l < length l) × (add l x ≡ l)) ⊎ ((length l ≤ find E x l) × (add l x ≡ l ++ (x ∷ [])))
  unfolding add
  add_cases l x = go (lt_cases (find E x l) (length l))
    where
      go : LtCases (find E x l) (length l)
          → ((find E x l < length l) × (add l x ≡ l)) ⊎ ((length l ≤ find E x l) × (add l x ≡ l ++ (x ∷ [])))
      go (inl p) = inl (p.0, ap (λ b. cond b l (l ++ (x ∷ []))) p.1)
      go (inr p) = inr (p.0, ap (λ b. cond b l (l ++ (x ∷ []))) p.1)

module _ {S : Type 0} (E : Test S) (d : S) (l : List S) (x : S) where
  Cases : Type 0
  Cases = ((find E x l < length l) × (add E l x ≡ l)) ⊎ ((length l ≤ find E x l) × (add E l x ≡ l ++ (x ∷ [])))

  pub add_extends : Extends d l (add E l x)
  unfolding Cases
  add_extends = go (add_cases E l x)
    where
      go : Cases → Extends d l (add E l x)
      go (inl p) = rw p.1 (extends_refl d l)
      go (inr p) = rw p.1 record { longer = omega (arith, length_snoc d l x); keeps = λ i h. get_or-append l (x ∷ []) d i h }

  pub add_at : At d (add E l x) x
  unfolding Cases
  add_at = go (add_cases E l x)
    where
      go : Cases → At d (add E l x) x
      go (inl p) = rw p.1 (find E x l, p.0, find_at E d x l p.0)
      go (inr p) = rw p.1 (length l, omega (arith, length_snoc d l x), get_or-append_seam l x [] d)

  pub add_all : (P : S → Type 0) → All d P l → P x → All d P (add E l x)
  unfolding Cases
  add_all P a px = go (add_cases E l x)
    where
      go : Cases → All d P (add E l x)
      go (inl p) = rw p.1 a
      go (inr p) = rw p.1 λ i h. put i (snoc_cases d l x i h)
        where
          put : (i : ℕ) → ((i < length l) × (get_or (l ++ (x ∷ [])) i d ≡ get_or l i d)) ⊎ ((i ≡ length l) × (get_or (l ++ (x ∷ [])) i d ≡ x)) → P (get_or (l ++ (x ∷ [])) i d)
          put i (inl q) = rw q.1 (a i q.0)
          put i (inr q) = rw q.1 px

  pub add_distinct : Distinct d l → Distinct d (add E l x)
  unfolding Cases
  add_distinct a = go (add_cases E l x)
    where
      go : Cases → Distinct d (add E l x)
      go (inl p) = rw p.1 a
      go (inr p) = rw p.1 λ i j hi hj e. put i j e (snoc_cases d l x i hi) (snoc_cases d l x j hj)
        where
          m : List S
          m = l ++ (x ∷ [])

          put : (i j : ℕ) → get_or m i d ≡ get_or m j d
              → ((i < length l) × (get_or m i d ≡ get_or l i d)) ⊎ ((i ≡ length l) × (get_or m i d ≡ x))
              → ((j < length l) × (get_or m j d ≡ get_or l j d)) ⊎ ((j ≡ length l) × (get_or m j d ≡ x)) → i ≡ j
          put i j e (inl q) (inl r) = a i j q.0 r.0 (sym q.1 ∙ e ∙ r.1)
          put i j e (inl q) (inr r) = omega (arith, find_least E d x l i q.0 (sym q.1 ∙ e ∙ r.1))
          put i j e (inr q) (inl r) = omega (arith, find_least E d x l j r.0 (sym r.1 ∙ sym e ∙ q.1))
          put i j e (inr q) (inr r) = omega arith

module _ {S : Type 0} (E : Test S) (A : Automaton S) where
  -- l, with what the first c columns lead to from s
  unfoldable pub add_to : ℕ → List S → S → List S
  add_to zero l s = l
  add_to (suc c) l s = add E (add_to c l s) (A.step s c)

  -- Turn j: all that entry j leads to, in the order of the columns, where there is an entry j.
  unfoldable pub turn : ℕ → ℕ → List S → List S
  turn k j l = let r = add_to k l (get_or l j A.start) in cond (ltb j (length l)) r l

  -- The states in the order of first arrival, as far as j turns show: entries in their order, and for each the columns in theirs.
  -- It is whole when it has no more than j entries.
  unfoldable pub listing : ℕ → ℕ → List S
  listing k zero = A.start ∷ []
  listing k (suc j) = turn k j (listing k j)

  -- n further turns on l, from turn j: the same, and it stops where no entry is left.
  unfoldable pub explore_from : ℕ → ℕ → ℕ → List S → List S
  explore_from k zero j l = l
  explore_from k (suc n) j l = choose (ltb j (length l)) (λ _. explore_from k n (suc j) (add_to k l (get_or l j A.start))) (λ _. l)

  -- The listing of n turns, computed breadth first.
  unfoldable pub explore : ℕ → ℕ → List S
  explore k n = explore_from k n zero (A.start ∷ [])

module _ {S : Type 0} (E : Test S) (A : Automaton S) where
  pub add_to_extends : (c : ℕ) (l : List S) (s : S) → Extends A.start l (add_to E A c l s)
  unfolding add_to
  add_to_extends zero l s = extends_refl A.start l
  add_to_extends (suc c) l s = extends_trans A.start (add_to_extends c l s) (add_extends E A.start (add_to E A c l s) (A.step s c))

  add_to_at : (c : ℕ) (l : List S) (s : S) (a : ℕ) → a < c → At A.start (add_to E A c l s) (A.step s a)
  unfolding add_to
  add_to_at zero l s a h = absurd (not-suc-le-zero h)
  add_to_at (suc c) l s a h = go (lt_cases a c) (add_to_at c l s a)
    where
      go : LtCases a c → (a < c → At A.start (add_to E A c l s) (A.step s a))
          → At A.start (add E (add_to E A c l s) (A.step s c)) (A.step s a)
      go (inl p) f = extends_at A.start (add_extends E A.start (add_to E A c l s) (A.step s c)) (f p.0)
      go (inr p) f = let e : a ≡ c = omega arith in rw e (add_at E A.start (add_to E A c l s) (A.step s c))

  add_to_all : (P : S → Type 0) (c : ℕ) (l : List S) (s : S) → ((a : ℕ) → a < c → P (A.step s a)) → All A.start P l → All A.start P (add_to E A c l s)
  unfolding add_to
  add_to_all P zero l s ps a = a
  add_to_all P (suc c) l s ps a =
      add_all E A.start (add_to E A c l s) (A.step s c) P (add_to_all P c l s (λ b h. ps b (omega arith)) a) (ps c (le_refl (suc c)))

  add_to_distinct : (c : ℕ) (l : List S) (s : S) → Distinct A.start l → Distinct A.start (add_to E A c l s)
  unfolding add_to
  add_to_distinct zero l s a = a
  add_to_distinct (suc c) l s a = add_distinct E A.start (add_to E A c l s) (A.step s c) (add_to_distinct c l s a)

module _ {S : Type 0} (E : Test S) (A : Automaton S) (k : ℕ) where
  pub turn_cases : (j : ℕ) (l : List S)
      → ((j < length l) × (turn E A k j l ≡ add_to E A k l (get_or l j A.start))) ⊎ ((length l ≤ j) × (turn E A k j l ≡ l))
  unfolding turn
  turn_cases j l = go (lt_cases j (length l))
    where
      go : LtCases j (length l)
          → ((j < length l) × (turn E A k j l ≡ add_to E A k l (get_or l j A.start))) ⊎ ((length l ≤ j) × (turn E A k j l ≡ l))
      go (inl p) = inl (p.0, ap (λ b. cond b (add_to E A k l (get_or l j A.start)) l) p.1)
      go (inr p) = inr (p.0, ap (λ b. cond b (add_to E A k l (get_or l j A.start)) l) p.1)

  -- What holds of the listing after j turns.
  pub record Listed (j : ℕ) (l : List S) : Type 0 where
    pub first : (zero < length l) × (get_or l zero A.start ≡ A.start)
    pub distinct : Distinct A.start l
    pub reached : All A.start (λ s. Reachable k A s) l
    pub taken : (i c : ℕ) → i < j → i < length l → c < k → At A.start l (A.step (get_or l i A.start) c)

  pub turn_extends : (j : ℕ) (l : List S) → Extends A.start l (turn E A k j l)
  turn_extends j l = go (turn_cases j l)
    where
      go : ((j < length l) × (turn E A k j l ≡ add_to E A k l (get_or l j A.start))) ⊎ ((length l ≤ j) × (turn E A k j l ≡ l)) → Extends A.start l (turn E A k j l)
      go (inl p) = rw p.1 (add_to_extends E A k l (get_or l j A.start))
      go (inr p) = rw p.1 (extends_refl A.start l)

  turn_listed : (j : ℕ) (l : List S) → Listed j l → Listed (suc j) (turn E A k j l)
  turn_listed j l r = go (turn_cases j l)
    where
      go : ((j < length l) × (turn E A k j l ≡ add_to E A k l (get_or l j A.start))) ⊎ ((length l ≤ j) × (turn E A k j l ≡ l)) → Listed (suc j) (turn E A k j l)
      go (inl p) = rw p.1 record {
        first = (le_trans r.first.0 g.longer, g.keeps zero r.first.0 ∙ r.first.1);
        distinct = add_to_distinct E A k l s r.distinct;
        reached = add_to_all E A (λ s. Reachable k A s) k l s (λ a h. reached_step k A s a h (r.reached j p.0)) r.reached;
        taken = λ i c hi hl hc. old i c hi hc (lt_cases i j);
      }
        where
          s : S
          s = get_or l j A.start

          l' : List S
          l' = add_to E A k l s

          g : Extends A.start l l'
          g = add_to_extends E A k l s

          old : (i c : ℕ) → i < suc j → c < k → LtCases i j → At A.start l' (A.step (get_or l' i A.start) c)
          old i c hi hc (inl q) = rw (g.keeps i (le_trans q.0 (omega arith))) (extends_at A.start g (r.taken i c q.0 (le_trans q.0 (omega arith)) hc))
          old i c hi hc (inr q) = let e : i ≡ j = omega arith in rw (e, g.keeps j p.0) (add_to_at E A k l s c hc)
      go (inr p) = rw p.1 record { first = r.first; distinct = r.distinct; reached = r.reached; taken = λ i c hi hl hc. r.taken i c (omega arith) hl hc }

  pub listed : (j : ℕ) → Listed j (listing E A k j)
  unfolding listing
  listed zero = record {
    first = (le_refl 1, refl);
    distinct = λ i j hi hj e. omega arith;
    reached = one;
    taken = λ i c hi hl hc. absurd (not-suc-le-zero hi);
  }
    where
      one : (i : ℕ) → i < 1 → Reachable k A (get_or (A.start ∷ []) i A.start)
      one zero h = ([], tt, refl)
      one (suc i) h = absurd (not-suc-le-zero (le_of_suc-le-suc h))
  listed (suc j) = turn_listed j (listing E A k j) (listed j)

  -- ---- a whole listing

  -- A whole listing has all that its entries lead to.
  whole_run : (j : ℕ) → length (listing E A k j) ≤ j → (s : S) (w : List ℕ) → Over k w → At A.start (listing E A k j) s → At A.start (listing E A k j) (run A s w)
  whole_run j h s [] o a = a
  whole_run j h s (c ∷ w) o (i, b, e) =
      whole_run j h (A.step s c) w o.1 (rw e at ((listed j).taken i c (le_trans b h) b o.0))

  pub start_at : (j : ℕ) → At A.start (listing E A k j) A.start
  start_at j = (zero, (listed j).first.0, (listed j).first.1)

  -- THE LISTING: no state twice, each reached; and where it is whole, each that is reached.
  pub listing_distinct : (j : ℕ) → Distinct A.start (listing E A k j)
  listing_distinct j = (listed j).distinct

  pub listing_reached : (j : ℕ) (s : S) → At A.start (listing E A k j) s → Reachable k A s
  listing_reached j s (i, b, e) = rw e at ((listed j).reached i b)

  pub listing_has : (j : ℕ) → length (listing E A k j) ≤ j → (s : S) → Reachable k A s → At A.start (listing E A k j) s
  listing_has j h s (w, o, e) = rw e at (whole_run j h A.start w o (start_at j))

  pub listing_extends : (j m : ℕ) → j ≤ m → Extends A.start (listing E A k j) (listing E A k m)
  unfolding listing
  listing_extends j zero h = let e : j ≡ zero = omega arith in rw e (extends_refl A.start (A.start ∷ []))
  listing_extends j (suc m) h = go (lt_cases m j) (listing_extends j m)
    where
      go : LtCases m j → (j ≤ m → Extends A.start (listing E A k j) (listing E A k m))
          → Extends A.start (listing E A k j) (turn E A k m (listing E A k m))
      go (inl p) f = let e : j ≡ suc m = omega arith in rw e (extends_refl A.start (listing E A k (suc m)))
      go (inr p) f = extends_trans A.start (f p.0) (turn_extends m (listing E A k m))

  -- Further turns change nothing of a whole listing.
  pub listing_stays : (j m : ℕ) → j ≤ m → length (listing E A k j) ≤ j → listing E A k m ≡ listing E A k j
  unfolding listing
  listing_stays j zero h w = let e : j ≡ zero = omega arith in rw e
  listing_stays j (suc m) h w = go (lt_cases m j) (listing_stays j m)
    where
      still : listing E A k m ≡ listing E A k j → j ≤ m → turn E A k m (listing E A k m) ≡ listing E A k j
      still e b = go' (turn_cases m (listing E A k m))
        where
          go' : ((m < length (listing E A k m)) × (turn E A k m (listing E A k m) ≡ add_to E A k (listing E A k m) (get_or (listing E A k m) m A.start)))
              ⊎ ((length (listing E A k m) ≤ m) × (turn E A k m (listing E A k m) ≡ listing E A k m)) → turn E A k m (listing E A k m) ≡ listing E A k j
          go' (inl p) = absurd (omega (arith, ap length e))
          go' (inr p) = p.1 ∙ e

      go : LtCases m j → (j ≤ m → length (listing E A k j) ≤ j → listing E A k m ≡ listing E A k j)
          → turn E A k m (listing E A k m) ≡ listing E A k j
      go (inl p) f = let e : j ≡ suc m = omega arith in rw e
      go (inr p) f = still (f p.0 w) p.0

  -- As many turns as the whole listing has entries make it.
  pub listing_turns : (j : ℕ) → length (listing E A k j) ≤ j → listing E A k (length (listing E A k j)) ≡ listing E A k j
  listing_turns j h = sym (listing_stays (length (listing E A k j)) j h (listing_extends (length (listing E A k j)) j h).longer)

  -- Where the reached states are told apart by codes below n, n turns are enough.
  pub listing_bound : (code : S → ℕ) (n : ℕ) → ((s : S) → Reachable k A s → code s < n)
      → ((s t : S) → Reachable k A s → Reachable k A t → code s ≡ code t → s ≡ t) → (j : ℕ) → length (listing E A k j) ≤ n
  listing_bound code n below apart j =
      pigeonhole n (length (listing E A k j)) (λ i. code (get_or (listing E A k j) i A.start))
      (λ i h. below _ ((listed j).reached i h))
      (λ i m hi hm e. (listed j).distinct i m hi hm (apart _ _ ((listed j).reached i hi) ((listed j).reached m hm) e))

  -- More than n entries: n + 1 distinct reached states.
  pub listing_more : (j n : ℕ) → n < length (listing E A k j) → (f : ℕ → S) × ((i : ℕ) → i < suc n → Reachable k A (f i)) × Inj (suc n) f
  listing_more j n h =
      (λ i. get_or (listing E A k j) i A.start, λ i b. (listed j).reached i (le_trans b h), λ i m hi hm e. (listed j).distinct i m (le_trans hi h) (le_trans hm h) e)

  -- A whole listing is the longest: there are no more distinct reached states than it has entries.
  pub listing_most : (j : ℕ) → length (listing E A k j) ≤ j → (m : ℕ) (f : ℕ → S) → ((i : ℕ) → i < m → Reachable k A (f i)) → Inj m f → m ≤ length (listing E A k j)
  listing_most j h m f r inj =
      pigeonhole (length (listing E A k j)) m (λ i. find E (f i) (listing E A k j)) (λ i b. find_in E A.start (f i) (listing E A k j) (listing_has j h (f i) (r i b)))
      (λ i i' b b' e. inj i i' b b'
      (sym (find_at E A.start (f i) (listing E A k j) (find_in E A.start (f i) (listing E A k j) (listing_has j h (f i) (r i b))))
      ∙ ap (λ x. get_or (listing E A k j) x A.start) e
      ∙ find_at E A.start (f i') (listing E A k j) (find_in E A.start (f i') (listing E A k j) (listing_has j h (f i') (r i' b')))))

  -- The breadth-first search makes the listing.
  explore_from_listing : (n j : ℕ) → explore_from E A k n j (listing E A k j) ≡ listing E A k (n + j)
  unfolding explore_from listing
  explore_from_listing zero j = let z : j ≡ 0 + j = omega arith in ap (listing E A k) z
  explore_from_listing (suc n) j = go (lt_cases j (length (listing E A k j))) (turn_cases j (listing E A k j)) (explore_from_listing n (suc j))
    where
      l : List S
      l = listing E A k j

      go : LtCases j (length l) → ((j < length l) × (turn E A k j l ≡ add_to E A k l (get_or l j A.start))) ⊎ ((length l ≤ j) × (turn E A k j l ≡ l))
          → explore_from E A k n (suc j) (turn E A k j l) ≡ listing E A k (n + suc j)
          → choose (ltb j (length l)) (λ _. explore_from E A k n (suc j) (add_to E A k l (get_or l j A.start))) (λ _. l) ≡ listing E A k (suc n + j)
      go (inl p) (inl q) f =
          let z : n + suc j ≡ suc n + j = omega arith in
          rw p.1 (ap (explore_from E A k n (suc j)) (sym q.1) ∙ f ∙ ap (listing E A k) z)
      go (inl p) (inr q) f = absurd (omega arith)
      go (inr p) r f = rw p.1 (sym (listing_stays j (suc n + j) (omega arith) p.0))

  pub explore_listing : (n : ℕ) → explore E A k n ≡ listing E A k n
  unfolding explore listing
  explore_listing n = let z : n + 0 ≡ n = omega arith in explore_from_listing n zero ∙ ap (listing E A k) z
