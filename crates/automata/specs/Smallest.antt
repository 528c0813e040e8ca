-- The machine of a listing, and the smallest machine: the classes of equivalent states, numbered by first arrival.
use Rattle.std.specs.Prelude.{◌≡◌, refl, ◌≢◌, eqb}
use Rattle.std.proofs.Math.Path.{sym, ap, subst}
use Rattle.std.proofs.Common.{◌∙◌, inl, inr, le_trans, le_of_suc-le-suc, arith}
use Rattle.std.proofs.Math.Bool.{false}
use mathlib.Core.List.{List, [], ◌∷◌, map}
use Prim.Native.Nat.{ℕ, zero, suc, ◌≤◌, ◌<◌, suc-le-suc}
use Rattle.std.proofs.Math.ListN.{length, get_or, length-map}
use Rattle.std.proofs.Math.Seq.{ext_get_or}
use Rattle.automata.specs.Automaton.{Automaton, run, Reachable}
use Rattle.automata.specs.Basics.{LtCases, lt_cases, Inj, pigeonhole, Test, same_iff, nat_test, find, find_at, tab, range, length_tab, get_or_tab}
use Rattle.automata.specs.Listing.{listing, listed, find_in, listing_turns, listing_bound}
use Rattle.automata.specs.Simulation.{Both, both_length, both_get_or, both_listing, both_run}
use Rattle.automata.specs.Machine.{Machine, size, automaton, WellFormed, Numbered, Equivalent, Reduced, Canonical, Agree, SameWords, unique}
use Rattle.automata.specs.Partition.{get_d_map, classes, classes_whole, classes_low, classes_again, classes_equivalent}

-- ---- the machine of a listing

-- State i is entry i of l, and a move is the place of what it leads to.
unfoldable pub tabulated : {S : Type 0} → Test S → Automaton S → ℕ → List S → Machine
tabulated E A k l = record { accepting = map A.accepting l; moves = map (λ s. tab (λ c. find E (A.step s c) l) k) l }

module _ {S : Type 0} (E : Test S) (A : Automaton S) (k : ℕ) (l : List S) where
  pub tabulated_size : size (tabulated E A k l) ≡ length l
  unfolding tabulated
  tabulated_size = length-map l A.accepting

  tabulated_accepting : (i : ℕ) → i < length l → (automaton (tabulated E A k l)).accepting i ≡ A.accepting (get_or l i A.start)
  unfolding tabulated
  tabulated_accepting i h = get_d_map A.accepting l i A.start false h

  tabulated_row : (i : ℕ) → i < length l → get_or (tabulated E A k l).moves i [] ≡ tab (λ c. find E (A.step (get_or l i A.start) c) l) k
  unfolding tabulated
  tabulated_row i h = get_d_map (λ s. tab (λ c. find E (A.step s c) l) k) l i A.start [] h

  tabulated_step : (i c : ℕ) → i < length l → c < k → (automaton (tabulated E A k l)).step i c ≡ find E (A.step (get_or l i A.start) c) l
  tabulated_step i c h b = ap (λ r. get_or r c zero) (tabulated_row i h) ∙ get_or_tab (λ c. find E (A.step (get_or l i A.start) c) l) k c zero b

module _ {S : Type 0} (E : Test S) (A : Automaton S) (k j : ℕ) (h : length (listing E A k j) ≤ j) where
  abbrev L : List S
  L = listing E A k j

  abbrev N : Machine
  N = tabulated E A k (listing E A k j)

  goes : (i c : ℕ) → i < length L → c < k → ((automaton N).step i c < length L) × (get_or L ((automaton N).step i c) A.start ≡ A.step (get_or L i A.start) c)
  goes i c b v =
      rw (tabulated_step E A k L i c b v)
      (let f = find_in E A.start (A.step (get_or L i A.start) c) L ((listed E A k j).taken i c (le_trans b h) b v) in
      (f, find_at E A.start (A.step (get_or L i A.start) c) L f))

  pub tabulated_formed : WellFormed k N
  unfolding tabulated
  tabulated_formed = record {
    some = rw (tabulated_size E A k L) (listed E A k j).first.0;
    rows = length-map L (λ s. tab (λ c. find E (A.step s c) L) k) ∙ sym (tabulated_size E A k L);
    wide = λ p b. ap length (tabulated_row E A k L p (rw (tabulated_size E A k L) at b)) ∙ length_tab _ k;
    inside = λ p c b v. rw (tabulated_size E A k L) (goes p c (rw (tabulated_size E A k L) at b) v).0;
  }

  -- state i of the machine is entry i of the listing
  Is : S → ℕ → Type 0
  Is s i = (i < length L) × (get_or L i A.start ≡ s)

  is_start : Is A.start zero
  unfolding Is
  is_start = (listed E A k j).first

  is_step : (s : S) (i c : ℕ) → c < k → Is s i → Is (A.step s c) ((automaton N).step i c)
  unfolding Is
  is_step s i c v (b, e) = ((goes i c b v).0, (goes i c b v).1 ∙ ap (λ s. A.step s c) e)

  is_same : (x y : S) (i m : ℕ) → Is x i → Is y m → E.same x y ≡ eqb i m
  unfolding Is
  is_same x y i m (b, e) (b', e') = same_iff E nat_test x y i m (λ q. (listed E A k j).distinct i m b b' (e ∙ q ∙ sym e')) (λ q. sym e ∙ ap (λ n. get_or L n A.start) q ∙ e')

  -- Entry i accepts in A what state i accepts in the machine.
  pub tabulated_agree : (i : ℕ) → i < length L → Agree k A (automaton N) (get_or L i A.start) i
  unfolding Is
  tabulated_agree i b w o =
      let r : Is (run A (get_or L i A.start) w) (run (automaton N) i w) = both_run Is A (automaton N) k is_step (get_or L i A.start) i w o (b, refl) in
      sym (tabulated_accepting E A k L (run (automaton N) i w) r.0 ∙ ap A.accepting r.1)

  pub tabulated_words : SameWords k A (automaton N)
  tabulated_words w o = rw (listed E A k j).first.1 at (tabulated_agree zero (listed E A k j).first.0 w o)

  pub tabulated_numbered : Numbered k N
  unfolding Is
  tabulated_numbered =
      let m : List ℕ = listing nat_test (automaton N) k (size N) in
      let b : Both Is L m = both in
      ext_get_or zero m (range (size N)) (sym (both_length Is L m b) ∙ sym (tabulated_size E A k L) ∙ sym (length_tab (λ i. i) (size N)))
      λ i v. at m b i (rw (← both_length Is L m b) at v)
    where
      both : Both Is L (listing nat_test (automaton N) k (size N))
      both = subst (λ x. Both Is x (listing nat_test (automaton N) k (size N))) (ap (λ n. listing E A k n) (tabulated_size E A k L) ∙ listing_turns E A k j h)
          (both_listing Is E nat_test is_same A (automaton N) k is_step (size N) is_start)

      at : (m : List ℕ) → Both Is L m → (i : ℕ) → i < length L → get_or m i zero ≡ get_or (range (size N)) i zero
      at m b i v =
          let r : Is (get_or L i A.start) (get_or m i zero) = both_get_or Is L m A.start zero i is_start b in
          (listed E A k j).distinct (get_or m i zero) i r.0 v r.1 ∙ sym (get_or_tab (λ i. i) (size N) i zero (rw (tabulated_size E A k L) v))

-- ---- the smallest machine

-- The states that stand for their classes: each move goes on to the state that stands for its class.
abbrev pub quotient : Machine → List ℕ → Automaton ℕ
quotient M cls = record { start = zero; step = λ p c. get_or cls ((automaton M).step p c) zero; accepting = (automaton M).accepting }

unfoldable pub smallest_by : ℕ → Machine → List ℕ → Machine
smallest_by k M cls = tabulated nat_test (quotient M cls) k (listing nat_test (quotient M cls) k (size M))

-- The smallest machine that accepts the words of M.
unfoldable pub smallest : ℕ → Machine → Machine
smallest k M = smallest_by k M (classes k M)

module _ (k : ℕ) (M : Machine) (F : WellFormed k M) where
  abbrev cl : ℕ → ℕ
  cl p = get_or (classes k M) p zero

  abbrev Q : Automaton ℕ
  Q = quotient M (classes k M)

  cl_below : (p : ℕ) → p < size M → cl p < size M
  cl_below p h = le_trans (suc-le-suc (classes_low k M F p h)) h

  -- r stands for p
  For : ℕ → ℕ → Type 0
  For p r = (p < size M) × (cl p ≡ r)

  for_start : For zero zero
  unfolding For
  for_start = (F.some, omega (arith, classes_low k M F zero F.some))

  for_step : (p r c : ℕ) → c < k → For p r → For ((automaton M).step p c) (Q.step r c)
  unfolding For
  for_step p r c v (h, e) = (
    F.inside p c h v,
    classes_whole k M F ((automaton M).step p c) ((automaton M).step r c) (F.inside p c h v) (F.inside r c (rw e at (cl_below p h)) v)
        (rw (← e) λ w o. sym (classes_equivalent k M F p h (c ∷ w) (v, o))),
  )

  for_accepting : (p r : ℕ) → For p r → (automaton M).accepting p ≡ Q.accepting r
  unfolding For
  for_accepting p r (h, e) = rw (← e) (sym (classes_equivalent k M F p h [] tt))

  -- M's state and the state that stands for it accept the same
  quotient_agree : (p r : ℕ) → For p r → Agree k (automaton M) Q p r
  quotient_agree p r f w o = for_accepting _ _ (both_run For (automaton M) Q k for_step p r w o f)

  -- what is reached stands for itself
  quotient_reached : (r : ℕ) → Reachable k Q r → (r < size M) × (cl r ≡ r)
  unfolding For
  quotient_reached r (w, o, e) =
      let p : ℕ = run (automaton M) zero w in
      let f : For p (run Q zero w) = both_run For (automaton M) Q k for_step zero zero w o for_start in
      let s : cl p ≡ r = f.1 ∙ e in
      (rw (← s) (cl_below p f.0), rw (← s) (classes_again k M F p f.0))

  quotient_bound : length (listing nat_test Q k (size M)) ≤ size M
  quotient_bound = listing_bound nat_test Q k (λ s. s) (size M) (λ s r. (quotient_reached s r).0) (λ s t _ _ e. e) (size M)

  pub smallest_words : SameWords k (automaton M) (automaton (smallest k M))
  unfolding smallest smallest_by
  smallest_words w o = quotient_agree zero zero for_start w o ∙ tabulated_words nat_test Q k (size M) quotient_bound w o

  smallest_apart : Reduced k (smallest k M)
  unfolding smallest smallest_by For
  smallest_apart i j hi hj a =
      (listed nat_test Q k (size M)).distinct i j (inn i hi) (inn j hj)
      (sym (home i hi).1 ∙ classes_whole k M F (ent i) (ent j) (home i hi).0 (home j hj).0 (λ w o. up i hi w o ∙ a w o ∙ sym (up j hj w o)) ∙ (home j hj).1)
    where
      ent : ℕ → ℕ
      ent i = get_or (listing nat_test Q k (size M)) i zero

      inn : (i : ℕ) → i < size (smallest k M) → i < length (listing nat_test Q k (size M))
      inn i h = rw (tabulated_size nat_test Q k (listing nat_test Q k (size M))) at h

      home : (i : ℕ) → i < size (smallest k M) → (ent i < size M) × (cl (ent i) ≡ ent i)
      home i h = quotient_reached (ent i) ((listed nat_test Q k (size M)).reached i (inn i h))

      up : (i : ℕ) → i < size (smallest k M) → Agree k (automaton M) (automaton (smallest k M)) (ent i) i
      up i h w o = quotient_agree (ent i) (ent i) (home i h) w o ∙ tabulated_agree nat_test Q k (size M) quotient_bound i (inn i h) w o

  pub smallest_canonical : Canonical k (smallest k M)
  unfolding smallest smallest_by
  smallest_canonical = record { formed = tabulated_formed nat_test Q k (size M) quotient_bound; numbered = tabulated_numbered nat_test Q k (size M) quotient_bound; apart = smallest_apart }

  -- Where two states are equivalent, the smallest machine has fewer states.
  pub smallest_fewer : (p q : ℕ) → p < size M → q < size M → p ≢ q → Equivalent k M p q → size (smallest k M) < size M
  unfolding smallest smallest_by For
  smallest_fewer p q hp hq d a = rw (tabulated_size nat_test Q k (listing nat_test Q k (size M))) (pigeonhole (size M) (suc (length (listing nat_test Q k (size M)))) f below one_one)
    where
      e : cl p ≡ cl q
      e = classes_whole k M F p q hp hq a

      -- a state that does not stand for its class
      odd : (x : ℕ) × (x < size M) × (cl x ≢ x)
      odd = go (lt_cases p q)
        where
          go : LtCases p q → (x : ℕ) × (x < size M) × (cl x ≢ x)
          go (inl b) = (q, hq, omega (arith, e, classes_low k M F p hp))
          go (inr b) = (p, hp, omega (arith, e, classes_low k M F q hq))

      f : ℕ → ℕ
      f zero = odd.0
      f (suc i) = get_or (listing nat_test Q k (size M)) i zero

      home : (i : ℕ) → i < length (listing nat_test Q k (size M)) → (f (suc i) < size M) × (cl (f (suc i)) ≡ f (suc i))
      home i h = quotient_reached (f (suc i)) ((listed nat_test Q k (size M)).reached i h)

      below : (i : ℕ) → i < suc (length (listing nat_test Q k (size M))) → f i < size M
      below zero h = odd.1
      below (suc i) h = (home i (le_of_suc-le-suc h)).0

      one_one : Inj (suc (length (listing nat_test Q k (size M)))) f
      one_one zero zero hi hj x = refl
      one_one zero (suc j) hi hj x = absurd (odd.2 (ap cl x ∙ (home j (le_of_suc-le-suc hj)).1 ∙ sym x))
      one_one (suc i) zero hi hj x = absurd (odd.2 (ap cl (sym x) ∙ (home i (le_of_suc-le-suc hi)).1 ∙ x))
      one_one (suc i) (suc j) hi hj x = ap suc ((listed nat_test Q k (size M)).distinct i j (le_of_suc-le-suc hi) (le_of_suc-le-suc hj) x)

-- The smallest machine of a canonical one is itself.
pub smallest_same : (k : ℕ) (M : Machine) → Canonical k M → smallest k M ≡ M
smallest_same k M C = unique k (smallest k M) M (smallest_canonical k M C.formed) C (λ w o. sym (smallest_words k M C.formed w o))

-- Machines that accept the same words have the same smallest machine.
pub smallest_unique : (k : ℕ) (M N : Machine) → WellFormed k M → WellFormed k N → SameWords k (automaton M) (automaton N) → smallest k M ≡ smallest k N
smallest_unique k M N F G same =
    unique k (smallest k M) (smallest k N) (smallest_canonical k M F) (smallest_canonical k N G)
    (λ w o. sym (smallest_words k M F w o) ∙ same w o ∙ smallest_words k N G w o)

-- ---- a stage: the listing of an automaton's states, then the smallest machine

module _ {S : Type 0} (E : Test S) (A : Automaton S) (k j : ℕ) where
  -- what a stage keeps, where j turns list all states
  unfoldable pub smallest_of : Machine
  smallest_of = smallest k (tabulated E A k (listing E A k j))

module _ {S : Type 0} (E : Test S) (A : Automaton S) (k j : ℕ) (h : length (listing E A k j) ≤ j) where
  pub smallest_of_canonical : Canonical k (smallest_of E A k j)
  unfolding smallest_of
  smallest_of_canonical = smallest_canonical k (tabulated E A k (listing E A k j)) (tabulated_formed E A k j h)

  pub smallest_of_words : SameWords k A (automaton (smallest_of E A k j))
  unfolding smallest_of
  smallest_of_words w o = tabulated_words E A k j h w o ∙ smallest_words k (tabulated E A k (listing E A k j)) (tabulated_formed E A k j h) w o
