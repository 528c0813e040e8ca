-- The classes of equivalent states by partition refinement: a state's class is the least state equivalent to it.
use Rattle.std.specs.Prelude.{◌≡◌, Bool, ◌&&◌, ◌⊎◌, length, eqb}
use Rattle.std.proofs.Math.Path.{refl, sym, ap}
use Rattle.std.proofs.Common.{ap₂, ◌∙◌, inl, inr, le_refl, not-suc-le-zero, le_of_suc-le-suc}
use Rattle.std.proofs.Math.Bool.{true, false}
use Rattle.std.proofs.lemmas.Bool.{false≢true}
use mathlib.Core.List.{List, [], ◌∷◌, map}
use Prim.Native.Nat.{ℕ, zero, suc, ◌+◌, ◌≤◌, ◌<◌, zero-le, suc-le-suc}
use Rattle.std.proofs.Math.Nat.{le_trans}
use native.Mathlib.Omega.{arith}
use Rattle.std.proofs.Math.ListN.{get_or, length-map}
use Rattle.std.proofs.Math.Seq.{ext_get_or}
use Rattle.automata.specs.Booleans.{choose}
use Rattle.automata.specs.Basics.{LtCases, SameCases, Test, same_cases, lt_cases, nat_test, find, find_at, find_least, tab, length_tab, get_or_tab, tab_ext}
use Rattle.automata.specs.Machine.{Machine, size, automaton, WellFormed, Equivalent}

-- ---- a test of lists

module _ {A : Type 0} (E : Test A) where
  abbrev pub lists_same : List A → List A → Bool
  lists_same [] [] = true
  lists_same [] (y ∷ ys) = false
  lists_same (x ∷ xs) [] = false
  lists_same (x ∷ xs) (y ∷ ys) = let r = lists_same xs ys in E.same x y && r

  pub lists_sound : (l m : List A) → lists_same l m ≡ true → l ≡ m
  lists_sound [] [] e = refl
  lists_sound [] (y ∷ ys) e = absurd (false≢true e)
  lists_sound (x ∷ xs) [] e = absurd (false≢true e)
  lists_sound (x ∷ xs) (y ∷ ys) e =
      (elim (E.same x y) as (λ b. E.same x y ≡ b → b && lists_same xs ys ≡ true → x ∷ xs ≡ y ∷ ys)
      [ true ↦ λ h t. ap₂ ◌∷◌ (E.sound x y h) (lists_sound xs ys t) | false ↦ λ h t. absurd (false≢true t) ]) refl e

  pub lists_whole : (l : List A) → lists_same l l ≡ true
  lists_whole [] = refl
  lists_whole (x ∷ xs) = rw (E.whole x) (lists_whole xs)

  abbrev pub list_test : Test (List A)
  list_test = record { same = lists_same; sound = lists_sound; whole = lists_whole }

pub get_d_map : {A B : Type 0} (f : A → B) (l : List A) (i : ℕ) (a : A) (b : B) → i < length l → get_or (map f l) i b ≡ f (get_or l i a)
get_d_map f [] i a b h = absurd (not-suc-le-zero h)
get_d_map f (x ∷ xs) zero a b h = refl
get_d_map f (x ∷ xs) (suc i) a b h = get_d_map f xs i a b (le_of_suc-le-suc h)

-- ---- the first equal entry

module _ {A : Type 0} (E : Test A) where
  -- For each entry the place of the first that equals it.
  unfoldable pub firsts : List A → List ℕ
  firsts l = map (λ x. find E x l) l

module _ {A : Type 0} (E : Test A) (d : A) (l : List A) where
  firsts_length : length (firsts E l) ≡ length l
  unfolding firsts
  firsts_length = length-map l (λ x. find E x l)

  firsts_at : (p : ℕ) → p < length l → get_or (firsts E l) p zero ≡ find E (get_or l p d) l
  unfolding firsts
  firsts_at p h = get_d_map (λ x. find E x l) l p d zero h

  firsts_le : (p : ℕ) → p < length l → get_or (firsts E l) p zero ≤ p
  firsts_le p h = rw (firsts_at p h) (find_least E d (get_or l p d) l p h refl)

  -- the entry there is equal
  firsts_same : (p : ℕ) → p < length l → get_or l (get_or (firsts E l) p zero) d ≡ get_or l p d
  firsts_same p h = rw (firsts_at p h) (find_at E d (get_or l p d) l (le_trans (suc-le-suc (find_least E d (get_or l p d) l p h refl)) h))

  firsts_sound : (p q : ℕ) → p < length l → q < length l → get_or (firsts E l) p zero ≡ get_or (firsts E l) q zero → get_or l p d ≡ get_or l q d
  firsts_sound p q hp hq e = sym (firsts_same p hp) ∙ ap (λ i. get_or l i d) e ∙ firsts_same q hq

  firsts_whole : (p q : ℕ) → p < length l → q < length l → get_or l p d ≡ get_or l q d → get_or (firsts E l) p zero ≡ get_or (firsts E l) q zero
  firsts_whole p q hp hq e = firsts_at p hp ∙ ap (λ x. find E x l) e ∙ sym (firsts_at q hq)

  firsts_again : (p : ℕ) → p < length l → get_or (firsts E l) (get_or (firsts E l) p zero) zero ≡ get_or (firsts E l) p zero
  firsts_again p h = firsts_whole (get_or (firsts E l) p zero) p (le_trans (suc-le-suc (firsts_le p h)) h) h (firsts_same p h)

-- ---- how many numbers below n pass a test

abbrev pub bit : Bool → ℕ
bit true = 1
bit false = 0

bit_inj : (a b : Bool) → bit a ≡ bit b → a ≡ b
bit_inj true true e = refl
bit_inj true false e = absurd (omega arith)
bit_inj false true e = absurd (omega arith)
bit_inj false false e = refl

bit_mono : (a b : Bool) → (a ≡ true → b ≡ true) → bit a ≤ bit b
bit_mono true true h = omega arith
bit_mono true false h = absurd (false≢true (h refl))
bit_mono false b h = zero-le

bit_le : (a b : Bool) → bit a ≤ bit b → a ≡ true → b ≡ true
bit_le true true h e = refl
bit_le true false h e = absurd (omega arith)
bit_le false b h e = absurd (false≢true e)

pub count : (ℕ → Bool) → ℕ → ℕ
count f zero = zero
count f (suc n) = bit (f n) + count f n

pub count_le : (f : ℕ → Bool) (n : ℕ) → count f n ≤ n
unfolding count
count_le f zero = zero-le
count_le f (suc n) = omega (arith, count_le f n, bit_mono (f n) true (λ _. refl))

pub count_mono : (f g : ℕ → Bool) (n : ℕ) → ((i : ℕ) → i < n → f i ≡ true → g i ≡ true) → count f n ≤ count g n
unfolding count
count_mono f g zero h = zero-le
count_mono f g (suc n) h = omega (arith, count_mono f g n (λ i b. h i (omega arith)), bit_mono (f n) (g n) (h n (le_refl (suc n))))

-- Where no more pass the wider test, it is the same test.
pub count_same : (f g : ℕ → Bool) (n : ℕ) → ((i : ℕ) → i < n → f i ≡ true → g i ≡ true) → count g n ≤ count f n → (i : ℕ) → i < n → g i ≡ true → f i ≡ true
unfolding count
count_same f g zero h c i b e = absurd (not-suc-le-zero b)
count_same f g (suc n) h c i b e =
    let m = count_mono f g n (λ i b. h i (omega arith)) in
    let k = bit_mono (f n) (g n) (h n (le_refl (suc n))) in
    go (lt_cases i n) (count_same f g n (λ i b. h i (omega arith)) (omega arith) i) (omega arith)
  where
    go : LtCases i n → (i < n → g i ≡ true → f i ≡ true) → bit (g n) ≤ bit (f n) → f i ≡ true
    go (inl p) f' k = f' p.0 e
    go (inr p) f' k = let q : i ≡ n = omega arith in rw q (bit_le (g n) (f n) k (rw q at e))

-- ---- rounds of refinement

abbrev pub rows_test : Test (List ℕ)
rows_test = list_test nat_test

module _ (k : ℕ) (M : Machine) where
  -- What a round sees of state p: whether a word may end there, and the classes that it leads to.
  abbrev pub signature : List ℕ → ℕ → List ℕ
  signature cls p = bit (get_or M.accepting p false) ∷ tab (λ c. get_or cls (get_or (get_or M.moves p []) c zero) zero) k

  -- A round: states are in one class where the round sees the same of them.
  unfoldable pub refine : List ℕ → List ℕ
  refine cls = firsts rows_test (tab (signature cls) (size M))

  unfoldable pub rounds : ℕ → List ℕ
  rounds zero = tab (λ _. zero) (size M)
  rounds (suc m) = refine (rounds m)

  -- Further rounds, until one changes nothing.
  unfoldable pub settle : ℕ → List ℕ → List ℕ
  settle zero cls = cls
  settle (suc n) cls = let ds = refine cls in choose (rows_test.same cls ds) (λ _. cls) (λ _. settle n ds)

  -- Of each state the least that is equivalent to it.
  unfoldable pub classes : List ℕ
  classes = settle (size M) (rounds zero)

module _ (k : ℕ) (M : Machine) (F : WellFormed k M) where
  pub signature_eq : (cls : List ℕ) (p q : ℕ) → get_or M.accepting p false ≡ get_or M.accepting q false
      → ((c : ℕ) → c < k → get_or cls ((automaton M).step p c) zero ≡ get_or cls ((automaton M).step q c) zero) → signature k M cls p ≡ signature k M cls q
  signature_eq cls p q e h = ap₂ ◌∷◌ (ap bit e) (tab_ext _ _ k h)

  pub signature_accepting : (cls : List ℕ) (p q : ℕ) → signature k M cls p ≡ signature k M cls q → get_or M.accepting p false ≡ get_or M.accepting q false
  signature_accepting cls p q e = bit_inj _ _ (ap (λ l. get_or l zero zero) e)

  pub signature_step : (cls : List ℕ) (p q : ℕ) → signature k M cls p ≡ signature k M cls q → (c : ℕ) → c < k → get_or cls ((automaton M).step p c) zero ≡ get_or cls ((automaton M).step q c) zero
  signature_step cls p q e c h = sym (get_or_tab _ k c zero h) ∙ ap (λ l. get_or l (suc c) zero) e ∙ get_or_tab _ k c zero h

  module _ (cls : List ℕ) where
    pub refine_length : length (refine k M cls) ≡ size M
    unfolding refine
    refine_length = firsts_length rows_test [] (tab (signature k M cls) (size M)) ∙ length_tab (signature k M cls) (size M)

    pub refine_le : (p : ℕ) → p < size M → get_or (refine k M cls) p zero ≤ p
    unfolding refine
    refine_le p h = firsts_le rows_test [] (tab (signature k M cls) (size M)) p (rw (length_tab (signature k M cls) (size M)) h)

    pub refine_sound : (p q : ℕ) → p < size M → q < size M → get_or (refine k M cls) p zero ≡ get_or (refine k M cls) q zero → signature k M cls p ≡ signature k M cls q
    unfolding refine
    refine_sound p q hp hq e =
        sym (get_or_tab (signature k M cls) (size M) p [] hp)
        ∙ firsts_sound rows_test [] (tab (signature k M cls) (size M)) p q (rw (length_tab (signature k M cls) (size M)) hp) (rw (length_tab (signature k M cls) (size M)) hq) e
        ∙ get_or_tab (signature k M cls) (size M) q [] hq

    pub refine_whole : (p q : ℕ) → p < size M → q < size M → signature k M cls p ≡ signature k M cls q → get_or (refine k M cls) p zero ≡ get_or (refine k M cls) q zero
    unfolding refine
    refine_whole p q hp hq e =
        firsts_whole rows_test [] (tab (signature k M cls) (size M)) p q (rw (length_tab (signature k M cls) (size M)) hp) (rw (length_tab (signature k M cls) (size M)) hq)
        (get_or_tab (signature k M cls) (size M) p [] hp ∙ e ∙ sym (get_or_tab (signature k M cls) (size M) q [] hq))

    pub refine_again : (p : ℕ) → p < size M → get_or (refine k M cls) (get_or (refine k M cls) p zero) zero ≡ get_or (refine k M cls) p zero
    unfolding refine
    refine_again p h = firsts_again rows_test [] (tab (signature k M cls) (size M)) p (rw (length_tab (signature k M cls) (size M)) h)

  -- What holds of every round.
  record Round (cls : List ℕ) : Type 0 where
    long : length cls ≡ size M
    low : (p : ℕ) → p < size M → get_or cls p zero ≤ p
    again : (p : ℕ) → p < size M → get_or cls (get_or cls p zero) zero ≡ get_or cls p zero
    whole : (p q : ℕ) → p < size M → q < size M → Equivalent k M p q → get_or cls p zero ≡ get_or cls q zero

  round : (m : ℕ) → Round (rounds k M m)
  unfolding rounds
  round zero = record {
    long = length_tab (λ _. zero) (size M);
    low = λ p h. rw (get_or_tab (λ _. zero) (size M) p zero h) zero-le;
    again = λ p h. rw (get_or_tab (λ _. zero) (size M) p zero h) (get_or_tab (λ _. zero) (size M) zero zero F.some);
    whole = λ p q hp hq a. get_or_tab (λ _. zero) (size M) p zero hp ∙ sym (get_or_tab (λ _. zero) (size M) q zero hq);
  }
  round (suc m) = let r = round m in record {
    long = refine_length (rounds k M m);
    low = refine_le (rounds k M m);
    again = refine_again (rounds k M m);
    whole = λ p q hp hq a. refine_whole (rounds k M m) p q hp hq (signature_eq (rounds k M m) p q (a [] tt)
        (λ c h. r.whole ((automaton M).step p c) ((automaton M).step q c) (F.inside p c hp h) (F.inside q c hq h) (λ w o. a (c ∷ w) (h, o))));
  }

  -- A round parts what the round before it parted.
  finer : (m p q : ℕ) → p < size M → q < size M → get_or (rounds k M (suc m)) p zero ≡ get_or (rounds k M (suc m)) q zero → get_or (rounds k M m) p zero ≡ get_or (rounds k M m) q zero
  unfolding rounds
  finer zero p q hp hq e = get_or_tab (λ _. zero) (size M) p zero hp ∙ sym (get_or_tab (λ _. zero) (size M) q zero hq)
  finer (suc m) p q hp hq e =
      let s = refine_sound (rounds k M (suc m)) p q hp hq e in
      refine_whole (rounds k M m) p q hp hq (signature_eq (rounds k M m) p q (signature_accepting (rounds k M (suc m)) p q s)
      (λ c h. finer m ((automaton M).step p c) ((automaton M).step q c) (F.inside p c hp h) (F.inside q c hq h) (signature_step (rounds k M (suc m)) p q s c h)))

  -- how many classes there are: the states that stand for their own
  self : List ℕ → ℕ → Bool
  self cls p = eqb (get_or cls p zero) p

  parts : ℕ → ℕ
  parts m = count (self (rounds k M m)) (size M)

  is : (a b : ℕ) → eqb a b ≡ true → a ≡ b
  is a b e = nat_test.sound a b e

  yes_is : (a b : ℕ) → a ≡ b → eqb a b ≡ true
  yes_is a b e = rw e (nat_test.whole b)

  -- A class's least state stays one.
  kept : (m p : ℕ) → p < size M → get_or (rounds k M m) p zero ≡ p → get_or (rounds k M (suc m)) p zero ≡ p
  kept m p h e =
      let r : ℕ = get_or (rounds k M (suc m)) p zero in
      let a : r ≤ p = (round (suc m)).low p h in
      let b : get_or (rounds k M m) r zero ≡ get_or (rounds k M m) p zero = finer m r p (omega arith) h ((round (suc m)).again p h) in
      omega (arith, (round m).low r (omega arith))

  -- A round that makes no more classes changes nothing.
  settled : (m : ℕ) → parts (suc m) ≤ parts m → rounds k M (suc m) ≡ rounds k M m
  unfolding parts self
  settled m h = ext_get_or zero (rounds k M (suc m)) (rounds k M m) ((round (suc m)).long ∙ sym (round m).long) λ p b. at p (rw (round (suc m)).long at b)
    where
      at : (p : ℕ) → p < size M → get_or (rounds k M (suc m)) p zero ≡ get_or (rounds k M m) p zero
      at p b =
          let r : ℕ = get_or (rounds k M (suc m)) p zero in
          let l : r < size M = le_trans (suc-le-suc ((round (suc m)).low p b)) b in
          let e : get_or (rounds k M m) r zero ≡ get_or (rounds k M m) p zero = finer m r p l b ((round (suc m)).again p b) in
          sym (is (get_or (rounds k M m) r zero) r
          (count_same (self (rounds k M m)) (self (rounds k M (suc m))) (size M)
          (λ i v x. yes_is _ _ (kept m i v (is _ _ x))) h r l (yes_is _ _ ((round (suc m)).again p b)))) ∙ e

  parts_le : (m : ℕ) → parts m ≤ size M
  unfolding parts
  parts_le m = count_le (self (rounds k M m)) (size M)

  progress : (m : ℕ) → ((j : ℕ) × (j < m) × (rounds k M (suc j) ≡ rounds k M j)) ⊎ (m ≤ parts m)
  progress zero = inr zero-le
  progress (suc m) = go (progress m) (lt_cases (parts m) (parts (suc m)))
    where
      go : ((j : ℕ) × (j < m) × (rounds k M (suc j) ≡ rounds k M j)) ⊎ (m ≤ parts m)
          → LtCases (parts m) (parts (suc m))
          → ((j : ℕ) × (j < suc m) × (rounds k M (suc j) ≡ rounds k M j)) ⊎ (suc m ≤ parts (suc m))
      go (inl (j, b, e)) c = inl (j, omega arith, e)
      go (inr b) (inl c) = inr (omega arith)
      go (inr b) (inr c) = inl (m, le_refl (suc m), settled m c.0)

  pub later : (j i : ℕ) → j ≤ i → rounds k M (suc j) ≡ rounds k M j → rounds k M (suc i) ≡ rounds k M i
  unfolding rounds
  later j zero h e = let z : j ≡ zero = omega arith in rw z at e
  later j (suc i) h e = go (lt_cases i j) (later j i)
    where
      go : LtCases i j → (j ≤ i → rounds k M (suc j) ≡ rounds k M j → rounds k M (suc i) ≡ rounds k M i)
          → refine k M (rounds k M (suc i)) ≡ rounds k M (suc i)
      go (inl p) f = let z : j ≡ suc i = omega arith in rw z at e
      go (inr p) f = ap (refine k M) (f p.0 e)

  -- A round that changes nothing is the last that does.
  last_round : (m n : ℕ) → rounds k M (suc m) ≡ rounds k M m → rounds k M (n + m) ≡ rounds k M m
  last_round m zero e = let z : 0 + m ≡ m = omega arith in ap (rounds k M) z
  last_round m (suc n) e =
      let z : suc n + m ≡ suc (n + m) = omega arith in
      ap (rounds k M) z ∙ later m (n + m) (omega arith) e ∙ last_round m n e

  settle_rounds : (n m : ℕ) → settle k M n (rounds k M m) ≡ rounds k M (n + m)
  unfolding settle rounds
  settle_rounds zero m = let z : m ≡ 0 + m = omega arith in ap (rounds k M) z
  settle_rounds (suc n) m = go (rows_test.same (rounds k M m) (rounds k M (suc m))) refl (settle_rounds n (suc m))
    where
      go : (b : Bool) → rows_test.same (rounds k M m) (rounds k M (suc m)) ≡ b → settle k M n (rounds k M (suc m)) ≡ rounds k M (n + suc m)
          → choose b (λ _. rounds k M m) (λ _. settle k M n (rounds k M (suc m))) ≡ rounds k M (suc n + m)
      go true e f = sym (last_round m (suc n) (sym (rows_test.sound (rounds k M m) (rounds k M (suc m)) e)))
      go false e f = let z : n + suc m ≡ suc n + m = omega arith in f ∙ ap (rounds k M) z

  pub classes_rounds : classes k M ≡ rounds k M (size M)
  unfolding classes
  classes_rounds = let z : size M + 0 ≡ size M = omega arith in settle_rounds (size M) zero ∙ ap (rounds k M) z

  -- As many rounds as there are states settle the classes.
  pub classes_fixed : refine k M (classes k M) ≡ classes k M
  unfolding rounds
  classes_fixed = rw classes_rounds (go (progress (suc (size M))))
    where
      go : ((j : ℕ) × (j < suc (size M)) × (rounds k M (suc j) ≡ rounds k M j)) ⊎ (suc (size M) ≤ parts (suc (size M))) → rounds k M (suc (size M)) ≡ rounds k M (size M)
      go (inl (j, b, e)) = later j (size M) (le_of_suc-le-suc b) e
      go (inr b) = absurd (omega (arith, parts_le (suc (size M))))

  -- THE CLASSES decide which states are equivalent.
  pub classes_sound : (p q : ℕ) → p < size M → q < size M → get_or (classes k M) p zero ≡ get_or (classes k M) q zero → Equivalent k M p q
  classes_sound p q hp hq e [] o = signature_accepting (classes k M) p q (refine_sound (classes k M) p q hp hq (rw classes_fixed e))
  classes_sound p q hp hq e (c ∷ w) o =
      classes_sound ((automaton M).step p c) ((automaton M).step q c) (F.inside p c hp o.0) (F.inside q c hq o.0)
      (signature_step (classes k M) p q (refine_sound (classes k M) p q hp hq (rw classes_fixed e)) c o.0) w o.1

  pub classes_whole : (p q : ℕ) → p < size M → q < size M → Equivalent k M p q → get_or (classes k M) p zero ≡ get_or (classes k M) q zero
  classes_whole p q hp hq a = rw classes_rounds ((round (size M)).whole p q hp hq a)

  pub classes_low : (p : ℕ) → p < size M → get_or (classes k M) p zero ≤ p
  classes_low p h = rw classes_rounds ((round (size M)).low p h)

  pub classes_again : (p : ℕ) → p < size M → get_or (classes k M) (get_or (classes k M) p zero) zero ≡ get_or (classes k M) p zero
  classes_again p h = rw classes_rounds ((round (size M)).again p h)

  pub classes_length : length (classes k M) ≡ size M
  classes_length = rw classes_rounds (round (size M)).long

  -- A state's class is the least state equivalent to it.
  pub classes_least : (p q : ℕ) → p < size M → q < size M → Equivalent k M q p → get_or (classes k M) p zero ≤ q
  classes_least p q hp hq a = omega (arith, classes_whole q p hq hp a, classes_low q hq)

  pub classes_equivalent : (p : ℕ) → p < size M → Equivalent k M (get_or (classes k M) p zero) p
  classes_equivalent p h = classes_sound (get_or (classes k M) p zero) p (le_trans (suc-le-suc (classes_low p h)) h) h (classes_again p h)

  pub equivalent_dec : (p q : ℕ) → p < size M → q < size M → Dec (Equivalent k M p q)
  equivalent_dec p q hp hq = go (same_cases nat_test (get_or (classes k M) p zero) (get_or (classes k M) q zero))
    where
      go : SameCases nat_test (get_or (classes k M) p zero) (get_or (classes k M) q zero) → Dec (Equivalent k M p q)
      go (inl x) = yes (classes_sound p q hp hq x.0)
      go (inr x) = no (λ a. x.0 (classes_whole p q hp hq a))
