-- Laws of the rounds of partition refinement: a whole round, and that a round which parts no class leaves the classes of equivalent states.
use mathlib.Core.Path.{◌≡◌, refl, sym, ap, ◌∙◌}
use mathlib.Core.Bool.{Bool, true, false, beq, cond, true≢false, false≢true}
use Rattle.std.specs.Prelude.{Option, Some, None}
use Rattle.std.specs.Cmp.{booleans_Decides}
use Rattle.std.proofs.lemmas.Bool.Decides.{not_from_Decides}
use mathlib.Core.Logic.{◌⊎◌, inl, inr, ◌≢◌}
use mathlib.Core.List.{List, [], ◌∷◌}
use Prim.Native.Nat.{ℕ, zero, suc, ◌+◌, ◌≤◌, ◌<◌, zero-le}
use native.Mathlib.Nat.{le_refl, not-suc-le-zero}
use native.Mathlib.Omega.{arith}
use lib.ListN.{length, get_or}
use lib.Seq.{ext_get_or}
use lib.Dec.{eqb}
use Rattle.automata.specs.Booleans.{bool_cases}
use Rattle.automata.specs.Basics.{LtCases, SameCases, lt_cases, same_cases, nat_test}
use Rattle.automata.specs.Machine.{Machine, size, automaton, WellFormed}
use Rattle.automata.specs.Partition.{classes, classes_whole, classes_low, classes_length, classes_equivalent}
use Rattle.automata.specs.Refinement.{SameSignature, Coarse, Settled, settled_equivalent}
use Rattle.entries.specs.declared.table.Table.{Table}
use Rattle.entries.specs.Entries.{class_of, flag_at, machine_of}
use Rattle.entries.specs.Classes.{Led, leaders, Refining}
use Rattle.leaders.specs.Round.{Placed, Partial}
use Rattle.classes.specs.Refine.{FirstOther, side_of, Parted, Turned, Begun, Rounded}
use Rattle.entries.proofs.EntryLaws.{machine_size, machine_accepting, machine_formed}
use Rattle.leaders.proofs.RoundLaws.{together_sym, together_trans}

-- ---- a whole round

pub round_starts : {T : Table} {cls next links : List ℕ} → Begun T cls next links → Partial T.columns T.states (machine_of T) cls next links 0
round_starts B = record {
  led = B.led;
  placed = record {
    low = λ p h. absurd (not-suc-le-zero h);
    again = λ p h. absurd (not-suc-le-zero h);
    sound = λ p h. absurd (not-suc-le-zero h);
    whole = λ p q h. absurd (not-suc-le-zero h);
  };
  linked = record { head = λ p h. absurd (not-suc-le-zero h); inner = λ p h. absurd (not-suc-le-zero h) };
}

-- ---- how many lead

pub leaders_le : (g : ℕ → ℕ) (m : ℕ) → leaders g m ≤ m
unfolding leaders
leaders_le g zero = zero-le
leaders_le g (suc m) = go (bool_cases (eqb (g m) m)) (leaders_le g m)
  where
    go : (eqb (g m) m ≡ true) ⊎ (eqb (g m) m ≡ false) → leaders g m ≤ m → leaders g (suc m) ≤ suc m
    go (inl e) h = rw (leaders, e) (omega arith)
    go (inr e) h = rw (leaders, e) (omega arith)

-- the cases of the last state
data Last (g : ℕ → ℕ) (m : ℕ) : Type 0 where
  leads : g m ≡ m → leaders g (suc m) ≡ suc (leaders g m) → Last g m
  joins : (g m ≢ m) → leaders g (suc m) ≡ leaders g m → Last g m

last : (g : ℕ → ℕ) (m : ℕ) → Last g m
unfolding leaders
last g m = go (same_cases nat_test (g m) m)
  where
    go : SameCases nat_test (g m) m → Last g m
    go (inl e) = leads e.0 (rw (leaders, e.1))
    go (inr e) = joins e.0 (rw (leaders, e.1))

module _ (f g : ℕ → ℕ) where
  pub leaders_mono : (m : ℕ) → ((p : ℕ) → p < m → f p ≡ p → g p ≡ p) → leaders f m ≤ leaders g m
  unfolding leaders
  leaders_mono zero h = zero-le
  leaders_mono (suc m) h = go (last f m) (last g m) (leaders_mono m (λ p b. h p (omega arith)))
    where
      go : Last f m → Last g m → leaders f m ≤ leaders g m → leaders f (suc m) ≤ leaders g (suc m)
      go (leads a i) (leads b j) r = omega (arith, i, j)
      go (leads a i) (joins b j) r = absurd (b (h m (le_refl (suc m)) a))
      go (joins a i) (leads b j) r = omega (arith, i, j)
      go (joins a i) (joins b j) r = omega (arith, i, j)

  -- Where no more lead, the same lead.
  pub leaders_settle : (m : ℕ) → ((p : ℕ) → p < m → f p ≡ p → g p ≡ p) → leaders g m ≤ leaders f m → (p : ℕ) → p < m → g p ≡ p → f p ≡ p
  leaders_settle zero h c p b e = absurd (not-suc-le-zero b)
  leaders_settle (suc m) h c p b e = go (last f m) (last g m) (leaders_mono m (λ q v. h q (omega arith))) (leaders_settle m (λ q v. h q (omega arith))) (lt_cases p m)
    where
      go : Last f m → Last g m → leaders f m ≤ leaders g m → (leaders g m ≤ leaders f m → (p : ℕ) → p < m → g p ≡ p → f p ≡ p) → LtCases p m → f p ≡ p
      go (leads a i) (leads v j) r s (inl x) = s (omega (arith, i, j)) p x.0 e
      go (leads a i) (leads v j) r s (inr x) = let z : p ≡ m = omega arith in rw z a
      go (leads a i) (joins v j) r s x = absurd (v (h m (le_refl (suc m)) a))
      go (joins a i) (leads v j) r s x = absurd (omega (arith, i, j))
      go (joins a i) (joins v j) r s (inl x) = s (omega (arith, i, j)) p x.0 e
      go (joins a i) (joins v j) r s (inr x) = let z : p ≡ m = omega arith in absurd (v (rw z at e))

-- ---- rounds

module _ (k n : ℕ) (M : Machine) (F : WellFormed k M) (sz : size M ≡ n) (f g : ℕ → ℕ) (D : Led n f) (P : Placed k M f g n) where
  low : (p : ℕ) → p < n → g p < n
  low p h = omega (arith, P.low p h)

  -- who led still leads
  pub still : (p : ℕ) → p < n → f p ≡ p → g p ≡ p
  still p h e = omega (arith, P.low p h, D.low (g p) (low p h), (P.sound p h).class, e)

  pub rounds_grow : leaders f n ≤ leaders g n
  rounds_grow = leaders_mono f g n still

  pub round_coarse : Coarse k M f → Coarse k M g
  round_coarse c p q hp hq a = P.whole p q (rw sz at hp) (rw sz at hq) (record {
    class = c p q hp hq a;
    signature = record {
      accepting = a [] tt;
      step = λ x b. c ((automaton M).step p x) ((automaton M).step q x) (F.inside p x hp b) (F.inside q x hq b) (λ w o. a (x ∷ w) (b, o));
    };
  })

  -- Where no more lead after the round, it parts no class.
  pub round_settled : leaders g n ≤ leaders f n → Settled k M f
  round_settled c p q hp hq e = part (rw sz at hp) (rw sz at hq)
    where
      old : (p : ℕ) → p < n → g p ≡ f p
      old p h = sym (leaders_settle f g n still c (g p) (low p h) (P.again p h)) ∙ (P.sound p h).class

      part : p < n → q < n → SameSignature k M f p q
      part h b =
          let i : g q ≡ g p = old q b ∙ sym e ∙ sym (old p h) in
          (together_trans k M f p (g p) q (together_sym k M f (g p) p (P.sound p h)) (rw i at (P.sound q b))).signature

-- Classes that go by their first states, keep equivalent states together and are parted by no round are the classes of equivalent states.
pub classes_found : (k n : ℕ) (M : Machine) → WellFormed k M → size M ≡ n → (cls : List ℕ) → length cls ≡ n → Led n (class_of cls)
    → Coarse k M (class_of cls) → Settled k M (class_of cls) → cls ≡ classes k M
classes_found k n M F sz cls len D c s = ext_get_or zero cls (classes k M) (len ∙ sym sz ∙ sym (classes_length k M F)) λ p b. at p (rw len at b)
  where
    at : (p : ℕ) → p < n → get_or cls p zero ≡ get_or (classes k M) p zero
    at p h =
        let hs : p < size M = rw sz h in
        let x : ℕ = get_or (classes k M) p zero in
        let xl : x ≤ p = classes_low k M F p hs in
        let xn : x < n = omega arith in
        let y : ℕ = get_or cls p zero in
        let yl : y ≤ p = D.low p h in
        let ys : y < size M = rw sz (omega arith) in
        let e₁ : get_or cls x zero ≡ y = c x p (rw sz xn) hs (classes_equivalent k M F p hs) in
        let e₂ : get_or (classes k M) y zero ≡ x = classes_whole k M F y p ys hs (settled_equivalent k M F (class_of cls) s y p ys hs (D.again p h)) in
        omega (arith, D.low x xn, classes_low k M F y ys)

-- ---- classes by acceptance

-- whether a state answers as state 0 does
module _ (T : Table) where
  abbrev same : ℕ → Type 0
  same p = flag_at T.cells.now p ≡ flag_at T.cells.now 0

  same_or_not : (p : ℕ) → same p ⊎ (same p → ⊥)
  same_or_not p = go (bool_cases (beq (flag_at T.cells.now p) (flag_at T.cells.now 0)))
    where
      go : (beq (flag_at T.cells.now p) (flag_at T.cells.now 0) ≡ true) ⊎ (beq (flag_at T.cells.now p) (flag_at T.cells.now 0) ≡ false) → same p ⊎ (same p → ⊥)
      go (inl e) = inl ((booleans_Decides _ _).0 e)
      go (inr e) = inr (not_from_Decides _ (booleans_Decides _ _) e)

  pub side_same : (other : Option ℕ) (p : ℕ) → same p → side_of T other p ≡ 0
  unfolding side_of
  side_same (Some r) p e = rw ((booleans_Decides (flag_at T.cells.now p) (flag_at T.cells.now 0)).1 e)
  side_same None p e = refl

  pub side_none : (p : ℕ) → side_of T None p ≡ 0
  unfolding side_of
  side_none p = refl

  pub side_other : (r p : ℕ) → (same p → ⊥) → side_of T (Some r) p ≡ r
  unfolding side_of
  side_other r p d = go (bool_cases (beq (flag_at T.cells.now p) (flag_at T.cells.now 0)))
    where
      go : (beq (flag_at T.cells.now p) (flag_at T.cells.now 0) ≡ true) ⊎ (beq (flag_at T.cells.now p) (flag_at T.cells.now 0) ≡ false) → side_of T (Some r) p ≡ r
      go (inl e) = absurd (d ((booleans_Decides _ _).0 e))
      go (inr e) = rw e

  pub side_low : (other : Option ℕ) → FirstOther T other → (p : ℕ) → p < T.states → side_of T other p ≤ p
  side_low None F p h = rw (side_same None p (F p h)) zero-le
  side_low (Some r) F p h = go (same_or_not p)
    where
      go : same p ⊎ (same p → ⊥) → side_of T (Some r) p ≤ p
      go (inl e) = rw (side_same (Some r) p e) zero-le
      go (inr d) = rw (side_other r p d) (at (lt_cases p r))
        where
          at : LtCases p r → r ≤ p
          at (inl x) = absurd (d (F.1 p x.0))
          at (inr x) = x.0

  pub side_again : (other : Option ℕ) → FirstOther T other → (p : ℕ) → p < T.states → side_of T other (side_of T other p) ≡ side_of T other p
  side_again None F p h = let z = side_same None p (F p h) in rw z (side_same None 0 refl)
  side_again (Some r) F p h = go (same_or_not p)
    where
      go : same p ⊎ (same p → ⊥) → side_of T (Some r) (side_of T (Some r) p) ≡ side_of T (Some r) p
      go (inl e) = rw (side_same (Some r) p e) (side_same (Some r) 0 refl)
      go (inr d) = rw (side_other r p d) (side_other r r F.2)

  -- states of one class answer alike: other than state 0 are only the one answer
  pub side_told : (other : Option ℕ) → FirstOther T other → (p q : ℕ) → p < T.states → q < T.states → side_of T other p ≡ side_of T other q → flag_at T.cells.now p ≡ flag_at T.cells.now q
  side_told None F p q h b e = F p h ∙ sym (F q b)
  side_told (Some r) F p q h b e = go (same_or_not p) (same_or_not q)
    where
      -- the first other state is not state 0
      apart : (a c : ℕ) → (same a → ⊥) → same c → side_of T (Some r) a ≡ side_of T (Some r) c → ⊥
      apart a c d i j = let z : r ≡ 0 = sym (side_other r a d) ∙ j ∙ side_same (Some r) c i in F.2 (ap (flag_at T.cells.now) z)

      bits : (a c d : Bool) → a ≢ d → c ≢ d → a ≡ c
      bits true true d u v = refl
      bits false false d u v = refl
      bits true false true u v = absurd (u refl)
      bits true false false u v = absurd (v refl)
      bits false true true u v = absurd (v refl)
      bits false true false u v = absurd (u refl)

      go : same p ⊎ (same p → ⊥) → same q ⊎ (same q → ⊥) → flag_at T.cells.now p ≡ flag_at T.cells.now q
      go (inl x) (inl y) = x ∙ sym y
      go (inl x) (inr y) = absurd (apart q p y x (sym e))
      go (inr x) (inl y) = absurd (apart p q x y e)
      go (inr x) (inr y) = bits (flag_at T.cells.now p) (flag_at T.cells.now q) (flag_at T.cells.now 0) x y

-- ---- the rounds over a table

-- the states are parted by acceptance
pub refine_starts : (T : Table) (v : List ℕ) → Parted T v → Refining T v 0
unfolding side_of
refine_starts T v P = record {
  led = record { low = λ p b. rw (P.class p b) (side_low T P.other P.first p b); again = again };
  coarse = λ p q hp hq a. P.class p (inside p hp) ∙ side_alike P.other p q (flags p q (inside p hp) (inside q hq) (a [] tt)) ∙ sym (P.class q (inside q hq));
  told = λ p q h b e. accepts p q h b (side_told T P.other P.first p q h b (sym (P.class p h) ∙ e ∙ P.class q b));
  counted = zero-le;
}
  where
    side_alike : (other : Option ℕ) (p q : ℕ) → flag_at T.cells.now p ≡ flag_at T.cells.now q → side_of T other p ≡ side_of T other q
    side_alike (Some r) p q e = ap (λ (x : Bool). cond (beq x (flag_at T.cells.now 0)) 0 r) e
    side_alike None p q e = refl

    inside : (p : ℕ) → p < size (machine_of T) → p < T.states
    inside p b = rw (machine_size T) at b

    again : (p : ℕ) → p < T.states → class_of v (class_of v p) ≡ class_of v p
    again p b = ap (class_of v) (P.class p b) ∙ P.class (side_of T P.other p) (omega (arith, side_low T P.other P.first p b)) ∙ side_again T P.other P.first p b ∙ sym (P.class p b)

    accepts : (p q : ℕ) → p < T.states → q < T.states → flag_at T.cells.now p ≡ flag_at T.cells.now q → (automaton (machine_of T)).accepting p ≡ (automaton (machine_of T)).accepting q
    accepts p q h b e = machine_accepting T p h ∙ e ∙ sym (machine_accepting T q b)

    flags : (p q : ℕ) → p < T.states → q < T.states → (automaton (machine_of T)).accepting p ≡ (automaton (machine_of T)).accepting q → flag_at T.cells.now p ≡ flag_at T.cells.now q
    flags p q h b e = sym (machine_accepting T p h) ∙ e ∙ machine_accepting T q b

module _ (T : Table) (v v' : List ℕ) (c r : ℕ) (R : Refining T v c) (Q : Rounded T v v' r) where
  -- a round that parts no class
  pub refine_ends : length v ≡ T.states → r ≡ c → v ≡ classes T.columns (machine_of T)
  refine_ends e i = classes_found T.columns T.states (machine_of T) (machine_formed T) (machine_size T) v e R.led R.coarse
      (round_settled T.columns T.states (machine_of T) (machine_formed T) (machine_size T) (class_of v) (class_of v') R.led Q.placed (omega (arith, R.counted, Q.count)))

  -- a round that parts one
  pub refine_grows : r ≢ c → c < r
  refine_grows i = omega (
    arith,
    R.counted,
    Q.count,
    leaders_le (class_of v') T.states,
    rounds_grow T.columns T.states (machine_of T) (machine_formed T) (machine_size T) (class_of v) (class_of v') R.led Q.placed,
  )

  pub refine_turns : Refining T v' r
  refine_turns = record {
    led = record { low = Q.placed.low; again = Q.placed.again };
    coarse = round_coarse T.columns T.states (machine_of T) (machine_formed T) (machine_size T) (class_of v) (class_of v') R.led Q.placed R.coarse;
    told = λ p q x y z. sym (Q.placed.sound p x).signature.accepting ∙ ap (automaton (machine_of T)).accepting z ∙ (Q.placed.sound q y).signature.accepting;
    counted = omega (arith, Q.count);
  }

-- some rounds
pub turned_done : (T : Table) (v : List ℕ) (most : ℕ) → v ≡ classes T.columns (machine_of T) → Turned T v most true
turned_done T v most e = record { done = λ _. e; way = λ z. absurd (true≢false z) }

pub turned_way : (T : Table) (v : List ℕ) (c : ℕ) {most : ℕ} → Refining T v c → most ≤ T.states → Turned T v most false
turned_way T v c R h = record {
  done = λ z. absurd (false≢true z);
  way = λ _. (record { led = R.led; coarse = R.coarse; told = R.told; counted = zero-le }, h);
}

-- no more classes than states
pub refine_many : (T : Table) (v : List ℕ) (c : ℕ) → Refining T v c → c ≤ T.states
refine_many T v c R = omega (arith, R.counted, leaders_le (class_of v) T.states)
