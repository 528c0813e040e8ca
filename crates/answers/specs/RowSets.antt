-- The row automata stand for the automata of the stages: a row of bytes for each set that is reached, for machines of any size. So a stage's answer
-- is what was found of the rows.
use Rattle.std.specs.Prelude.{◌≡◌, refl, Bool, false, ◌&&◌, ◌||◌, ◌⊎◌, ◌↔◌, List, length, get_or}
use Rattle.std.proofs.Math.Path.{sym, ap, ap₂}
use Rattle.std.proofs.Common.{◌∙◌, subst, inl, inr, div-add-mod', le_refl, ext_get_or}
use Rattle.std.proofs.Math.Bool.{true}
use Rattle.std.proofs.lemmas.Bool.{false≢true}
use Prim.Native.Nat.{ℕ, zero, suc, ◌+◌, ◌*◌, ◌/◌, ◌%◌, ◌-◌, ◌<◌}
use native.Mathlib.Omega.{arith}
use Rattle.std.proofs.Math.Dec.{eqb}
use Rattle.automata.specs.Booleans.{bool_iff, and_left, and_right, and_both}
use Rattle.automata.specs.Basics.{LtCases, lt_cases, ltb_false, SameCases, same_cases, nat_test, tab_ext, get_or_tab}
use Rattle.automata.specs.Decide.{any_below, any_below_lem, below_any}
use Rattle.automata.specs.Automaton.{Automaton}
use Rattle.automata.specs.Machine.{Machine, size, automaton, WellFormed}
use Rattle.automata.specs.Table.{flag_of}
use Rattle.automata.specs.Flags.{flags_test, some_flag, some_sound, some_whole}
use Rattle.automata.specs.Subset.{epsilons, subset}
use Rattle.automata.proofs.Subset.{step_long, start_long}
use Rattle.automata.specs.Operations.{product, pair_test, concat_NFA, star_NFA, erase_NFA}
use Rattle.automata.proofs.Operations.{concat_inside, star_inside, erase_inside}
use Rattle.automata.specs.Members.{In}
use Rattle.automata.proofs.Members.{concat_start_left, concat_start_right, concat_step_left, concat_step_right, star_start, star_step, erase_start, erase_step, erase_mark}
use Rattle.automata.specs.Orbit.{met_early}
use Rattle.automata.specs.Format.{Format}
use Rattle.automata.specs.Stage.{Made, StageResult}
use Rattle.automata.specs.Stages.{Pairing, combine, pair_stage, concat_stage, star_stage, erase_stage}
use Rattle.automata.specs.Correspondence.{StandsFor}
use Rattle.automata.proofs.Correspondence.{stage_by}
use Rattle.rows.specs.Rows.{bit, flag_at, number_at, number_bytes, pair_row}
use Rattle.flags.specs.Flags.{flag_row, leads_to, some_accepting}
use Rattle.slots.specs.Slot.{flag_bit_lem}
use Rattle.sets.specs.Operations.{pair_rows, concat_row, concat_rows, ends, star_row, star_rows, marks, gained, erase_row, erase_rows}

-- ---- Booleans

or_cases : (a b : Bool) → a || b ≡ true → (a ≡ true) ⊎ (b ≡ true)
or_cases true b e = inl refl
or_cases false b e = inr e

or_left : (a b : Bool) → a ≡ true → a || b ≡ true
or_left true b e = refl
or_left false b e = absurd (false≢true e)

or_right : (a b : Bool) → b ≡ true → a || b ≡ true
or_right true b e = refl
or_right false b e = e

bit_one : (a b : Bool) → bit a ≡ bit b → a ≡ b
bit_one true true e = refl
bit_one true false e = absurd (omega arith)
bit_one false true e = absurd (omega arith)
bit_one false false e = refl

-- ---- numbers and flags in rows

two_bytes : (p : ℕ) → p % 256 + 256 * (p / 256) ≡ p
two_bytes p = omega (arith, div-add-mod' p 256)

flag_at_lem : (f : ℕ → Bool) (n t : ℕ) → t < n → flag_at (flag_row f n) t ≡ f t
flag_at_lem f n t h = ap flag_of (get_or_tab (λ t. bit (f t)) n t 0 h) ∙ flag_bit_lem (f t)

-- the flags of a set, from place b on
abbrev set_row : ℕ → ℕ → List Bool → List ℕ
set_row b n X = flag_row (λ t. get_or X (b + t) false) n

flag_row_same : (f g : ℕ → Bool) (n : ℕ) → ((t : ℕ) → t < n → f t ≡ g t) → flag_row f n ≡ flag_row g n
flag_row_same f g n h = tab_ext (λ t. bit (f t)) (λ t. bit (g t)) n (λ t b. ap bit (h t b))

-- ---- members

leads_iff : (member : ℕ → Bool) (next : ℕ → ℕ) (n t : ℕ) → (leads_to member next n t ≡ true) ↔ ((q : ℕ) × (q < n) × (member q ≡ true) × (next q ≡ t))
leads_iff member next n t = (
  λ e. let (q, b, f) = any_below_lem (λ q. member q && eqb (next q) t) n e in (q, b, and_left (member q) (eqb (next q) t) f, nat_test.sound (next q) t (and_right (member q) (eqb (next q) t) f)),
  λ (q, b, m, e). below_any (λ q. member q && eqb (next q) t) n q b (and_both (member q) (eqb (next q) t) m (rw e (nat_test.whole t))),
)

some_iff : (member accepting : ℕ → Bool) (n : ℕ) → (some_accepting member accepting n ≡ true) ↔ ((q : ℕ) × (q < n) × (member q ≡ true) × (accepting q ≡ true))
some_iff member accepting n = (
  λ e. let (q, b, f) = any_below_lem (λ q. member q && accepting q) n e in (q, b, and_left (member q) (accepting q) f, and_right (member q) (accepting q) f),
  λ (q, b, m, e). below_any (λ q. member q && accepting q) n q b (and_both (member q) (accepting q) m e),
)

-- ---- `|`, `&`, `-`

-- the row has the pair's two numbers
abbrev pub PairRep : List ℕ → ℕ × ℕ → Type 0
PairRep r s = r ≡ pair_row s.0 s.1

pair_numbers : (r : List ℕ) (s : ℕ × ℕ) → PairRep r s → (number_at r 0 ≡ s.0) × (number_at r 2 ≡ s.1)
pair_numbers r s e = (ap (λ r. number_at r 0) e ∙ two_bytes s.0, ap (λ r. number_at r 2) e ∙ two_bytes s.1)

module _ (k : ℕ) (o : Pairing) (M N : Machine) where
  pub pair_stands : StandsFor k (pair_rows o (automaton M) (automaton N)) (product (combine o) M N) PairRep
  unfolding pair_rows
  pair_stands = record {
    starts = refl;
    steps = λ r s c v e. let (p, q) = pair_numbers r s e in ap₂ (λ p q. pair_row ((automaton M).step p c) ((automaton N).step q c)) p q;
    answers = λ r s e. let (p, q) = pair_numbers r s e in ap₂ (λ p q. combine o ((automaton M).accepting p) ((automaton N).accepting q)) p q;
    one = λ r r' s s' e e' q.
        let (a, b) = pair_numbers r s e in
        let (a', b') = pair_numbers r' s' e' in
        λ i. ((sym a ∙ ap (λ r. number_at r 0) q ∙ a') i, (sym b ∙ ap (λ r. number_at r 2) q ∙ b') i);
    back = λ r r' s s' e e' q. e ∙ ap (λ s. pair_row s.0 s.1) q ∙ sym e';
  }

  -- THE PAIRS: what is found of the rows is the stage's answer.
  pub pair_stage_by : (fmt : Format) (r : Made) → StageResult fmt k (pair_rows o (automaton M) (automaton N)) r → pair_stage fmt k o M N ≡ r
  unfolding pair_stage
  pair_stage_by fmt r s = stage_by k (pair_rows o (automaton M) (automaton N)) (product (combine o) M N) PairRep pair_stands pair_test fmt r s

-- ---- sets as flags

-- the row has the set's n flags
pub record FlagsRep (n : ℕ) (r : List ℕ) (X : List Bool) : Type 0 where
  pub long : length X ≡ n
  pub row : r ≡ set_row 0 n X

flags_member : (n : ℕ) (r : List ℕ) (X : List Bool) → FlagsRep n r X → (t : ℕ) → t < n → flag_at r t ≡ get_or X t false
flags_member n r X e t h = let z : 0 + t ≡ t = omega arith in ap (λ r. flag_at r t) e.row ∙ flag_at_lem (λ t. get_or X (0 + t) false) n t h ∙ ap (λ t. get_or X t false) z

-- A row of flags that say what is in X.
flags_rep : (n : ℕ) (f : ℕ → Bool) (X : List Bool) → length X ≡ n → ((t : ℕ) → t < n → (f t ≡ true) ↔ In X t) → FlagsRep n (flag_row f n) X
flags_rep n f X l h = record { long = l; row = flag_row_same f (λ t. get_or X (0 + t) false) n (λ t b. let z : t ≡ 0 + t = omega arith in bool_iff (f t) (get_or X t false) (h t b).0 (h t b).1 ∙ ap (λ t. get_or X t false) z) }

flags_one : (n : ℕ) (r r' : List ℕ) (X X' : List Bool) → FlagsRep n r X → FlagsRep n r' X' → r ≡ r' → X ≡ X'
flags_one n r r' X X' e e' q = ext_get_or false X X' (e.long ∙ sym e'.long)
    (λ t b. let h : t < n = rw e.long at b in sym (flags_member n r X e t h) ∙ ap (λ r. flag_at r t) q ∙ flags_member n r' X' e' t h)

flags_back : (n : ℕ) (r r' : List ℕ) (X X' : List Bool) → FlagsRep n r X → FlagsRep n r' X' → X ≡ X' → r ≡ r'
flags_back n r r' X X' e e' q = e.row ∙ ap (set_row 0 n) q ∙ sym e'.row

-- ---- star

module _ (k : ℕ) (M : Machine) (F : WellFormed k M) where
  abbrev A : Automaton ℕ
  A = automaton M

  abbrev n : ℕ
  n = size M

  ends_iff : (t : ℕ) → (ends n t ≡ true) ↔ ((t ≡ n) ⊎ (t ≡ zero))
  ends_iff t = (λ e. to (or_cases (eqb t 0) (eqb t n) e), from)
    where
      to : (eqb t 0 ≡ true) ⊎ (eqb t n ≡ true) → (t ≡ n) ⊎ (t ≡ zero)
      to (inl e) = inr (nat_test.sound t 0 e)
      to (inr e) = inl (nat_test.sound t n e)

      from : (t ≡ n) ⊎ (t ≡ zero) → ends n t ≡ true
      from (inl e) = or_right (eqb t 0) (eqb t n) (rw e (nat_test.whole n))
      from (inr e) = or_left (eqb t 0) (eqb t n) (rw e (nat_test.whole 0))

  star_row_step : (r : List ℕ) (X : List Bool) (c : ℕ) → c < k → FlagsRep (suc n) r X → FlagsRep (suc n) (star_row n A (leads_to (flag_at r) (λ q. A.step q c) n)) ((subset (star_NFA M)).step X c)
  star_row_step r X c v e = flags_rep (suc n) (λ t. member t || (some_accepting member A.accepting n && ends n t)) ((subset (star_NFA M)).step X c) (step_long (star_NFA M) (star_inside k M F) X c) (λ t h. (to t, from t))
    where
      member : ℕ → Bool
      member = leads_to (flag_at r) (λ q. A.step q c) n

      in_row : (x : ℕ) → x < n → flag_at r x ≡ get_or X x false
      in_row x h = flags_member (suc n) r X e x (omega arith)

      moved : (t : ℕ) → member t ≡ true → (x : ℕ) × (x < n) × In X x × (A.step x c ≡ t)
      moved t q =
          let (x, b, m, s) = (leads_iff (flag_at r) (λ q. A.step q c) n t).0 q in
          (x, b, sym (in_row x b) ∙ m, s)

      to : (t : ℕ) → member t || (some_accepting member A.accepting n && ends n t) ≡ true → In ((subset (star_NFA M)).step X c) t
      to t q = go (or_cases (member t) (some_accepting member A.accepting n && ends n t) q)
        where
          go : (member t ≡ true) ⊎ (some_accepting member A.accepting n && ends n t ≡ true) → In ((subset (star_NFA M)).step X c) t
          go (inl m) = (star_step k M F X c v t).1 (inl (moved t m))
          go (inr m) =
              let (y, b, my, a) = (some_iff member A.accepting n).0 (and_left (some_accepting member A.accepting n) (ends n t) m) in
              let (x, bx, ix, s) = moved y my in
              (star_step k M F X c v t).1 (inr ((ends_iff t).0 (and_right (some_accepting member A.accepting n) (ends n t) m), (x, bx, ix, rw s a)))

      from : (t : ℕ) → In ((subset (star_NFA M)).step X c) t → member t || (some_accepting member A.accepting n && ends n t) ≡ true
      from t i = go ((star_step k M F X c v t).0 i)
        where
          go : ((x : ℕ) × (x < n) × In X x × (A.step x c ≡ t)) ⊎ (((t ≡ n) ⊎ (t ≡ zero)) × ((x : ℕ) × (x < n) × In X x × (A.accepting (A.step x c) ≡ true)))
              → member t || (some_accepting member A.accepting n && ends n t) ≡ true
          go (inl (x, b, ix, s)) = or_left (member t) (some_accepting member A.accepting n && ends n t) ((leads_iff (flag_at r) (λ q. A.step q c) n t).1 (x, b, in_row x b ∙ ix, s))
          go (inr (l, (x, b, ix, a))) =
              or_right (member t) (some_accepting member A.accepting n && ends n t)
              (and_both (some_accepting member A.accepting n) (ends n t)
              ((some_iff member A.accepting n).1 (A.step x c, F.inside x c b v, (leads_iff (flag_at r) (λ q. A.step q c) n (A.step x c)).1 (x, b, in_row x b ∙ ix, refl), a))
              ((ends_iff t).1 l))

  star_answers : (r : List ℕ) (X : List Bool) → FlagsRep (suc n) r X → flag_at r n ≡ (subset (star_NFA M)).accepting X
  unfolding subset
  star_answers r X e = flags_member (suc n) r X e n (le_refl (suc n)) ∙ bool_iff (get_or X n false) (some_flag (λ x. eqb x n) zero X)
      (λ i. let z : 0 + n ≡ n = omega arith in some_whole (λ x. eqb x n) zero n X i (rw z (nat_test.whole n)))
      (λ s. let (x, b, t, q) = some_sound (λ x. eqb x n) zero X s in
      let z : x ≡ n = omega (arith, nat_test.sound (0 + x) n q) in
      rw z at t)

  pub star_stands : StandsFor k (star_rows n A) (subset (star_NFA M)) (FlagsRep (suc n))
  unfolding star_rows
  star_stands = record {
    starts = flags_rep (suc n) (ends n) (subset (star_NFA M)).start (start_long (star_NFA M) (star_inside k M F)) (λ t h. (λ e. (star_start k M F t).1 ((ends_iff t).0 e), λ e. (ends_iff t).1 ((star_start k M F t).0 e)));
    steps = λ r X c v e. star_row_step r X c v e;
    answers = star_answers;
    one = flags_one (suc n);
    back = flags_back (suc n);
  }

  -- STAR: what is found of the rows is the stage's answer.
  pub star_stage_by : (fmt : Format) (r : Made) → StageResult fmt k (star_rows n A) r → star_stage fmt k M ≡ r
  unfolding star_stage
  star_stage_by fmt r s = stage_by k (star_rows n A) (subset (star_NFA M)) (FlagsRep (suc n)) star_stands flags_test fmt r s

-- ---- erasing

module _ (m : ℕ) (M : Machine) (F : WellFormed (suc m) M) where
  marks_silent : (i q : ℕ) → marks (automaton M) m i q ≡ epsilons (erase_NFA m M) i q
  marks_silent zero q = refl
  marks_silent (suc i) q = marks_silent i ((automaton M).step q m)

  -- a member of some states leads to t by marks
  gained_iff : (member : ℕ → Bool) (t : ℕ) → (gained m (size M) (automaton M) member t ≡ true) ↔ ((x : ℕ) × (i : ℕ) × (x < size M) × (member x ≡ true) × (epsilons (erase_NFA m M) i x ≡ t))
  gained_iff member t = (to, from)
    where
      inner : ℕ → Bool
      inner q = any_below (λ i. eqb (marks (automaton M) m i q) t) (size M)

      to : gained m (size M) (automaton M) member t ≡ true → (x : ℕ) × (i : ℕ) × (x < size M) × (member x ≡ true) × (epsilons (erase_NFA m M) i x ≡ t)
      to e =
          let (x, b, f) = any_below_lem (λ q. member q && inner q) (size M) e in
          let (i, bi, g) = any_below_lem (λ i. eqb (marks (automaton M) m i x) t) (size M) (and_right (member x) (inner x) f) in
          (x, i, b, and_left (member x) (inner x) f, sym (marks_silent i x) ∙ nat_test.sound (marks (automaton M) m i x) t g)

      from : (x : ℕ) × (i : ℕ) × (x < size M) × (member x ≡ true) × (epsilons (erase_NFA m M) i x ≡ t) → gained m (size M) (automaton M) member t ≡ true
      from (x, i, b, me, e) =
          let (j, bj, q) = met_early (erase_NFA m M) (erase_inside m M F) x b i in
          below_any (λ q. member q && inner q) (size M) x b (and_both (member x) (inner x) me
          (below_any (λ i. eqb (marks (automaton M) m i x) t) (size M) j bj (rw (marks_silent j x ∙ q ∙ e) (nat_test.whole t))))

  erase_row_step : (r : List ℕ) (X : List Bool) (c : ℕ) → c < m → FlagsRep (size M) r X
      → FlagsRep (size M) (erase_row m (size M) (automaton M) (leads_to (flag_at r) (λ q. (automaton M).step q c) (size M))) ((subset (erase_NFA m M)).step X c)
  erase_row_step r X c v e = flags_rep (size M) (gained m (size M) (automaton M) member) ((subset (erase_NFA m M)).step X c) (step_long (erase_NFA m M) (erase_inside m M F) X c) (λ t h. (to t, from t))
    where
      member : ℕ → Bool
      member = leads_to (flag_at r) (λ q. (automaton M).step q c) (size M)

      to : (t : ℕ) → gained m (size M) (automaton M) member t ≡ true → In ((subset (erase_NFA m M)).step X c) t
      to t g =
          let (y, i, b, my, q) = (gained_iff member t).0 g in
          let (x, bx, ix, s) = (leads_iff (flag_at r) (λ q. (automaton M).step q c) (size M) y).0 my in
          (erase_step m M F X e.long c v t).1 (x, i, bx, sym (flags_member (size M) r X e x bx) ∙ ix, ap (epsilons (erase_NFA m M) i) s ∙ q)

      from : (t : ℕ) → In ((subset (erase_NFA m M)).step X c) t → gained m (size M) (automaton M) member t ≡ true
      from t g =
          let (x, i, b, ix, q) = (erase_step m M F X e.long c v t).0 g in
          (gained_iff member t).1
          ((automaton M).step x c, i, F.inside x c b (omega arith), (leads_iff (flag_at r) (λ q. (automaton M).step q c) (size M) ((automaton M).step x c)).1 (x, b, flags_member (size M) r X e x b ∙ ix, refl), q)

  erase_row_mark : (X : List Bool) → FlagsRep (size M) (flag_row (λ t. false) (size M)) ((subset (erase_NFA m M)).step X m)
  erase_row_mark X = flags_rep (size M) (λ t. false) ((subset (erase_NFA m M)).step X m) (step_long (erase_NFA m M) (erase_inside m M F) X m)
      (λ t h. (λ e. absurd (false≢true e), λ i. absurd (erase_mark m M F X t i)))

  erase_answers : (r : List ℕ) (X : List Bool) → FlagsRep (size M) r X → some_accepting (flag_at r) (automaton M).accepting (size M) ≡ (subset (erase_NFA m M)).accepting X
  unfolding subset
  erase_answers r X e = bool_iff (some_accepting (flag_at r) (automaton M).accepting (size M)) (some_flag (automaton M).accepting zero X)
      (λ s. let (x, b, i, a) = (some_iff (flag_at r) (automaton M).accepting (size M)).0 s in
      let z : 0 + x ≡ x = omega arith in
      some_whole (automaton M).accepting zero x X (sym (flags_member (size M) r X e x b) ∙ i) (rw z a))
      (λ s. let (x, b, t, a) = some_sound (automaton M).accepting zero X s in
      let z : x ≡ 0 + x = omega arith in
      let h : x < size M = rw e.long at b in
      (some_iff (flag_at r) (automaton M).accepting (size M)).1 (x, h, flags_member (size M) r X e x h ∙ t, ap (automaton M).accepting z ∙ a))

  erase_starts : FlagsRep (size M) (erase_row m (size M) (automaton M) (λ t. eqb t 0)) (subset (erase_NFA m M)).start
  erase_starts = flags_rep (size M) (gained m (size M) (automaton M) (λ t. eqb t 0)) (subset (erase_NFA m M)).start (start_long (erase_NFA m M) (erase_inside m M F)) (λ t h. (to t, from t))
    where
      to : (t : ℕ) → gained m (size M) (automaton M) (λ t. eqb t 0) t ≡ true → In (subset (erase_NFA m M)).start t
      to t g =
          let (x, i, b, z, q) = (gained_iff (λ t. eqb t 0) t).0 g in
          (erase_start m M F t).1 (i, ap (epsilons (erase_NFA m M) i) (sym (nat_test.sound x 0 z)) ∙ q)

      from : (t : ℕ) → In (subset (erase_NFA m M)).start t → gained m (size M) (automaton M) (λ t. eqb t 0) t ≡ true
      from t g =
          let (i, q) = (erase_start m M F t).0 g in
          (gained_iff (λ t. eqb t 0) t).1 (zero, i, F.some, refl, q)

  erase_steps : (r : List ℕ) (X : List Bool) (c : ℕ) → c < suc m → FlagsRep (size M) r X → FlagsRep (size M) ((erase_rows m (size M) (automaton M)).step r c) ((subset (erase_NFA m M)).step X c)
  unfolding erase_rows
  erase_steps r X c v e = go (same_cases nat_test c m)
    where
      go : SameCases nat_test c m → FlagsRep (size M) ((erase_rows m (size M) (automaton M)).step r c) ((subset (erase_NFA m M)).step X c)
      go (inl p) = rw p.1 (subst (λ c. FlagsRep (size M) (flag_row (λ t. false) (size M)) ((subset (erase_NFA m M)).step X c)) (sym p.0) (erase_row_mark X))
      go (inr p) = rw p.1 (erase_row_step r X c (omega (arith, p.0)) e)

  pub erase_stands : StandsFor (suc m) (erase_rows m (size M) (automaton M)) (subset (erase_NFA m M)) (FlagsRep (size M))
  unfolding erase_rows
  erase_stands = record { starts = erase_starts; steps = erase_steps; answers = erase_answers; one = flags_one (size M); back = flags_back (size M) }

  -- ERASING: what is found of the rows is the stage's answer.
  pub erase_stage_by : (fmt : Format) (r : Made) → StageResult fmt (suc m) (erase_rows m (size M) (automaton M)) r → erase_stage fmt m M ≡ r
  unfolding erase_stage
  erase_stage_by fmt r s = stage_by (suc m) (erase_rows m (size M) (automaton M)) (subset (erase_NFA m M)) (FlagsRep (size M)) erase_stands flags_test fmt r s

-- ---- concatenation

-- The row has the one state p of M in the set, then the flags of N's states.
pub record ConcatRep (M N : Machine) (r : List ℕ) (X : List Bool) : Type 0 where
  pub p : ℕ
  pub inside : p < size M
  pub long : length X ≡ size M + size N
  pub left : (x : ℕ) → x < size M → get_or X x false ≡ eqb x p
  pub row : r ≡ number_bytes p (set_row (size M) (size N) X)

module _ (M N : Machine) where
  concat_number : (r : List ℕ) (X : List Bool) (e : ConcatRep M N r X) → number_at r 0 ≡ e.p
  concat_number r X e = ap (λ r. number_at r 0) e.row ∙ two_bytes e.p

  concat_member : (r : List ℕ) (X : List Bool) → ConcatRep M N r X → (t : ℕ) → t < size N → flag_at r (2 + t) ≡ get_or X (size M + t) false
  concat_member r X e t h =
      let z : 2 + t ≡ suc (suc t) = omega arith in
      ap (flag_at r) z ∙ ap (λ r. flag_at r (suc (suc t))) e.row ∙ flag_at_lem (λ t. get_or X (size M + t) false) (size N) t h

  concat_p : (r : List ℕ) (X : List Bool) (e : ConcatRep M N r X) → In X e.p
  concat_p r X e = e.left e.p e.inside ∙ nat_test.whole e.p

  concat_only : (r : List ℕ) (X : List Bool) (e : ConcatRep M N r X) (x : ℕ) → x < size M → In X x → x ≡ e.p
  concat_only r X e x h i = nat_test.sound x e.p (sym (e.left x h) ∙ i)

  concat_one : (r r' : List ℕ) (X X' : List Bool) → ConcatRep M N r X → ConcatRep M N r' X' → r ≡ r' → X ≡ X'
  concat_one r r' X X' e e' q = ext_get_or false X X' (e.long ∙ sym e'.long) (λ t b. go t (rw e.long at b) (lt_cases t (size M)))
    where
      go : (t : ℕ) → t < size M + size N → LtCases t (size M) → get_or X t false ≡ get_or X' t false
      go t b (inl h) = e.left t h.0 ∙ ap (eqb t) (sym (concat_number r X e) ∙ ap (λ r. number_at r 0) q ∙ concat_number r' X' e') ∙ sym (e'.left t h.0)
      go t b (inr h) =
          let u : ℕ = t - size M in
          let z : t ≡ size M + u = omega arith in
          let v : u < size N = omega arith in
          rw z (sym (concat_member r X e u v) ∙ ap (λ r. flag_at r (2 + u)) q ∙ concat_member r' X' e' u v)

  concat_back : (r r' : List ℕ) (X X' : List Bool) → ConcatRep M N r X → ConcatRep M N r' X' → X ≡ X' → r ≡ r'
  concat_back r r' X X' e e' q =
      let z : e.p ≡ e'.p = concat_only r' X' e' e.p e.inside (rw q at (concat_p r X e)) in
      e.row ∙ ap₂ (λ p X. number_bytes p (set_row (size M) (size N) X)) z q ∙ sym e'.row

module _ (k : ℕ) (M N : Machine) (F : WellFormed k M) (G : WellFormed k N) where
  -- A row that has a state of M and flags that say which states of N are in X.
  concat_rep : (p : ℕ) (member : ℕ → Bool) (X : List Bool) → p < size M → length X ≡ size M + size N → ((x : ℕ) → x < size M → In X x ↔ (x ≡ p))
      → ((t : ℕ) → t < size N → In X (size M + t) ↔ ((member t ≡ true) ⊎ ((t ≡ zero) × ((automaton M).accepting p ≡ true))))
      → ConcatRep M N (concat_row (automaton M) (size N) p member) X
  concat_rep p member X h l left right = record {
    p = p;
    inside = h;
    long = l;
    left = λ x b. bool_iff (get_or X x false) (eqb x p) (λ i. rw ((left x b).0 i) (nat_test.whole p)) (λ e. (left x b).1 (nat_test.sound x p e));
    row = ap (number_bytes p) (flag_row_same (λ t. member t || ((automaton M).accepting p && eqb t 0)) (λ t. get_or X (size M + t) false) (size N) flag);
  }
    where
      flag : (t : ℕ) → t < size N → member t || ((automaton M).accepting p && eqb t 0) ≡ get_or X (size M + t) false
      flag t b = bool_iff (member t || ((automaton M).accepting p && eqb t 0)) (get_or X (size M + t) false) (λ e. (right t b).1 (to (or_cases (member t) ((automaton M).accepting p && eqb t 0) e))) (λ i. from ((right t b).0 i))
        where
          to : (member t ≡ true) ⊎ ((automaton M).accepting p && eqb t 0 ≡ true) → (member t ≡ true) ⊎ ((t ≡ zero) × ((automaton M).accepting p ≡ true))
          to (inl e) = inl e
          to (inr e) = inr (nat_test.sound t 0 (and_right ((automaton M).accepting p) (eqb t 0) e), and_left ((automaton M).accepting p) (eqb t 0) e)

          from : (member t ≡ true) ⊎ ((t ≡ zero) × ((automaton M).accepting p ≡ true)) → member t || ((automaton M).accepting p && eqb t 0) ≡ true
          from (inl e) = or_left (member t) ((automaton M).accepting p && eqb t 0) e
          from (inr (z, a)) = or_right (member t) ((automaton M).accepting p && eqb t 0) (and_both ((automaton M).accepting p) (eqb t 0) a (rw z (nat_test.whole 0)))

  concat_starts : ConcatRep M N (concat_row (automaton M) (size N) 0 (λ t. false)) (subset (concat_NFA M N)).start
  concat_starts = concat_rep 0 (λ t. false) (subset (concat_NFA M N)).start F.some (start_long (concat_NFA M N) (concat_inside k M N F G))
      (λ x b. concat_start_left k M N F G x b) (λ t b. (λ i. inr ((concat_start_right k M N F G t b).0 i), λ s. from t b s))
    where
      from : (t : ℕ) → t < size N → (false ≡ true) ⊎ ((t ≡ zero) × ((automaton M).accepting 0 ≡ true)) → In (subset (concat_NFA M N)).start (size M + t)
      from t b (inl e) = absurd (false≢true e)
      from t b (inr e) = (concat_start_right k M N F G t b).1 e

  concat_row_step : (r : List ℕ) (X : List Bool) (c : ℕ) → c < k → (e : ConcatRep M N r X)
      → ConcatRep M N (concat_row (automaton M) (size N) ((automaton M).step e.p c) (leads_to (λ q. flag_at r (2 + q)) (λ q. (automaton N).step q c) (size N))) ((subset (concat_NFA M N)).step X c)
  concat_row_step r X c v e = concat_rep p' member ((subset (concat_NFA M N)).step X c) (F.inside e.p c e.inside v) (step_long (concat_NFA M N) (concat_inside k M N F G) X c) (λ x b. (left x b, left_back x b)) (λ t b. (right t b, right_back t b))
    where
      p' : ℕ
      p' = (automaton M).step e.p c

      member : ℕ → Bool
      member = leads_to (λ q. flag_at r (2 + q)) (λ q. (automaton N).step q c) (size N)

      left : (x : ℕ) → x < size M → In ((subset (concat_NFA M N)).step X c) x → x ≡ p'
      left x b i =
          let (y, by, iy, s) = (concat_step_left k M N F G X e.long c v x b).0 i in
          sym s ∙ ap (λ y. (automaton M).step y c) (concat_only M N r X e y by iy)

      left_back : (x : ℕ) → x < size M → x ≡ p' → In ((subset (concat_NFA M N)).step X c) x
      left_back x b q = (concat_step_left k M N F G X e.long c v x b).1 (e.p, e.inside, concat_p M N r X e, sym q)

      right : (t : ℕ) → t < size N → In ((subset (concat_NFA M N)).step X c) (size M + t) → (member t ≡ true) ⊎ ((t ≡ zero) × ((automaton M).accepting p' ≡ true))
      right t b i = go ((concat_step_right k M N F G X e.long c v t b).0 i)
        where
          go : ((x : ℕ) × (x < size N) × In X (size M + x) × ((automaton N).step x c ≡ t)) ⊎ ((t ≡ zero) × ((x : ℕ) × (x < size M) × In X x × ((automaton M).accepting ((automaton M).step x c) ≡ true)))
              → (member t ≡ true) ⊎ ((t ≡ zero) × ((automaton M).accepting p' ≡ true))
          go (inl (x, bx, ix, s)) = inl ((leads_iff (λ q. flag_at r (2 + q)) (λ q. (automaton N).step q c) (size N) t).1 (x, bx, concat_member M N r X e x bx ∙ ix, s))
          go (inr (z, (x, bx, ix, a))) = inr (z, rw (concat_only M N r X e x bx ix) at a)

      right_back : (t : ℕ) → t < size N → (member t ≡ true) ⊎ ((t ≡ zero) × ((automaton M).accepting p' ≡ true)) → In ((subset (concat_NFA M N)).step X c) (size M + t)
      right_back t b (inl q) =
          let (x, bx, ix, s) = (leads_iff (λ q. flag_at r (2 + q)) (λ q. (automaton N).step q c) (size N) t).0 q in
          (concat_step_right k M N F G X e.long c v t b).1 (inl (x, bx, sym (concat_member M N r X e x bx) ∙ ix, s))
      right_back t b (inr (z, a)) = (concat_step_right k M N F G X e.long c v t b).1 (inr (z, (e.p, e.inside, concat_p M N r X e, a)))

  concat_steps : (r : List ℕ) (X : List Bool) (c : ℕ) → c < k → ConcatRep M N r X → ConcatRep M N ((concat_rows (automaton M) (size N) (automaton N)).step r c) ((subset (concat_NFA M N)).step X c)
  unfolding concat_rows
  concat_steps r X c v e = rw (concat_number M N r X e) (concat_row_step r X c v e)

  concat_answers : (r : List ℕ) (X : List Bool) → ConcatRep M N r X → some_accepting (λ q. flag_at r (2 + q)) (automaton N).accepting (size N) ≡ (subset (concat_NFA M N)).accepting X
  unfolding subset
  concat_answers r X e = bool_iff (some_accepting (λ q. flag_at r (2 + q)) (automaton N).accepting (size N)) (some_flag (concat_NFA M N).accepting zero X) to from
    where
      to : some_accepting (λ q. flag_at r (2 + q)) (automaton N).accepting (size N) ≡ true → some_flag (concat_NFA M N).accepting zero X ≡ true
      to s =
          let (x, b, i, a) = (some_iff (λ q. flag_at r (2 + q)) (automaton N).accepting (size N)).0 s in
          let z : 0 + (size M + x) ≡ size M + x = omega arith in
          let y : size M + x - size M ≡ x = omega arith in
          some_whole (concat_NFA M N).accepting zero (size M + x) X (sym (concat_member M N r X e x b) ∙ i) (rw (z, ltb_false (size M + x) (size M) (omega arith), y) a)

      from : some_flag (concat_NFA M N).accepting zero X ≡ true → some_accepting (λ q. flag_at r (2 + q)) (automaton N).accepting (size N) ≡ true
      from s =
          let (x, b, t, a) = some_sound (concat_NFA M N).accepting zero X s in
          let z : 0 + x ≡ x = omega arith in
          go x (rw e.long at b) t (rw z at a) (lt_cases x (size M))
        where
          go : (x : ℕ) → x < size M + size N → In X x → (concat_NFA M N).accepting x ≡ true → LtCases x (size M) → some_accepting (λ q. flag_at r (2 + q)) (automaton N).accepting (size N) ≡ true
          go x b t a (inl h) = absurd (false≢true (rw h.1 at a))
          go x b t a (inr h) =
              let y : ℕ = x - size M in
              let z : x ≡ size M + y = omega arith in
              (some_iff (λ q. flag_at r (2 + q)) (automaton N).accepting (size N)).1 (y, omega arith, concat_member M N r X e y (omega arith) ∙ (rw z at t), rw h.1 at a)

  pub concat_stands : StandsFor k (concat_rows (automaton M) (size N) (automaton N)) (subset (concat_NFA M N)) (ConcatRep M N)
  unfolding concat_rows
  concat_stands = record { starts = concat_starts; steps = concat_steps; answers = concat_answers; one = concat_one M N; back = concat_back M N }

  -- CONCATENATION: what is found of the rows is the stage's answer.
  pub concat_stage_by : (fmt : Format) (r : Made) → StageResult fmt k (concat_rows (automaton M) (size N) (automaton N)) r → concat_stage fmt k M N ≡ r
  unfolding concat_stage
  concat_stage_by fmt r s = stage_by k (concat_rows (automaton M) (size N) (automaton N)) (subset (concat_NFA M N)) (ConcatRep M N) concat_stands flags_test fmt r s
