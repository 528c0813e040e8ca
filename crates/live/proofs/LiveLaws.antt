-- Live states by sweeps over an array of flags, and that they are those of the machine that the bytes hold.
use mathlib.Core.Path.{◌≡◌, refl, sym, ap, ◌∙◌}
use mathlib.Core.Bool.{Bool, true, false, not, ◌||◌, false≢true, true≢false}
use mathlib.Core.Logic.{◌⊎◌, inl, inr}
use mathlib.Core.List.{List, [], ◌∷◌}
use Prim.Native.Nat.{ℕ, suc, ◌+◌, ◌*◌, ◌-◌, ◌≤◌, ◌<◌, zero-le}
use native.Mathlib.Nat.{not-suc-le-zero, le_of_suc-le-suc}
use native.Mathlib.Numerals.{add-one}
use native.Mathlib.Omega.{arith}
use lib.ListN.{length, get_or, set, length-set}
use lib.Seq.{get_or-set_same, get_or-set_other}
use lib.Dec.{eqb}
use Rattle.std.specs.List.{list_any, HoldsAt}
use Rattle.std.proofs.Math.Bool.{or-true, or-false}
use Rattle.automata.specs.Booleans.{bool_cases, bool_iff}
use Rattle.automata.specs.Live.{Within, live}
use Rattle.automata.proofs.Live.{live_word, live_within, live_only}
use Rattle.card.specs.Mark.{Mark, mark_by, marks, marks_only, marks_sound, marks_get_or}
use Rattle.automata.specs.Basics.{LtCases, lt_cases, nat_test}
use Rattle.automata.specs.Machine.{Machine, size, automaton}
use Rattle.moves.specs.Holds.{Table, Holds, Row}
use Rattle.moves.specs.TableLaws.{move_inside, some_move}
use Rattle.std.specs.List.{list_all, zip}
use Rattle.std.proofs.lemmas.List.Sums.{AllPass-from_list_all, list_all-from_AllPass}
use Rattle.std.proofs.lemmas.List.Elements.{All-get_or, All-from_get_or}
use Rattle.std.proofs.lemmas.Slice.Zip.{get_or-zip, length-zip}
use Rattle.live.specs.LiveSweeps.{right_mark, flag_after, Visited, Sweep, FlagsOf, LiveExactly, MarksExactly}

eqb_turn : (a b : ℕ) → eqb a b ≡ eqb b a
eqb_turn a b = bool_iff (eqb a b) (eqb b a) (λ e. let z : a ≡ b = nat_test.sound a b e in rw z (nat_test.whole b)) (λ e. let z : b ≡ a = nat_test.sound b a e in rw z (nat_test.whole a))

unset : (b : Bool) → not b ≡ true → b ≡ false
unset true e = absurd (false≢true e)
unset false e = refl

-- ---- the accepting states

pub flags_of : (most : ℕ) (ms : List ℕ) (fs : List Bool) → length fs ≡ most → ((p : ℕ) → p < length ms → HoldsAt (λ x. x ≡ eqb 1 (get_or ms p 0)) fs p) → FlagsOf most ms fs
flags_of most ms fs e f = record { long = e; flag = λ p h. f p h false ∙ eqb_turn 1 (get_or ms p 0) }

-- ---- one state

module _ (m : ℕ) (ms bs : List ℕ) (p : ℕ) (row : List ℕ) (r : Row m ms bs p row) (fs : List Bool) where
  pub visit_new : list_any (λ t. get_or fs t false) row ≡ true → Visited m bs p fs (set fs p true) true
  visit_new l = record { yes = λ _. (refl, some_move _ _ _ _ _ r (λ t. get_or fs t false) l); no = λ x. absurd (true≢false x) }

-- ---- one sweep

-- The states from lo to hi are visited: fs became gs.
pub record SweepUpto (most m : ℕ) (ms bs : List ℕ) (fs gs : List Bool) (lo hi : ℕ) (changed : Bool) : Type 0 where
  pub long : length gs ≡ most
  pub keeps : (q : ℕ) → q < length ms → get_or fs q false ≡ true → get_or gs q false ≡ true
  pub leads : (q i : ℕ) → lo ≤ q → q < hi → q < length ms → i < m → flag_after bs (q * m) fs i ≡ true → get_or gs q false ≡ true
  pub only : (f : ℕ → Bool) → ((q i : ℕ) → q < length ms → i < m → f (get_or bs (q * m + i) 0) ≡ true → f q ≡ true)
      → ((q : ℕ) → q < length ms → get_or fs q false ≡ true → f q ≡ true) → (q : ℕ) → q < length ms → get_or gs q false ≡ true → f q ≡ true
  pub still : changed ≡ false → (q : ℕ) → q < length ms → get_or gs q false ≡ get_or fs q false

-- One state more, below the others or above them:
pub one_below : (p n : ℕ) → 0 < p → (q : ℕ) → p - 1 ≤ q → q < n → ((p ≤ q) × (q < n)) ⊎ (q ≡ p - 1)
one_below p n h q l b = go (lt_cases q p)
  where
    go : LtCases q p → ((p ≤ q) × (q < n)) ⊎ (q ≡ p - 1)
    go (inl x) = inr (omega arith)
    go (inr x) = inl (x.0, b)

pub one_above : (p q : ℕ) → 0 ≤ q → q < p + 1 → ((0 ≤ q) × (q < p)) ⊎ (q ≡ p)
one_above p q l b = go (lt_cases q p)
  where
    go : LtCases q p → ((0 ≤ q) × (q < p)) ⊎ (q ≡ p)
    go (inl x) = inl (l, x.0)
    go (inr x) = inr (omega arith)

module _ (most m : ℕ) (ms bs : List ℕ) (fs gs hs : List Bool) (t : Table most m ms bs) (lo hi : ℕ) (changed : Bool) (u : SweepUpto most m ms bs fs gs lo hi changed)
    (p : ℕ) (b₀ : p < length ms) (lo' hi' : ℕ) (one : (q : ℕ) → lo' ≤ q → q < hi' → ((lo ≤ q) × (q < hi)) ⊎ (q ≡ p)) (r : Bool) (w : Visited m bs p gs hs r) where
  pub sweep_same : r ≡ false → SweepUpto most m ms bs fs hs lo' hi' changed
  sweep_same z = rw (w.no z).0 (record { long = u.long; keeps = u.keeps; leads = λ q i l h b v e. go q i b v e (one q l h); only = u.only; still = u.still })
    where
      go : (q i : ℕ) → q < length ms → i < m → flag_after bs (q * m) fs i ≡ true → ((lo ≤ q) × (q < hi)) ⊎ (q ≡ p) → get_or gs q false ≡ true
      go q i b v e (inl x) = u.leads q i x.0 x.1 b v e
      go q i b v e (inr x) = let e' : flag_after bs (p * m) fs i ≡ true = rw x at e in rw x ((w.no z).1 i v (u.keeps (get_or bs (p * m + i) 0) (move_inside _ _ _ _ t p i b₀ v) e'))

  pub sweep_new : r ≡ true → SweepUpto most m ms bs fs hs lo' hi' true
  sweep_new z = rw (w.yes z).0 (record {
    long = length-set gs p true ∙ u.long;
    keeps = λ q b e. more q (u.keeps q b e);
    leads = λ q i l h b v e. go q i b v e (one q l h);
    only = λ f c s q b e. back f c s q b e (lt_cases q p) (lt_cases p q);
    still = λ e. absurd (true≢false e);
  })
    where
      same : get_or (set gs p true) p false ≡ true
      same = get_or-set_same gs p true false (omega (arith, u.long, t.states_most))

      other : (q : ℕ) → (q ≡ p → ⊥) → get_or (set gs p true) q false ≡ get_or gs q false
      other q d = get_or-set_other gs p q true false d

      more : (q : ℕ) → get_or gs q false ≡ true → get_or (set gs p true) q false ≡ true
      more q e = at' (lt_cases q p) (lt_cases p q)
        where
          at' : LtCases q p → LtCases p q → get_or (set gs p true) q false ≡ true
          at' (inl x) y = other q (λ z. omega arith) ∙ e
          at' (inr x) (inl y) = other q (λ z. omega arith) ∙ e
          at' (inr x) (inr y) = let z : q ≡ p = omega arith in rw z same

      go : (q i : ℕ) → q < length ms → i < m → flag_after bs (q * m) fs i ≡ true → ((lo ≤ q) × (q < hi)) ⊎ (q ≡ p) → get_or (set gs p true) q false ≡ true
      go q i b v e (inl x) = more q (u.leads q i x.0 x.1 b v e)
      go q i b v e (inr x) = rw x same

      back : (f : ℕ → Bool) → ((q i : ℕ) → q < length ms → i < m → f (get_or bs (q * m + i) 0) ≡ true → f q ≡ true)
          → ((q : ℕ) → q < length ms → get_or fs q false ≡ true → f q ≡ true) → (q : ℕ) → q < length ms → get_or (set gs p true) q false ≡ true
          → LtCases q p → LtCases p q → f q ≡ true
      back f c s q b e (inl x) y = u.only f c s q b (sym (other q (λ z. omega arith)) ∙ e)
      back f c s q b e (inr x) (inl y) = u.only f c s q b (sym (other q (λ z. omega arith)) ∙ e)
      back f c s q b e (inr x) (inr y) =
          let x' : q ≡ p = omega arith in
          let (i, v, g) = (w.yes z).1 in
          rw x' (c p i b₀ v (u.only f c s (get_or bs (p * m + i) 0) (move_inside _ _ _ _ t p i b₀ v) g))

  pub sweep_more : SweepUpto most m ms bs fs hs lo' hi' (changed || r)
  sweep_more = elim (bool_cases r) [ inl e ↦ rw (e, or-true changed) (sweep_new e) | inr e ↦ rw (e, or-false changed) (sweep_same e) ]

-- ---- all sweeps

-- After j sweeps the flags hold live states only, and each state from which a word of at most j letters is accepted.
pub record LiveUpto (most m : ℕ) (ms bs : List ℕ) (fs : List Bool) (j : ℕ) : Type 0 where
  pub long : length fs ≡ most
  pub sound : (M : Machine) → Holds m ms bs M → (p : ℕ) → p < length ms → get_or fs p false ≡ true → get_or (live m M) p false ≡ true
  pub whole : (M : Machine) → Holds m ms bs M → (p : ℕ) → p < length ms → Within m M j p → get_or fs p false ≡ true

module _ (m : ℕ) (ms bs : List ℕ) (M : Machine) (h : Holds m ms bs M) where
  low : (p : ℕ) → p < length ms → p < size M
  low p b = rw h.states b

  accepts_flag : (p : ℕ) → p < length ms → (automaton M).accepting p ≡ eqb (get_or ms p 0) 1
  accepts_flag p b = h.accepting p b ∙ eqb_turn 1 (get_or ms p 0)

  -- a state that moves to a live one is live
  live_back : (p i : ℕ) → p < length ms → i < m → get_or (live m M) (get_or bs (p * m + i) 0) false ≡ true → get_or (live m M) p false ≡ true
  live_back p i b v e =
      let s : (automaton M).step p i ≡ get_or bs (p * m + i) 0 = h.step p i b v in
      let e' : get_or (live m M) ((automaton M).step p i) false ≡ true = rw s e in
      let (w, o, l, f) = live_within m M h.formed ((automaton M).step p i) (h.formed.inside p i (low p b) v) e' in
      live_word m M h.formed (i ∷ w) p (low p b) (v, o) f

pub live_start : (most m : ℕ) (ms bs : List ℕ) (fs : List Bool) → FlagsOf most ms fs → LiveUpto most m ms bs fs 0
live_start most m ms bs fs o = record {
  long = o.long;
  sound = λ M h p b e. live_word m M h.formed [] p (low m ms bs M h p b) tt (accepts_flag m ms bs M h p b ∙ sym (o.flag p b) ∙ e);
  whole = λ M h p b w. o.flag p b ∙ sym (accepts_flag m ms bs M h p b) ∙ first M p w;
}
  where
    first : (M : Machine) (p : ℕ) → Within m M 0 p → (automaton M).accepting p ≡ true
    first M p ([], v, l, f) = f
    first M p (c ∷ w, v, l, f) = absurd (not-suc-le-zero l)

pub live_next_lem : (most m : ℕ) (ms bs : List ℕ) (fs gs : List Bool) (j : ℕ) (r : Bool) → LiveUpto most m ms bs fs j → Sweep m ms bs fs gs r → LiveUpto most m ms bs gs (j + 1)
live_next_lem most m ms bs fs gs j r u o = record {
  long = o.long ∙ u.long;
  sound = λ M h. o.only (λ p. get_or (live m M) p false) (live_back m ms bs M h) (u.sound M h);
  whole = λ M h p b w. deep M h p b (rw (add-one j) at w);
}
  where
    deep : (M : Machine) → Holds m ms bs M → (p : ℕ) → p < length ms → Within m M (suc j) p → get_or gs p false ≡ true
    deep M h p b ([], v, l, f) = o.keeps p b (u.whole M h p b ([], tt, zero-le, f))
    deep M h p b (c ∷ w, v, l, f) = o.leads p c b v.0 (rw (h.step p c b v.0) at
        (u.whole M h ((automaton M).step p c) (rw h.states at (h.formed.inside p c (low m ms bs M h p b) v.0)) (w, v.1, le_of_suc-le-suc l, f)))

-- As many sweeps as there are states,
pub live_full : (most m : ℕ) (ms bs : List ℕ) (fs : List Bool) (j : ℕ) → LiveUpto most m ms bs fs j → length ms ≤ j → LiveExactly m ms bs fs
live_full most m ms bs fs j u l = record {
  exact = λ M h p b. bool_iff (get_or fs p false) (get_or (live m M) p false) (u.sound M h p b) λ e.
      let (w, o, n, f) = live_within m M h.formed p (low m ms bs M h p b) e in
      u.whole M h p b (w, o, omega (arith, n, h.states), f);
}

-- or a sweep that changes nothing, find all.
pub live_still : (most m : ℕ) (ms bs : List ℕ) (fs gs : List Bool) (j : ℕ) (r : Bool) → LiveUpto most m ms bs fs j → Sweep m ms bs fs gs r → not r ≡ true → LiveExactly m ms bs gs
live_still most m ms bs fs gs j r u o e₀ = record {
  exact = λ M h p b. same p b ∙ live_only m M h.formed (λ p. get_or fs p false)
      (λ p b. u.sound M h p (rw h.states at b))
      (λ p b e. u.whole M h p (rw h.states at b) ([], tt, zero-le, e))
      (λ p c b v e. let b' : p < length ms = rw h.states at b in sym (same p b') ∙ o.leads p c b' v (rw (h.step p c b' v) at e))
      p (low m ms bs M h p b);
}
  where
    same : (p : ℕ) → p < length ms → get_or gs p false ≡ get_or fs p false
    same = o.still (unset r e₀)

-- ---- the marks bytes

-- By the byte itself and the flag.
right_sound : (v : ℕ) (f : Bool) → right_mark v f ≡ true → v ≡ mark_by (eqb v 1) f
right_sound v f e = go (bool_cases (eqb v 1)) (bool_cases f)
  where
    go : (eqb v 1 ≡ true) ⊎ (eqb v 1 ≡ false) → (f ≡ true) ⊎ (f ≡ false) → v ≡ mark_by (eqb v 1) f
    go (inl a) y = rw a (nat_test.sound v 1 a)
    go (inr a) (inl y) = rw (a, y) (nat_test.sound v 0 (rw (a, y) at e))
    go (inr a) (inr y) = rw (a, y) (nat_test.sound v 2 (rw (a, y) at e))

right_whole : (v : ℕ) (a f : Bool) → v ≡ mark_by a f → right_mark v f ≡ true
right_whole v true f e = rw e refl
right_whole v false true e = rw e refl
right_whole v false false e = rw e refl

-- Each marks byte beside its flag is right just when each is its state's.
module _ (m : ℕ) (ms bs : List ℕ) (fs : List Bool) (l : length fs ≡ 120) (t : Table 120 m ms bs) (x : LiveExactly m ms bs fs) where
  module _ (p : ℕ) (b : p < length ms) where
    pair : get_or (zip ms fs) p (0, false) ≡ (get_or ms p 0, get_or fs p false)
    pair = get_or-zip ms fs p (0, false) b (omega (arith, t.states_most))

    module _ (M : Machine) (h : Holds m ms bs M) where
      low_here : p < size M
      low_here = rw h.states b

      byte_is : get_or (marks m M) p 0 ≡ mark_by ((automaton M).accepting p) (get_or fs p false)
      byte_is = rw (x.exact M h p b) (marks_get_or m M p low_here)

      accepts_is : (automaton M).accepting p ≡ eqb (get_or ms p 0) 1
      accepts_is = h.accepting p b ∙ eqb_turn 1 (get_or ms p 0)

      sound : right_mark (get_or ms p 0) (get_or fs p false) ≡ true → Mark m M p (get_or ms p 0)
      sound o =
          let e : get_or ms p 0 ≡ get_or (marks m M) p 0 = right_sound _ _ o ∙ sym (ap (λ a. mark_by a (get_or fs p false)) accepts_is) ∙ sym byte_is in
          rw e (marks_sound m M h.formed p low_here)

      whole : Mark m M p (get_or ms p 0) → right_mark (get_or ms p 0) (get_or fs p false) ≡ true
      whole k = right_whole _ _ _ (marks_only m M h.formed p low_here _ k ∙ byte_is)

  long : length (zip ms fs) ≡ length ms
  long = omega (arith, length-zip ms fs, t.states_most)

  pub marks_exact : (r : Bool) → r ≡ list_all (λ y. right_mark y.0 y.1) (zip ms fs) → MarksExactly m ms bs r
  marks_exact r e = record {
    exact = λ M h. (
      λ o p b. sound p b M h (rw (pair p b) at (All-get_or (λ y. right_mark y.0 y.1 ≡ true) (zip ms fs) p (0, false) (rw (← long) at b) (AllPass-from_list_all _ (zip ms fs) (sym e ∙ o)))),
      λ a. e ∙ list_all-from_AllPass (λ y. right_mark y.0 y.1) (zip ms fs) (All-from_get_or (λ y. right_mark y.0 y.1 ≡ true) (zip ms fs) (0, false) (λ i b. let b' : i < length ms = rw long at b in rw (pair i b') (whole i b' M h (a i b')))),
    );
  }
