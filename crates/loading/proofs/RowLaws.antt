-- The numbering test, row by row, and that it says whether a machine is numbered by first arrival.
use mathlib.Core.Path.{◌≡◌, refl, sym, ap, ap₂, ◌∙◌}
use mathlib.Core.Bool.{true, false, false≢true}
use mathlib.Core.Logic.{◌⊎◌, inl, inr}
use Rattle.std.proofs.Common.{nat_eq, None}
use mathlib.Core.List.{List}
use Prim.Native.Nat.{ℕ, zero, suc, ◌+◌, ◌*◌, ◌≤◌, ◌<◌, max}
use native.Mathlib.Nat.{le_refl, not-suc-le-zero}
use native.Mathlib.Numerals.{add-one}
use native.Mathlib.Omega.{arith}
use lib.ListN.{length, get_or}
use Rattle.automata.specs.Basics.{LtCases, lt_cases, nat_test}
use Rattle.automata.specs.Booleans.{bool_cases}
use Rattle.automata.specs.Decide.{contradict}
use Rattle.automata.specs.Machine.{Machine, size}
use Rattle.automata.specs.Numbering.{across, seen, Arrival, arrival_sound, arrival_whole}
use Rattle.moves.specs.Holds.{Holds}
use Rattle.loading.specs.Rows.{seen_in, InOrder, RowSeen, NumberedExactly}

-- ---- one row

-- After the first i moves, all in order, s states are seen.
pub record RowUpto (bs : List ℕ) (at s₀ i s : ℕ) : Type 0 where
  pub count : s ≡ seen_in bs at s₀ i
  pub order : (j : ℕ) → j < i → get_or bs (at + j) 0 ≤ seen_in bs at s₀ j

pub row_start : (bs : List ℕ) (at s₀ : ℕ) → RowUpto bs at s₀ 0 s₀
unfolding seen_in
row_start bs at s₀ = record { count = refl; order = λ j h. absurd (not-suc-le-zero h) }

module _ (bs row : List ℕ) (at s₀ i s : ℕ) (e : get_or row i 0 ≡ get_or bs (at + i) 0) (u : RowUpto bs at s₀ i s) where
  pub row_next : (s' : ℕ) → get_or row i 0 ≤ s → s' ≡ max s (get_or row i 0 + 1) → RowUpto bs at s₀ (i + 1) s'
  unfolding seen_in
  row_next s' h f = record {
    count = rw (add-one i) (f ∙ ap₂ max u.count (add-one (get_or row i 0) ∙ ap suc e));
    order = λ j b. go j (lt_cases j i) b;
  }
    where
      go : (j : ℕ) → LtCases j i → j < i + 1 → get_or bs (at + j) 0 ≤ seen_in bs at s₀ j
      go j (inl p) b = u.order j p.0
      go j (inr p) b = let z : j ≡ i = omega arith in rw (z, ← u.count, ← e) h

-- ---- all rows

-- how many states are seen when the rows below p are read
pub seen_to : List ℕ → ℕ → ℕ → ℕ
seen_to bs m zero = 1
seen_to bs m (suc p) = seen_in bs (p * m) (seen_to bs m p) m

-- The rows below p are in order, and s states are seen.
pub record RowsUpto (bs : List ℕ) (m p s : ℕ) : Type 0 where
  pub count : s ≡ seen_to bs m p
  pub before : (q : ℕ) → q < p → q < seen_to bs m q
  pub next : (q i : ℕ) → q < p → i < m → get_or bs (q * m + i) 0 ≤ seen_in bs (q * m) (seen_to bs m q) i

pub rows_start : (bs : List ℕ) (m : ℕ) → RowsUpto bs m 0 1
unfolding seen_to
rows_start bs m = record { count = refl; before = λ q h. absurd (not-suc-le-zero h); next = λ q i h. absurd (not-suc-le-zero h) }

pub rows_next : (bs : List ℕ) (m p s r : ℕ) → RowsUpto bs m p s → p < s → InOrder bs (p * m) m s r → RowsUpto bs m (p + 1) r
unfolding seen_to
rows_next bs m p s r u h w = record {
  count = rw (add-one p, ← u.count) w.count;
  before = λ q b. early q b (lt_cases q p);
  next = λ q i b v. row q i b v (lt_cases q p);
}
  where
    early : (q : ℕ) → q < p + 1 → LtCases q p → q < seen_to bs m q
    early q b (inl x) = u.before q x.0
    early q b (inr x) = let y : q ≡ p = omega arith in rw (y, ← u.count) h

    row : (q i : ℕ) → q < p + 1 → i < m → LtCases q p → get_or bs (q * m + i) 0 ≤ seen_in bs (q * m) (seen_to bs m q) i
    row q i b v (inl x) = u.next q i x.0 v
    row q i b v (inr x) = let y : q ≡ p = omega arith in rw (y, ← u.count) (w.order i v)

-- ---- the rows and the machine that they hold

module _ (m : ℕ) (ms bs : List ℕ) (M : Machine) (h : Holds m ms bs M) where
  row_across : (p s i : ℕ) → p < length ms → i ≤ m → across m M p s i ≡ seen_in bs (p * m) s i
  unfolding across seen_in
  row_across p s zero b v = refl
  row_across p s (suc i) b v = λ t. max (row_across p s i b (omega arith) t) (suc (h.step p i b v t))

  rows_seen : (p : ℕ) → p ≤ length ms → seen m M p ≡ seen_to bs m p
  unfolding seen seen_to
  rows_seen zero b = refl
  rows_seen (suc p) b = row_across p (seen m M p) m b (le_refl m) ∙ ap (λ s. seen_in bs (p * m) s m) (rows_seen p (omega arith))

  rows_at : (p i : ℕ) → p < length ms → i ≤ m → across m M p (seen m M p) i ≡ seen_in bs (p * m) (seen_to bs m p) i
  rows_at p i b v = row_across p (seen m M p) i b v ∙ ap (λ s. seen_in bs (p * m) s i) (rows_seen p (omega arith))

  low : (p : ℕ) → p < size M → p < length ms
  low p b = rw h.states at b

  rows_arrival : (s : ℕ) → RowsUpto bs m (length ms) s → s ≡ length ms → Arrival m M
  rows_arrival s u e = record {
    before = λ p b. rw (rows_seen p (omega (arith, low p b))) (u.before p (low p b));
    next = λ p i b v. rw (rows_at p i (low p b) (omega arith), h.step p i (low p b) v) (u.next p i (low p b) v);
    all = rw h.states (rows_seen (length ms) (le_refl (length ms)) ∙ sym u.count ∙ e);
  }

exactly : (m : ℕ) (ms bs : List ℕ) → ((M : Machine) → Holds m ms bs M → Arrival m M → ⊥) → NumberedExactly m ms bs false
exactly m ms bs f = record { exact = λ M h. (λ e. absurd (false≢true e), λ n. absurd (f M h (arrival_whole m M n))) }

module _ (m : ℕ) (ms bs : List ℕ) (p s : ℕ) (u : RowsUpto bs m p s) where
  pub numbered_late : p < length ms → s ≤ p → NumberedExactly m ms bs false
  numbered_late b l = exactly m ms bs λ M h a. omega (arith, a.before p (rw h.states b), rows_seen m ms bs M h p (omega arith), u.count)

  pub numbered_skips : p < length ms → RowSeen bs (p * m) m s None → NumberedExactly m ms bs false
  numbered_skips b w = exactly m ms bs λ M h a.
      let (i, v, x) = w in
      let y : seen_in bs (p * m) (seen_to bs m p) i < get_or bs (p * m + i) 0 = rw u.count at x in
      omega (arith, a.next p i (rw h.states b) v, rows_at m ms bs M h p i b (omega arith), h.step p i b v)

  -- All rows are in order: all states are seen, or not.
  pub numbered_end : p ≡ length ms → NumberedExactly m ms bs (nat_eq s (length ms))
  numbered_end e = go (bool_cases (nat_eq s (length ms)))
    where
      short : (s ≡ length ms → ⊥) → NumberedExactly m ms bs false
      short f = exactly m ms bs λ M h a.
          let c : s ≡ seen_to bs m (length ms) = rw e at u.count in
          let d : seen m M (length ms) ≡ length ms = rw h.states at a.all in
          f (c ∙ sym (rows_seen m ms bs M h (length ms) (le_refl (length ms))) ∙ d)

      go : (nat_eq s (length ms) ≡ true) ⊎ (nat_eq s (length ms) ≡ false) → NumberedExactly m ms bs (nat_eq s (length ms))
      go (inl f) = rw f (record { exact = λ M h. (λ _. arrival_sound m M (rows_arrival m ms bs M h s (rw e at u) (nat_test.sound s (length ms) f)), λ _. refl) })
      go (inr f) = rw f (short λ x. contradict (rw x (nat_test.whole (length ms))) f)
