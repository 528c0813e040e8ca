-- What a reader of a card can test with two counters: the numbering (each move leads to a state seen before, or to the next new one). And equivalent
-- states by the classes.
use Rattle.std.specs.Prelude.{◌≡◌, ◌⊎◌, List, [], ◌∷◌, ◌++◌, length, get_or}
use Rattle.std.proofs.Math.Path.{refl, ap}
use Rattle.std.proofs.Common.{sym, ◌∙◌, inl, inr, le_refl, le_trans, not-suc-le-zero, length-append, ext_get_or}
use Prim.Native.Nat.{ℕ, zero, suc, ◌≤◌, ◌<◌, suc-le-suc, max}
use native.Mathlib.Omega.{arith}
use Rattle.std.proofs.Math.Seq.{get_or-append_seam}
use Rattle.automata.specs.Basics.{LtCases, nat_test, lt_cases, find, find_at, find_least, tab, range, length_tab, get_or_tab}
use Rattle.automata.specs.Automaton.{Automaton}
use Rattle.automata.specs.Listing.{Extends, extends_refl, extends_trans, add, add_cases, add_extends, add_to, turn, turn_cases, listing, listing_extends, listing_stays}
use Rattle.automata.specs.Machine.{Machine, size, automaton, WellFormed, Numbered, Reduced}
use Rattle.automata.specs.Partition.{classes, classes_whole, classes_low, classes_equivalent, classes_length}

pub tab_snoc : {A : Type 0} (f : ℕ → A) (n : ℕ) → tab f n ++ (f n ∷ []) ≡ tab f (suc n)
tab_snoc f zero = refl
tab_snoc f (suc n) = ap (λ l. f zero ∷ l) (tab_snoc (λ i. f (suc i)) n)

length_range : (n : ℕ) → length (range n) ≡ n
length_range n = length_tab (λ i. i) n

range_at : (n i : ℕ) → i < n → get_or (range n) i zero ≡ i
range_at n i h = get_or_tab (λ i. i) n i zero h

-- ---- the numbering

module _ (k : ℕ) (M : Machine) where
  -- How many states are seen, where s were, when the first c moves of state p are read too.
  unfoldable pub across : ℕ → ℕ → ℕ → ℕ
  across p s zero = s
  across p s (suc c) = max (across p s c) (suc ((automaton M).step p c))

  -- How many states are seen when the moves of the states below p are read.
  unfoldable pub seen : ℕ → ℕ
  seen zero = 1
  seen (suc p) = across p (seen p) k

  -- Each state is seen before its moves are read, and each move is to a state seen or to the next; all are seen in the end.
  pub record Arrival : Type 0 where
    pub before : (p : ℕ) → p < size M → p < seen p
    pub next : (p c : ℕ) → p < size M → c < k → (automaton M).step p c ≤ across p (seen p) c
    pub all : seen (size M) ≡ size M

-- a number that is at most s, put to 0, .., s - 1
add_range : (s e : ℕ) → e ≤ s → add nat_test (range s) e ≡ range (max s (suc e))
add_range s e h = go (add_cases nat_test (range s) e) (lt_cases e s)
  where
    go : ((find nat_test e (range s) < length (range s)) × (add nat_test (range s) e ≡ range s))
        ⊎ ((length (range s) ≤ find nat_test e (range s)) × (add nat_test (range s) e ≡ range s ++ (e ∷ [])))
        → LtCases e s → add nat_test (range s) e ≡ range (max s (suc e))
    go (inl p) (inl q) = let z : max s (suc e) ≡ s = omega arith in rw z p.1
    go (inl p) (inr q) =
        let x : find nat_test e (range s) < s = rw (length_range s) at p.0 in
        absurd (omega (arith, range_at s (find nat_test e (range s)) x, find_at nat_test zero e (range s) p.0))
    go (inr p) (inl q) = absurd (omega (arith, length_range s, find_least nat_test zero e (range s) e (rw (length_range s) q.0) (range_at s e q.0)))
    go (inr p) (inr q) = let z : max s (suc e) ≡ suc e = omega arith in let y : s ≡ e = omega arith in rw z (p.1 ∙ (rw y (tab_snoc (λ i. i) e)))

module _ (k : ℕ) (M : Machine) where
  abbrev A : Automaton ℕ
  A = automaton M

  add_to_range : (p s : ℕ) (c : ℕ) → ((a : ℕ) → a < c → A.step p a ≤ across k M p s a) → add_to nat_test A c (range s) p ≡ range (across k M p s c)
  unfolding add_to across
  add_to_range p s zero h = refl
  add_to_range p s (suc c) h = ap (λ l. add nat_test l (A.step p c)) (add_to_range p s c (λ a b. h a (omega arith))) ∙ add_range (across k M p s c) (A.step p c) (h c (le_refl (suc c)))

  turn_range : (p s : ℕ) → p < s → turn nat_test A k p (range s) ≡ add_to nat_test A k (range s) p
  turn_range p s h = go (turn_cases nat_test A k p (range s))
    where
      go : ((p < length (range s)) × (turn nat_test A k p (range s) ≡ add_to nat_test A k (range s) (get_or (range s) p zero))) ⊎ ((length (range s) ≤ p) × (turn nat_test A k p (range s) ≡ range s))
          → turn nat_test A k p (range s) ≡ add_to nat_test A k (range s) p
      go (inl q) = q.1 ∙ ap (add_to nat_test A k (range s)) (range_at s p h)
      go (inr q) = absurd (omega (arith, length_range s))

  listing_range : Arrival k M → (p : ℕ) → p ≤ size M → listing nat_test A k p ≡ range (seen k M p)
  unfolding listing seen
  listing_range R zero h = refl
  listing_range R (suc p) h =
      ap (turn nat_test A k p) (listing_range R p (omega arith)) ∙ turn_range p (seen k M p) (R.before p h) ∙ add_to_range p (seen k M p) k (λ a b. R.next p a h b)

  -- A machine that passes is numbered by first arrival,
  pub arrival_sound : Arrival k M → Numbered k M
  arrival_sound R = listing_range R (size M) (le_refl (size M)) ∙ ap range R.all

  -- and one that is numbered so passes.
  add_to_more : (p : ℕ) (l : List ℕ) (c m : ℕ) → c ≤ m → Extends zero (add_to nat_test A c l p) (add_to nat_test A m l p)
  unfolding add_to
  add_to_more p l c zero h = let z : c ≡ zero = omega arith in rw z (extends_refl zero l)
  add_to_more p l c (suc m) h = go (lt_cases m c) (add_to_more p l c m)
    where
      go : LtCases m c → (c ≤ m → Extends zero (add_to nat_test A c l p) (add_to nat_test A m l p)) → Extends zero (add_to nat_test A c l p) (add_to nat_test A (suc m) l p)
      go (inl q) f = let z : c ≡ suc m = omega arith in rw z (extends_refl zero (add_to nat_test A (suc m) l p))
      go (inr q) f = extends_trans zero (f q.0) (add_extends nat_test zero (add_to nat_test A m l p) (A.step p m))

  -- what is put to 0, .., s - 1 and belongs to 0, .., n - 1 is at most s
  fits : (n s e : ℕ) → Extends zero (add nat_test (range s) e) (range n) → e ≤ s
  fits n s e g = go (add_cases nat_test (range s) e)
    where
      go : ((find nat_test e (range s) < length (range s)) × (add nat_test (range s) e ≡ range s))
          ⊎ ((length (range s) ≤ find nat_test e (range s)) × (add nat_test (range s) e ≡ range s ++ (e ∷ []))) → e ≤ s
      go (inl p) =
          let x : find nat_test e (range s) < s = rw (length_range s) at p.0 in
          omega (arith, range_at s (find nat_test e (range s)) x, find_at nat_test zero e (range s) p.0)
      go (inr p) =
          let g' : Extends zero (range s ++ (e ∷ [])) (range n) = rw p.1 at g in
          let m : length (range s) < length (range s ++ (e ∷ [])) = omega (arith, length-append (range s) (e ∷ [])) in
          let b : length (range s) < n = omega (arith, g'.longer, length_range n) in
          omega (arith, length_range s, sym (range_at n (length (range s)) b) ∙ g'.keeps (length (range s)) m ∙ get_or-append_seam (range s) e [] zero)

  columns : (n p s : ℕ) → Extends zero (add_to nat_test A k (range s) p) (range n) → (c : ℕ) → c ≤ k → (a : ℕ) → a < c → A.step p a ≤ across k M p s a
  unfolding add_to
  columns n p s g zero h a b = absurd (not-suc-le-zero b)
  columns n p s g (suc c) h a b = go (lt_cases a c) (columns n p s g c (omega arith))
    where
      last : ((a : ℕ) → a < c → A.step p a ≤ across k M p s a) → Extends zero (add nat_test (range (across k M p s c)) (A.step p c)) (range n)
      last f = rw (add_to_range p s c f) at (extends_trans zero (add_to_more p (range s) (suc c) k h) g)

      go : LtCases a c → ((a : ℕ) → a < c → A.step p a ≤ across k M p s a) → A.step p a ≤ across k M p s a
      go (inl q) f = f a q.0
      go (inr q) f = let z : a ≡ c = omega arith in rw z (fits n (across k M p s c) (A.step p c) (last f))

  -- the test as far as the states below p
  record Upto (p : ℕ) : Type 0 where
    list : listing nat_test A k p ≡ range (seen k M p)
    before : (q : ℕ) → q < p → q < seen k M q
    next : (q c : ℕ) → q < p → c < k → A.step q c ≤ across k M q (seen k M q) c

  upto : Numbered k M → (p : ℕ) → p ≤ size M → Upto p
  unfolding listing seen
  upto N zero h = record { list = refl; before = λ q b. absurd (not-suc-le-zero b); next = λ q c b v. absurd (not-suc-le-zero b) }
  upto N (suc p) h = go (lt_cases p (seen k M p)) (upto N p (omega arith))
    where
      n : ℕ
      n = size M

      go : LtCases p (seen k M p) → Upto p → Upto (suc p)
      go (inr q) u =
          let l : length (listing nat_test A k p) ≡ seen k M p = ap length u.list ∙ length_range (seen k M p) in
          let s : range n ≡ listing nat_test A k p = sym N ∙ listing_stays nat_test A k p n (omega arith) (omega arith) in
          absurd (omega (arith, ap length s, length_range n))
      go (inl q) u = record {
        list = t ∙ add_to_range p (seen k M p) k cols;
        before = λ r b. early r b (lt_cases r p);
        next = λ r c b v. earlier r c b v (lt_cases r p);
      }
        where
          t : listing nat_test A k (suc p) ≡ add_to nat_test A k (range (seen k M p)) p
          t = ap (turn nat_test A k p) u.list ∙ turn_range p (seen k M p) q.0

          cols : (a : ℕ) → a < k → A.step p a ≤ across k M p (seen k M p) a
          cols = columns n p (seen k M p) (rw (N, t) at (listing_extends nat_test A k (suc p) n h)) k (le_refl k)

          early : (r : ℕ) → r < suc p → LtCases r p → r < seen k M r
          early r b (inl x) = u.before r x.0
          early r b (inr x) = let z : r ≡ p = omega arith in rw z q.0

          earlier : (r c : ℕ) → r < suc p → c < k → LtCases r p → A.step r c ≤ across k M r (seen k M r) c
          earlier r c b v (inl x) = u.next r c x.0 v
          earlier r c b v (inr x) = let z : r ≡ p = omega arith in rw z (cols c v)

  pub arrival_whole : Numbered k M → Arrival k M
  arrival_whole N =
      let u = upto N (size M) (le_refl (size M)) in
      record { before = u.before; next = u.next; all = sym (length_range (seen k M (size M))) ∙ ap length (sym u.list ∙ N) ∙ length_range (size M) }

-- ---- equivalent states

-- No two states are equivalent just when each state stands for its own class.
pub apart_classes : (k : ℕ) (M : Machine) → WellFormed k M → Reduced k M → classes k M ≡ range (size M)
apart_classes k M F a =
    ext_get_or zero (classes k M) (range (size M)) (classes_length k M F ∙ sym (length_range (size M))) λ p b.
    let h : p < size M = rw (classes_length k M F) at b in
    a (get_or (classes k M) p zero) p (le_trans (suc-le-suc (classes_low k M F p h)) h) h (classes_equivalent k M F p h) ∙ sym (range_at (size M) p h)

pub classes_apart : (k : ℕ) (M : Machine) → WellFormed k M → classes k M ≡ range (size M) → Reduced k M
classes_apart k M F e p q hp hq a =
    sym (ap (λ l. get_or l p zero) e ∙ range_at (size M) p hp) ∙ classes_whole k M F p q hp hq a ∙ ap (λ l. get_or l q zero) e ∙ range_at (size M) q hq
