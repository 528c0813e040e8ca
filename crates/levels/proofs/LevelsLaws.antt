-- Breadth-first search: how states are put in order with their levels, and that the first one with a move to an accepting state gives the distance.
use mathlib.Core.Path.{◌≡◌, refl, sym, ap, ◌∙◌}
use mathlib.Core.Bool.{Bool, true, false, false≢true}
use mathlib.Core.Logic.{◌⊎◌, inl, inr, ◌≢◌}
use mathlib.Core.List.{List, [], ◌∷◌, ◌++◌}
use Prim.Native.Nat.{ℕ, zero, suc, ◌+◌, ◌*◌, ◌≤◌, ◌<◌}
use native.Mathlib.Nat.{not-suc-le-zero, le_refl}
use native.Mathlib.Omega.{arith}
use lib.ListN.{length, get_or, set, length-set, length-append}
use lib.Seq.{get_or-set_same, get_or-set_other}
use lib.Dec.{eqb}
use Rattle.automata.specs.Booleans.{choose}
use Rattle.automata.specs.Basics.{LtCases, lt_cases, SameCases, same_cases, nat_test, pigeonhole}
use Rattle.automata.specs.Automaton.{Over, over_append, run, run_append}
use Rattle.automata.specs.Machine.{Machine, size, automaton}
use Rattle.automata.proofs.Live.{live_word, live_within}
use Rattle.automata.specs.Distance.{distance, Fewest}
use Rattle.automata.proofs.Distance.{fewest_one, distance_fewest}
use Rattle.std.specs.List.{list_any}
use Rattle.moves.specs.Holds.{Table, Holds, Row}
use Rattle.moves.specs.TableLaws.{move_inside, some_move, no_move}
use Rattle.levels.specs.Levels.{no_level, Order, Front, Kept, Spread, next, Behind, Near, Search, DistanceExactly}

-- ---- one row

-- Whether a move of state p leads to an accepting state.
module _ (m : ℕ) (ms bs : List ℕ) (p : ℕ) (row : List ℕ) (w : Row m ms bs p row) (r : Bool) (a : r ≡ list_any (λ t. eqb 1 (get_or ms t 0)) row) where
  pub row_found : r ≡ true → (i : ℕ) × (i < m) × (get_or ms (next m bs p i) 0 ≡ 1)
  row_found e = let (i, h, x) = some_move m ms bs p row w (λ t. eqb 1 (get_or ms t 0)) (sym a ∙ e) in (i, h, sym (nat_test.sound 1 (get_or ms (next m bs p i) 0) x))

  pub row_none : r ≡ false → (i : ℕ) → i < m → get_or ms (next m bs p i) 0 ≢ 1
  row_none e i h x = false≢true (sym (no_move m ms bs p row w (λ t. eqb 1 (get_or ms t 0)) (sym a ∙ e) i h) ∙ (rw x refl))

-- ---- one state more

-- State t has a level: its own, or it had none and has the new one. The places that were taken stay.
pub record Reached (n t level : ℕ) (ls qs : List ℕ) (k : ℕ) (gs rs : List ℕ) (r : ℕ) : Type 0 where
  pub front : Front n level gs rs r
  pub stays : (i : ℕ) → i < k → (i < r) × (get_or rs i 0 ≡ get_or qs i 0)
  pub seen : get_or gs t 0 < no_level
  pub kept : (q : ℕ) → (get_or gs q 0 ≡ get_or ls q 0) ⊎ ((q ≡ t) × (get_or ls q 0 ≡ no_level) × (get_or gs q 0 ≡ level))

-- Another number in the place k.
put : ℕ → ℕ → (ℕ → ℕ) → ℕ → ℕ
put k t f i = choose (eqb i k) (λ _. t) (λ _. f i)

put_cases : (k t : ℕ) (f : ℕ → ℕ) (i : ℕ) → ((i ≡ k) × (put k t f i ≡ t)) ⊎ ((i ≢ k) × (put k t f i ≡ f i))
unfolding put
put_cases k t f i = go (same_cases nat_test i k)
  where
    go : SameCases nat_test i k → ((i ≡ k) × (put k t f i ≡ t)) ⊎ ((i ≢ k) × (put k t f i ≡ f i))
    go (inl x) = inl (x.0, (rw x.1))
    go (inr x) = inr (x.0, (rw x.1))

-- The order has no more places than there are states,
pub order_room : (n : ℕ) (ls qs : List ℕ) (k : ℕ) → Order n ls qs k → k ≤ n
order_room n ls qs k o = pigeonhole n k (λ i. get_or qs i 0) o.inside o.one

module _ (n t level : ℕ) (ls qs : List ℕ) (k : ℕ) (F : Front n level ls qs k) (h : t < n) where
  abbrev at : ℕ → ℕ
  at i = get_or qs i 0

  -- a state in the order has a level
  has : (i : ℕ) → i < k → get_or ls (at i) 0 < no_level
  has i b = omega (arith, F.order.low i b, order_room n ls qs k F.order, F.few)

  pub reached_same : get_or ls t 0 < 65536 → get_or ls t 0 ≢ no_level → Reached n t level ls qs k ls qs k
  reached_same v d = record { front = F; stays = λ i b. (b, refl); seen = omega (arith, v, d); kept = λ q. inl refl }

  module _ (e : get_or ls t 0 ≡ no_level) where
    other : (i : ℕ) → i < k → at i ≢ t
    other i b z = let x : get_or ls t 0 < no_level = rw z at (has i b) in omega (arith, x, e)

    -- and one more where a state has no level.
    pub reached_room : k < n
    reached_room = pigeonhole n (suc k) (put k t at) (λ i b. inside i b (put_cases k t at i)) (λ i j a b z. one i j a b z (put_cases k t at i) (put_cases k t at j))
      where
        inside : (i : ℕ) → i < suc k → ((i ≡ k) × (put k t at i ≡ t)) ⊎ ((i ≢ k) × (put k t at i ≡ at i)) → put k t at i < n
        inside i b (inl x) = omega (arith, x.1, h)
        inside i b (inr x) = omega (arith, x.1, F.order.inside i (omega (arith, x.0)))

        one : (i j : ℕ) → i < suc k → j < suc k → put k t at i ≡ put k t at j → ((i ≡ k) × (put k t at i ≡ t)) ⊎ ((i ≢ k) × (put k t at i ≡ at i))
            → ((j ≡ k) × (put k t at j ≡ t)) ⊎ ((j ≢ k) × (put k t at j ≡ at j)) → i ≡ j
        one i j a b z (inl x) (inl y) = x.0 ∙ sym y.0
        one i j a b z (inl x) (inr y) = absurd (other j (omega (arith, y.0)) (sym (sym x.1 ∙ z ∙ y.1)))
        one i j a b z (inr x) (inl y) = absurd (other i (omega (arith, x.0)) (sym x.1 ∙ z ∙ y.1))
        one i j a b z (inr x) (inr y) = F.order.one i j (omega (arith, x.0)) (omega (arith, y.0)) (sym x.1 ∙ z ∙ y.1)

    abbrev gs : List ℕ
    gs = set ls t level

    abbrev rs : List ℕ
    rs = set qs k t

    place : (i : ℕ) → i < k → get_or rs i 0 ≡ at i
    place i b = get_or-set_other qs k i t 0 (λ z. omega arith)

    last : get_or rs k 0 ≡ t
    last = get_or-set_same qs k t 0 (omega (arith, reached_room, F.order.places))

    new : get_or gs t 0 ≡ level
    new = get_or-set_same ls t level 0 (omega (arith, h, F.order.levels))

    still : (q : ℕ) → q ≢ t → get_or gs q 0 ≡ get_or ls q 0
    still q d = get_or-set_other ls t q level 0 d

    level_old : (i : ℕ) → i < k → get_or gs (get_or rs i 0) 0 ≡ get_or ls (at i) 0
    level_old i b = ap (λ q. get_or gs q 0) (place i b) ∙ still (at i) (other i b)

    level_new : get_or gs (get_or rs k 0) 0 ≡ level
    level_new = ap (λ q. get_or gs q 0) last ∙ new

    -- a place is an old one or the new one
    abbrev Where : ℕ → Type 0
    Where i = (i < k) ⊎ (i ≡ k)

    where_is : (i : ℕ) → i < k + 1 → Where i
    where_is i b = go (lt_cases i k)
      where
        go : LtCases i k → Where i
        go (inl x) = inl x.0
        go (inr x) = inr (omega (arith, x.0, b))

    order_new : Order n gs rs (k + 1)
    order_new = record {
      levels = rw length-set F.order.levels;
      places = rw length-set F.order.places;
      inside = λ i b. inside i (where_is i b);
      one = λ i j a b z. one i j z (where_is i a) (where_is j b);
      low = λ i b. low i (where_is i b);
      all = λ q b v. all q b v (same_cases nat_test q t);
      rising = λ i j a b. rising i j a (where_is i (omega (arith, a, b))) (where_is j b);
    }
      where
        inside : (i : ℕ) → Where i → get_or rs i 0 < n
        inside i (inl x) = rw (place i x) (F.order.inside i x)
        inside i (inr x) = rw (x, last) h

        one : (i j : ℕ) → get_or rs i 0 ≡ get_or rs j 0 → Where i → Where j → i ≡ j
        one i j z (inl x) (inl y) = F.order.one i j x y (sym (place i x) ∙ z ∙ place j y)
        one i j z (inl x) (inr y) = absurd (other i x (sym (place i x) ∙ z ∙ (rw y last)))
        one i j z (inr x) (inl y) = absurd (other j y (sym (place j y) ∙ sym z ∙ (rw x last)))
        one i j z (inr x) (inr y) = x ∙ sym y

        low : (i : ℕ) → Where i → get_or gs (get_or rs i 0) 0 ≤ i
        low i (inl x) = omega (arith, level_old i x, F.order.low i x)
        low i (inr x) = rw x (omega (arith, level_new, F.low))

        all : (q : ℕ) → q < n → get_or gs q 0 < no_level → SameCases nat_test q t → (i : ℕ) × (i < k + 1) × (get_or rs i 0 ≡ q)
        all q b v (inl x) = (k, omega arith, last ∙ sym x.0)
        all q b v (inr x) = let (i, y, z) = F.order.all q b (omega (arith, v, still q x.0)) in (i, omega (arith, y), place i y ∙ z)

        rising : (i j : ℕ) → i ≤ j → Where i → Where j → get_or gs (get_or rs i 0) 0 ≤ get_or gs (get_or rs j 0) 0
        rising i j a (inl x) (inl y) = omega (arith, level_old i x, level_old j y, F.order.rising i j a y)
        rising i j a (inl x) (inr y) = rw y (omega (arith, level_old i x, level_new, F.high i x))
        rising i j a (inr x) (inl y) = absurd (omega (arith, a, x, y))
        rising i j a (inr x) (inr y) = let z : i ≡ j = x ∙ sym y in rw z (le_refl (get_or gs (get_or rs j 0) 0))

    pub reached_new : Reached n t level ls qs k (set ls t level) (set qs k t) (k + 1)
    reached_new = record {
      front = record { order = order_new; few = F.few; low = omega (arith, F.low); high = λ i b. high i (where_is i b) };
      stays = λ i b. (omega (arith, b), place i b);
      seen = omega (arith, new, F.low, reached_room, F.few);
      kept = λ q. kept q (same_cases nat_test q t);
    }
      where
        high : (i : ℕ) → Where i → get_or gs (get_or rs i 0) 0 ≤ level
        high i (inl x) = omega (arith, level_old i x, F.high i x)
        high i (inr x) = rw x (omega (arith, level_new))

        kept : (q : ℕ) → SameCases nat_test q t → (get_or gs q 0 ≡ get_or ls q 0) ⊎ ((q ≡ t) × (get_or ls q 0 ≡ no_level) × (get_or gs q 0 ≡ level))
        kept q (inl x) = inr (x.0, (rw x.0 e), (rw x.0 new))
        kept q (inr x) = inl (still q x.0)

-- ---- the states of a row

module _ (n : ℕ) (bs : List ℕ) (at level : ℕ) (ls qs : List ℕ) (k : ℕ) where
  -- The next move leads to t.
  pub spread_next : (i t : ℕ) (gs rs : List ℕ) (r : ℕ) (hs os : List ℕ) (x : ℕ) → Spread n bs at i level ls qs k gs rs r → t ≡ get_or bs (at + i) 0 → Reached n t level gs rs r hs os x
      → Spread n bs at (i + 1) level ls qs k hs os x
  spread_next i t gs rs r hs os x u e w = record { front = w.front; stays = stays; seen = λ j h. seen j h (lt_cases j i); kept = λ q. kept q (w.kept q) (u.kept q) }
    where
      stays : (j : ℕ) → j < k → (j < x) × (get_or os j 0 ≡ get_or qs j 0)
      stays j h = let (a, y) = u.stays j h in let (b, z) = w.stays j a in (b, z ∙ y)

      few : level < no_level
      few = omega (arith, w.front.low, order_room n hs os x w.front.order, w.front.few)

      still : (q : ℕ) → get_or gs q 0 < no_level → (get_or hs q 0 ≡ get_or gs q 0) ⊎ ((q ≡ t) × (get_or gs q 0 ≡ no_level) × (get_or hs q 0 ≡ level)) → get_or hs q 0 < no_level
      still q b (inl y) = omega (arith, y, b)
      still q b (inr y) = omega (arith, y.2, few)

      seen : (j : ℕ) → j < i + 1 → LtCases j i → get_or hs (get_or bs (at + j) 0) 0 < no_level
      seen j h (inl y) = still _ (u.seen j y.0) (w.kept _)
      seen j h (inr y) = let z : j ≡ i = omega arith in rw (z, ← e) w.seen

      kept : (q : ℕ) → (get_or hs q 0 ≡ get_or gs q 0) ⊎ ((q ≡ t) × (get_or gs q 0 ≡ no_level) × (get_or hs q 0 ≡ level)) → Kept bs at i level ls gs q → Kept bs at (i + 1) level ls hs q
      kept q (inl y) (inl z) = inl (y ∙ z)
      kept q (inl y) (inr (a, b, (j, h, c))) = inr (a, y ∙ b, (j, omega arith, c))
      kept q (inr (a, b, c)) (inl z) = inr (sym z ∙ b, c, (i, omega arith, sym e ∙ sym a))
      kept q (inr (a, b, c)) (inr z) = absurd (omega (arith, b, z.1, few))

-- ---- the state in place h is passed

module _ (m : ℕ) (ms bs : List ℕ) (t : Table 120 m ms bs) (s h : ℕ) (ls qs : List ℕ) (k : ℕ) (S : Search m ms bs s h ls qs k) (b : h < k) where
  abbrev p : ℕ
  p = get_or qs h 0

  abbrev up : ℕ
  up = get_or ls p 0 + 1

  pub head_inside : get_or qs h 0 < length ms
  head_inside = S.order.inside h b

  pub head_low : get_or ls (get_or qs h 0) 0 < length ms
  head_low = omega (arith, S.order.low h b, order_room (length ms) ls qs k S.order)

  module _ (a : (c : ℕ) → c < m → get_or ms (next m bs p c) 0 ≢ 1) (gs rs : List ℕ) (r : ℕ) (w : Spread (length ms) bs (p * m) m up ls qs k gs rs r) where
    same : (q x : ℕ) → get_or ls q 0 ≡ x → x < no_level → get_or gs q 0 ≡ x
    same q x z v = go (w.kept q)
      where
        go : Kept bs (p * m) m up ls gs q → get_or gs q 0 ≡ x
        go (inl y) = y ∙ z
        go (inr y) = absurd (omega (arith, y.0, z, v))

    -- the level of a state that was in the order
    old : (i : ℕ) → i < k → get_or gs (get_or rs i 0) 0 ≡ get_or ls (get_or qs i 0) 0
    old i x = ap (λ q. get_or gs q 0) (w.stays i x).1 ∙ same (get_or qs i 0) _ refl (omega (arith, S.order.low i x, order_room (length ms) ls qs k S.order, t.states_most))

    pub search_pass : Search m ms bs s (h + 1) gs rs r
    search_pass = record {
      order = w.front.order;
      start = same s 0 S.start (omega arith);
      only = λ q x z. only q x z (w.kept q);
      back = λ q j x v z. back q j x v z (w.kept q);
      near = near;
      passed = λ i c x y v. passed i c x y v (lt_cases i h);
    }
      where
        only : (q : ℕ) → q < length ms → get_or gs q 0 ≡ 0 → Kept bs (p * m) m up ls gs q → q ≡ s
        only q x z (inl y) = S.only q x (sym y ∙ z)
        only q x z (inr y) = absurd (omega (arith, y.1, z))

        back : (q j : ℕ) → q < length ms → suc j < no_level → get_or gs q 0 ≡ suc j → Kept bs (p * m) m up ls gs q → Behind m ms bs gs q j
        back q j x v z (inl y) = let (o, i, f, g, l, d) = S.back q j x v (sym y ∙ z) in (o, i, f, g, same o j l (omega (arith, v)), d)
        back q j x v z (inr (y, l, (i, g, d))) = let c : get_or ls p 0 ≡ j = omega (arith, l, z) in (p, i, head_inside, g, same p j c (omega (arith, v)), d)

        near : h + 1 < r → (i : ℕ) → i < r → get_or gs (get_or rs i 0) 0 ≤ suc (get_or gs (get_or rs (h + 1) 0) 0)
        near x i y = omega (arith, w.front.high i y, old h b, w.front.order.rising h (h + 1) (omega arith) x)

        here : (c : ℕ) → c < m → Near m ms bs gs p c
        here c v =
            let q : ℕ = next m bs p c in
            let i : (j : ℕ) × (j < r) × (get_or rs j 0 ≡ q) = w.front.order.all q (move_inside _ _ _ _ t p c head_inside v) (w.seen c v) in
            let x : get_or gs q 0 ≤ up = rw i.2 at (w.front.high i.0 i.1) in
            (omega (arith, x, same p (get_or ls p 0) refl (omega (arith, head_low, t.states_most))), a c v)

        before : (i c : ℕ) → i < h → c < m → Near m ms bs gs (get_or qs i 0) c
        before i c x v =
            let (f, g) = S.passed i c x (omega (arith, x, b)) v in
            let y : get_or ls (get_or qs i 0) 0 < length ms = omega (arith, S.order.low i (omega (arith, x, b)), order_room (length ms) ls qs k S.order, x, b) in (
              omega (arith, f, same (get_or qs i 0) _ refl (omega (arith, y, t.states_most)), same (next m bs (get_or qs i 0) c) _ refl (omega (arith, f, y, t.states_most))),
              g,
            )

        passed : (i c : ℕ) → i < h + 1 → i < r → c < m → LtCases i h → Near m ms bs gs (get_or rs i 0) c
        passed i c x y v (inl z) = rw (w.stays i (omega (arith, z.0, b))).1 (before i c z.0 v)
        passed i c x y v (inr z) = let j : i ≡ h = omega (arith, x, z.0) in rw (j, (w.stays h b).1) (here c v)

-- ---- the search begins

-- Only s has a level, and the first place.
pub search_start : (m : ℕ) (ms bs : List ℕ) (s : ℕ) (ls qs : List ℕ) → s < length ms → length ms ≤ length ls → length ms ≤ length qs → ((q : ℕ) → q < length ms → get_or ls q 0 ≡ no_level) → Search m ms bs s 0 (set ls s 0) (set qs 0 s) 1
search_start m ms bs s ls qs h g l u = record {
  order = record {
    levels = rw length-set g;
    places = rw length-set l;
    inside = λ i b. rw (place i b) h;
    one = λ i j a b z. omega (arith, a, b);
    low = λ i b. omega (arith, level i b);
    all = λ q b v. (0, omega arith, first ∙ sym (seen q b v (same_cases nat_test q s)));
    rising = λ i j a b. omega (arith, level i (omega (arith, a, b)), level j b);
  };
  start = here;
  only = λ q b e. only q b e (same_cases nat_test q s);
  back = λ q j b v e. absurd (none q j b v e (same_cases nat_test q s));
  near = λ x i b. omega (arith, level i b);
  passed = λ i c b. absurd (not-suc-le-zero b);
}
  where
    here : get_or (set ls s 0) s 0 ≡ 0
    here = get_or-set_same ls s 0 0 (omega (arith, h, g))

    first : get_or (set qs 0 s) 0 0 ≡ s
    first = get_or-set_same qs 0 s 0 (omega (arith, l, h))

    place : (i : ℕ) → i < 1 → get_or (set qs 0 s) i 0 ≡ s
    place i b = let z : i ≡ 0 = omega arith in rw z first

    level : (i : ℕ) → i < 1 → get_or (set ls s 0) (get_or (set qs 0 s) i 0) 0 ≡ 0
    level i b = rw (place i b) here

    other : (q : ℕ) → q < length ms → q ≢ s → get_or (set ls s 0) q 0 ≡ no_level
    other q b d = get_or-set_other ls s q 0 0 d ∙ u q b

    seen : (q : ℕ) → q < length ms → get_or (set ls s 0) q 0 < no_level → SameCases nat_test q s → q ≡ s
    seen q b v (inl x) = x.0
    seen q b v (inr x) = absurd (omega (arith, v, other q b x.0))

    only : (q : ℕ) → q < length ms → get_or (set ls s 0) q 0 ≡ 0 → SameCases nat_test q s → q ≡ s
    only q b e (inl x) = x.0
    only q b e (inr x) = absurd (omega (arith, e, other q b x.0))

    none : (q j : ℕ) → q < length ms → suc j < no_level → get_or (set ls s 0) q 0 ≡ suc j → SameCases nat_test q s → ⊥
    none q j b v e (inl x) = let z : get_or (set ls s 0) s 0 ≡ suc j = rw x.0 at e in omega (arith, z, here)
    none q j b v e (inr x) = omega (arith, e, v, other q b x.0)

-- ---- words

-- What the words need: the states of the levels below d are passed.
record Levels (m : ℕ) (ms bs : List ℕ) (s d : ℕ) (ls : List ℕ) : Type 0 where
  start : get_or ls s 0 ≡ 0
  only : (q : ℕ) → q < length ms → get_or ls q 0 ≡ 0 → q ≡ s
  back : (q j : ℕ) → q < length ms → suc j < no_level → get_or ls q 0 ≡ suc j → Behind m ms bs ls q j
  passed : (q c : ℕ) → q < length ms → c < m → get_or ls q 0 < d → Near m ms bs ls q c

module _ (m : ℕ) (ms bs : List ℕ) (t : Table 120 m ms bs) (s h : ℕ) (ls qs : List ℕ) (k : ℕ) (S : Search m ms bs s h ls qs k) where
  levels_to : (d : ℕ) → d ≤ length ms → ((i : ℕ) → i < k → get_or ls (get_or qs i 0) 0 < d → i < h) → Levels m ms bs s d ls
  levels_to d b f = record { start = S.start; only = S.only; back = S.back; passed = passed }
    where
      passed : (q c : ℕ) → q < length ms → c < m → get_or ls q 0 < d → Near m ms bs ls q c
      passed q c x v y =
          let (i, a, z) = S.order.all q x (omega (arith, y, b, t.states_most)) in
          let near : Near m ms bs ls (get_or qs i 0) c = S.passed i c (f i a (rw z y)) a v in
          rw z at near

  -- Before place h are all states of lower levels,
  levels_head : (b : h < k) → Levels m ms bs s (get_or ls (get_or qs h 0) 0) ls
  levels_head b = levels_to (get_or ls (get_or qs h 0) 0) (omega (arith, head_low m ms bs t s h ls qs k S b)) (λ i a y. go i a y (lt_cases i h))
    where
      go : (i : ℕ) → i < k → get_or ls (get_or qs i 0) 0 < get_or ls (get_or qs h 0) 0 → LtCases i h → i < h
      go i a y (inl x) = x.0
      go i a y (inr x) = absurd (omega (arith, y, S.order.rising h i x.0 a))

  -- and behind the last place all states that are reached.
  levels_end : k ≤ h → Levels m ms bs s (length ms) ls
  levels_end b = levels_to (length ms) (le_refl (length ms)) (λ i a y. omega (arith, a, b))

module _ (m : ℕ) (ms bs : List ℕ) (s d : ℕ) (ls : List ℕ) (S : Levels m ms bs s d ls) (t : Table 120 m ms bs) (M : Machine) (H : Holds m ms bs M) where
  -- A word of j columns leads to q.
  abbrev Led : ℕ → ℕ → Type 0
  Led q j = (w : List ℕ) × Over m w × (length w ≡ j) × (run (automaton M) s w ≡ q)

  led_on : (p i j : ℕ) → p < length ms → i < m → Led p j → Led (next m bs p i) (suc j)
  led_on p i j h v (w, o, k, z) =
      (w ++ (i ∷ []), over_append m w (i ∷ []) o (v, tt), omega (arith, length-append w (i ∷ []), k), run_append (automaton M) s w (i ∷ []) ∙ (ap (λ x. (automaton M).step x i) z ∙ H.step p i h v))

  -- To a state at level j leads a word of j columns.
  led : (j q : ℕ) → q < length ms → j < no_level → get_or ls q 0 ≡ j → Led q j
  led zero q h b e = ([], tt, refl, sym (S.only q h e))
  led (suc j) q h b e = let (p, i, f, g, l, r) = S.back q j h b e in rw r at (led_on p i j f g (led j p f (omega (arith, b)) l))

  -- From a state that does not accept, no word is accepted whose columns and the state's level are d at most.
  none_yet : (w : List ℕ) (q : ℕ) → q < length ms → get_or ms q 0 ≢ 1 → get_or ls q 0 + length w ≤ d → Over m w → (automaton M).accepting (run (automaton M) q w) ≡ true → ⊥
  none_yet [] q h n b o e = n (sym (nat_test.sound 1 (get_or ms q 0) (sym (H.accepting q h) ∙ e)))
  none_yet (c ∷ w) q h n b o e =
      let (f, g) = S.passed q c h o.0 (omega arith) in
      none_yet w (next m bs q c) (move_inside _ _ _ _ t q c h o.0) g (omega arith) o.1 (rw (H.step q c h o.0) at e)

  fewest : s < length ms → get_or ms s 0 ≢ 1 → d < no_level → (p i : ℕ) × (p < length ms) × (i < m) × (get_or ls p 0 ≡ d) × (get_or ms (next m bs p i) 0 ≡ 1) → Fewest m M s (d + 1)
  fewest h n b (p, i, f, g, l, y) = record { word = word; least = λ w o e. least w o e (lt_cases d (length w)) }
    where
      word : (w : List ℕ) × Over m w × (length w ≡ d + 1) × ((automaton M).accepting (run (automaton M) s w) ≡ true)
      word =
          let (w, o, k, z) = led_on p i d f g (led d p f b l) in
          (w, o, omega (arith, k), rw (z, H.accepting (next m bs p i) (move_inside _ _ _ _ t p i f g), y) (nat_test.whole 1))

      least : (w : List ℕ) → Over m w → (automaton M).accepting (run (automaton M) s w) ≡ true → LtCases d (length w) → d + 1 ≤ length w
      least w o e (inl x) = omega arith
      least w o e (inr x) = absurd (none_yet w s h n (omega (arith, S.start, x.0)) o e)

-- ---- the search ends

module _ (m : ℕ) (ms bs : List ℕ) (t : Table 120 m ms bs) (s h : ℕ) (ls qs : List ℕ) (k : ℕ) (S : Search m ms bs s h ls qs k) (b : s < length ms) (n : get_or ms s 0 ≢ 1) where
  -- A move of the state in place h leads to an accepting one: it is one letter more than its level away,
  pub search_found : (x : h < k) → (i : ℕ) × (i < m) × (get_or ms (next m bs (get_or qs h 0) i) 0 ≡ 1) → DistanceExactly m ms bs s (get_or ls (get_or qs h 0) 0 + 1)
  search_found x a = record { most = omega (arith, head_low m ms bs t s h ls qs k S x); exact = exact }
    where
      p : ℕ
      p = get_or qs h 0

      d : ℕ
      d = get_or ls p 0

      found : (o i : ℕ) × (o < length ms) × (i < m) × (get_or ls o 0 ≡ d) × (get_or ms (next m bs o i) 0 ≡ 1)
      found = let (i, v, y) = a in (p, i, head_inside m ms bs t s h ls qs k S x, v, refl, y)

      exact : (M : Machine) → Holds m ms bs M → (w : List ℕ) → Over m w → (automaton M).accepting (run (automaton M) s w) ≡ true → d + 1 ≡ distance m M s
      exact M H w o z =
          fewest_one m M s (d + 1) (distance m M s)
          (fewest m ms bs s d ls (levels_head m ms bs t s h ls qs k S x) t M H b n (omega (arith, head_low m ms bs t s h ls qs k S x, t.states_most)) found)
          (distance_fewest m M H.formed s (omega (arith, H.states)) w o z)

  -- and one is found where there is one.
  pub search_none : k ≤ h → DistanceExactly m ms bs s (length ms)
  search_none x = record { most = le_refl (length ms); exact = λ M H w o z. absurd (none M H w o z) }
    where
      S' : Levels m ms bs s (length ms) ls
      S' = levels_end m ms bs t s h ls qs k S x

      none : (M : Machine) → Holds m ms bs M → (w : List ℕ) → Over m w → (automaton M).accepting (run (automaton M) s w) ≡ true → ⊥
      none M H w o z =
          let k : s < size M = omega (arith, H.states) in
          let (u, v, l, f) = live_within m M H.formed s k (live_word m M H.formed w s k o z) in
          none_yet m ms bs s (length ms) ls S' t M H u s b n (omega (arith, S'.start, l, H.states)) v f

-- ---- all states

-- The states below p have their numbers.
pub record DistancesTo (m : ℕ) (ms bs rs : List ℕ) (p : ℕ) : Type 0 where
  pub long : length rs ≡ 120
  pub each : (q : ℕ) → q < p → get_or ms q 0 ≡ 0 → DistanceExactly m ms bs q (get_or rs q 0)
