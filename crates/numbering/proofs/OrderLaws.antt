-- Laws of one that arrives: the search for its number, and its place in the order.
use mathlib.Core.Path.{◌≡◌, sym, ap, ◌∙◌}
use mathlib.Core.Logic.{◌⊎◌, inl, inr, ◌≢◌}
use mathlib.Core.List.{List, [], ◌∷◌, ◌++◌}
use Rattle.std.specs.Prelude.{None}
use Prim.Native.Nat.{ℕ, suc, max, ◌≤◌, ◌<◌}
use native.Mathlib.Nat.{le_refl}
use native.Mathlib.Omega.{arith}
use lib.ListN.{length, get_or, take, set, length-append, length-set}
use lib.Seq.{get_or-take, get_or-set_same, get_or-set_other, take-suc-set, length-take-le}
use Rattle.automata.specs.Basics.{LtCases, lt_cases, nat_test, find, find_at}
use Rattle.automata.specs.Listing.{add, add_cases, find_in}
use Rattle.numbering.specs.Order.{Roll, NumberOf, Numbered, Arrived}

-- ---- the order as a list

module _ {most m : ℕ} {numbers order : List ℕ} (R : Roll most m numbers order) where
  pub ordered_length : length (take m order) ≡ m
  ordered_length = length-take-le m order (omega (arith, R.room, R.within))

  pub ordered_at : (i : ℕ) → i < m → get_or (take m order) i 0 ≡ get_or order i 0
  ordered_at i h = get_or-take m order i 0 h

  -- ---- the search for a number

  -- where its place in the order is another's, or none,
  pub number_none : (d x : ℕ) → x ≡ get_or numbers d 0 → (x < m → get_or order x 0 ≢ d) → NumberOf m d order None
  number_none d x e h i b j =
      let z : x ≡ i = e ∙ ap (λ y. get_or numbers y 0) (sym j) ∙ R.back i b in
      h (rw z b) (ap (λ y. get_or order y 0) z ∙ j)

  -- ---- one arrives

  -- what the order does with one that has a number,
  pub add_old : (d x : ℕ) → x < m → get_or order x 0 ≡ d → add nat_test (take m order) d ≡ take m order
  add_old d x h e = go (add_cases nat_test (take m order) d)
    where
      l : List ℕ
      l = take m order

      go : ((find nat_test d l < length l) × (add nat_test l d ≡ l)) ⊎ ((length l ≤ find nat_test d l) × (add nat_test l d ≡ l ++ (d ∷ []))) → add nat_test l d ≡ l
      go (inl p) = p.1
      go (inr p) = absurd (omega (arith, find_in nat_test 0 d l (x, rw ordered_length h, ordered_at x h ∙ e), p.0))

  -- and with one that has none
  pub add_new : (d : ℕ) → NumberOf m d order None → add nat_test (take m order) d ≡ take m order ++ (d ∷ [])
  add_new d N = go (add_cases nat_test (take m order) d)
    where
      l : List ℕ
      l = take m order

      go : ((find nat_test d l < length l) × (add nat_test l d ≡ l)) ⊎ ((length l ≤ find nat_test d l) × (add nat_test l d ≡ l ++ (d ∷ []))) → add nat_test l d ≡ l ++ (d ∷ [])
      go (inl p) =
          let b : find nat_test d l < m = rw ordered_length at p.0 in
          absurd (N (find nat_test d l) b (sym (ordered_at (find nat_test d l) b) ∙ find_at nat_test 0 d l p.0))
      go (inr p) = p.1

  pub arrive_old : (d x : ℕ) → x < m → get_or order x 0 ≡ d → Numbered most m d order numbers order x
  arrive_old d x h e =
      let z : max m (suc x) ≡ m = omega arith in
      record {
        low = omega arith;
        listed = rw z (sym (add_old d x h e));
        place = e;
        roll = rw z R;
      }

  pub arrive_full : (d : ℕ) → NumberOf m d order None → most ≤ m → Arrived most m d order numbers order None
  arrive_full d N b = rw (add_new d N) (omega (arith, length-append (take m order) (d ∷ []), ordered_length))

  pub arrive_new : (d : ℕ) → NumberOf m d order None → m < most → d < length numbers → Numbered most m d order (set numbers d m) (set order m d) m
  arrive_new d N b hd =
      let z : max m (suc m) ≡ suc m = omega arith in
      record {
        low = le_refl m;
        listed = rw z (take-suc-set order m d (omega (arith, R.room)) ∙ sym (add_new d N));
        place = place;
        roll = rw z record {
          room = omega (arith, R.room, length-set order m d);
          few = rw (length-set numbers d m) R.few;
          bytes = R.bytes;
          within = b;
          below = λ i v. rw (length-set numbers d m) (below i (lt_cases i m) (omega arith));
          back = λ i v. back i (lt_cases i m) (omega arith);
        };
      }
    where
      place : get_or (set order m d) m 0 ≡ d
      place = get_or-set_same order m d 0 (omega (arith, R.room))

      early : (i : ℕ) → i < m → get_or (set order m d) i 0 ≡ get_or order i 0
      early i v = get_or-set_other order m i d 0 (omega arith)

      below : (i : ℕ) → LtCases i m → i ≤ m → get_or (set order m d) i 0 < length numbers
      below i (inl v) u = rw (early i v.0) (R.below i v.0)
      below i (inr v) u = let j : i ≡ m = omega arith in rw (j, place) hd

      back : (i : ℕ) → LtCases i m → i ≤ m → get_or (set numbers d m) (get_or (set order m d) i 0) 0 ≡ i
      back i (inl v) u = rw (early i v.0) (get_or-set_other numbers d (get_or order i 0) m 0 (N i v.0) ∙ R.back i v.0)
      back i (inr v) u = let j : i ≡ m = omega arith in rw (j, place) (get_or-set_same numbers d m 0 hd)
