-- Laws of one state that arrives, and of one row.
use mathlib.Core.Path.{◌≡◌, refl, sym, ap, ◌∙◌}
use mathlib.Core.List.{List}
use Prim.Native.Nat.{ℕ, suc, max, ◌+◌, ◌≤◌, ◌<◌}
use native.Mathlib.Omega.{arith}
use native.Mathlib.Numerals.{add-one}
use lib.ListN.{length, get_or, take}
use Rattle.automata.specs.Basics.{nat_test, pigeonhole}
use Rattle.automata.specs.Listing.{add, add_all, add_distinct, add_to}
use Rattle.numbering.specs.Arrival.{Roll, Arrived, Rowed}
use Rattle.numbering.specs.Order as Order
use Rattle.numbering.proofs.OrderLaws.{ordered_length, ordered_at}

-- ---- the lists of a numbering are those of one that arrives

pub rolls : {count : ℕ} {o u : List ℕ} → Roll 120 count o u → Order.Roll 120 count u o
rolls R = record {
  room = omega (arith, R.order_long);
  few = omega (arith, R.number_long);
  bytes = omega arith;
  within = R.within;
  below = λ i h. rw R.number_long (R.below i h);
  back = R.back;
}

module _ {count : ℕ} {o u : List ℕ} (R : Roll 120 count o u) where
  abbrev l : List ℕ
  l = take count o

  pub order_length : length (take count o) ≡ count
  order_length = ordered_length (rolls R)

  pub order_at : (i : ℕ) → i < count → get_or (take count o) i 0 ≡ get_or o i 0
  order_at i h = ordered_at (rolls R) i h

  -- there is room: no more states than 120 can stand in the order
  pub arrive_fits : (s : ℕ) → s < 120 → length (add nat_test (take count o) s) ≤ 120
  arrive_fits s hs = pigeonhole 120 (length (add nat_test l s)) (λ i. get_or (add nat_test l s) i 0)
      (add_all nat_test 0 l s (λ q. q < 120) (λ i h. rw (order_at i (inn i h)) (R.below i (inn i h))) hs) (add_distinct nat_test 0 l s apart)
    where
      inn : (i : ℕ) → i < length l → i < count
      inn i h = rw order_length at h

      apart : (i j : ℕ) → i < length l → j < length l → get_or l i 0 ≡ get_or l j 0 → i ≡ j
      apart i j hi hj e =
          let e' : get_or o i 0 ≡ get_or o j 0 = sym (order_at i (inn i hi)) ∙ e ∙ order_at j (inn j hj) in
          sym (R.back i (inn i hi)) ∙ ap (λ v. get_or u v 0) e' ∙ R.back j (inn j hj)

  pub arrived : (s x : ℕ) (o' u' : List ℕ) → Order.Numbered 120 count s o u' o' x → length o' ≡ 120 → length u' ≡ 120 → (r : ℕ) → r ≡ max count (suc x) → Arrived 120 count s o u o' u' r
  arrived s x o' u' N eo eu r e = rw e record {
    roll = record { order_long = eo; number_long = eu; within = N.roll.within; below = λ i h. rw eu at (N.roll.below i h); back = N.roll.back };
    listed = N.listed;
  }

-- ---- one row

pub rowed_start : {most count : ℕ} {o u : List ℕ} → Roll most count o u → (at : ℕ) (t : List ℕ) → Rowed most at 0 count t o u o u count
unfolding add_to
rowed_start R at t = record { roll = R; listed = λ A s e. refl }

pub rowed_next : (most at c count : ℕ) (t o₀ u₀ o u : List ℕ) (r : ℕ) → Rowed most at c count t o₀ u₀ o u r → (s : ℕ) → s ≡ get_or t (at + c) 0
    → (o' u' : List ℕ) (r' : ℕ) → Arrived most r s o u o' u' r' → Rowed most at (c + 1) count t o₀ u₀ o' u' r'
unfolding add_to
rowed_next most at c count t o₀ u₀ o u r U s e o' u' r' N = rw (add-one c) record {
  roll = N.roll;
  listed = λ A p f. N.listed ∙ ap (λ y. add nat_test y s) (U.listed A p (λ a h. f a (omega arith))) ∙ ap (add nat_test (add_to nat_test A c (take count o₀) p)) (e ∙ sym (f c (omega arith)));
}
