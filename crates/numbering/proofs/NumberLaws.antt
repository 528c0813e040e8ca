-- Laws of the numbering as a whole: turn by turn it is the listing of the states that letters reach.
use mathlib.Core.Path.{◌≡◌, refl, sym, ap, ◌∙◌}
use mathlib.Core.Logic.{◌⊎◌, inl, inr}
use mathlib.Core.List.{List}
use Prim.Native.Nat.{ℕ, zero, suc, ◌+◌, ◌-◌, ◌*◌, ◌≤◌, ◌<◌}
use native.Mathlib.Nat.{suc-mul, mul-le-mul_right}
use native.Mathlib.Omega.{arith}
use native.Mathlib.Numerals.{add-one}
use lib.ListN.{length, get_or, take, drop, replicate, length-drop}
use lib.Seq.{get_or-take, get_or-drop, length-take-le}
use Rattle.automata.specs.Automaton.{Automaton, over_more}
use Rattle.automata.specs.Basics.{nat_test}
use Rattle.automata.specs.Listing.{add_to, add_to_extends, turn, turn_cases, listing, listed, listing_stays, listing_bound}
use Rattle.automata.specs.Machine.{Machine, size, automaton, WellFormed, run_inside}
use Rattle.automata.specs.Table.{ClosedTable, table_size, table_step, table_formed}
use Rattle.numbering.specs.Arrival.{kept_machine, row_place, LetterRow, Roll, Row, Rowed, Arranged}
use Rattle.numbering.proofs.ArrivalLaws.{order_length, order_at}

-- After i turns `count` states have numbers.
pub record Turns (n m : ℕ) (t o u : List ℕ) (i count : ℕ) : Type 0 where
  pub roll : Roll 120 count o u
  pub turns : i ≤ count
  pub done : take count o ≡ listing nat_test (automaton (kept_machine n m t)) m i

pub roll_start : Roll 120 1 (replicate 120 0) (replicate 120 0)
roll_start = record {
  order_long = refl;
  number_long = refl;
  within = omega arith;
  below = λ i h. let z : i ≡ 0 = omega arith in rw z (omega arith);
  back = λ i h. let z : i ≡ 0 = omega arith in rw z refl;
}

pub turns_start : (n m : ℕ) (t o u : List ℕ) (k : ℕ) → (o ≡ replicate 120 0) × (u ≡ replicate 120 0) × (k ≡ 1) → Turns n m t o u 0 k
unfolding listing
turns_start n m t o u k e = rw (e.0, e.1, e.2) (record { roll = roll_start; turns = omega arith; done = refl })

module _ (n m : ℕ) (t : List ℕ) (C : ClosedTable 120 n (suc m) t) where
  abbrev M : Machine
  M = kept_machine n m t

  abbrev A : Automaton ℕ
  A = automaton (kept_machine n m t)

  formed : WellFormed (suc m) M
  formed = table_formed 120 n (suc m) t C

  -- what letters reach is a state
  pub listing_below : (j i : ℕ) → i < length (listing nat_test A m j) → get_or (listing nat_test A m j) i 0 < n
  listing_below j i h =
      let r = (listed nat_test A m j).reached i h in
      rw (table_size 120 n (suc m) t C) at (rw r.2 at (run_inside (suc m) M formed zero r.0 formed.some (over_more m r.0 r.1)))

  pub listing_few : (j : ℕ) → length (listing nat_test A m j) ≤ n
  listing_few j = rw (table_size 120 n (suc m) t C) at (listing_bound nat_test A m (λ s. s) (size M)
      (λ s r. rw r.2 at (run_inside (suc m) M formed zero r.0 formed.some (over_more m r.0 r.1))) (λ s t _ _ e. e) j)

  -- the row of a state lies in the table, and leads to states
  pub row_of : (s : ℕ) → s < n → Row 120 (row_place m s) m t
  row_of s h = record {
    room = omega (arith, C.long, suc-mul s (suc m), mul-le-mul_right {m = suc s} {n = n} (suc m) h);
    inside = λ c b. omega (arith, inside s c h b, C.flags);
  }
    where
      inside : (s c : ℕ) → s < n → c < m → get_or t (row_place m s + c) 0 < n
      inside s c h b = let z : 120 + s * suc m + c ≡ 120 + (s * suc m + c) = omega arith in rw z (C.inside s c h (omega arith))

  pub row_step : (s : ℕ) → s < n → (c : ℕ) → c < m → A.step s c ≡ get_or t (row_place m s + c) 0
  row_step s h c b = let z : 120 + s * suc m + c ≡ 120 + (s * suc m + c) = omega arith in rw z (table_step 120 n (suc m) t C s c h (omega arith))

  pub letter_row : (s : ℕ) → s < n → LetterRow n m t s (take (120 + s * (m + 1) + m - (120 + s * (m + 1))) (drop (120 + s * (m + 1)) t))
  letter_row s h = let z : 120 + s * (m + 1) + m - (120 + s * (m + 1)) ≡ m = omega arith in rw (z, add-one m) record { long = long; entry = entry; inside = λ c b. inside c (rw long at b) }
    where
      long : length (take m (drop (row_place m s) t)) ≡ m
      long = length-take-le m (drop (row_place m s) t) (omega (arith, length-drop (row_place m s) t, (row_of s h).room))

      entry : (c : ℕ) → c < m → get_or (take m (drop (row_place m s) t)) c 0 ≡ get_or t (row_place m s + c) 0
      entry c b = get_or-take m (drop (row_place m s) t) c 0 b ∙ get_or-drop (row_place m s) t c 0

      inside : (c : ℕ) → c < m → get_or (take m (drop (row_place m s) t)) c 0 < n
      inside c b = let z : 120 + s * suc m + c ≡ 120 + (s * suc m + c) = omega arith in rw (entry c b, z) (C.inside s c h (omega arith))

  module _ (o u : List ℕ) (i count : ℕ) (T : Turns n m t o u i count) where
    long : length (listing nat_test A m i) ≡ count
    long = ap length (sym T.done) ∙ order_length T.roll

    module _ (h : i < count) (s : ℕ) (e : s ≡ get_or o i 0) where
      state : get_or (listing nat_test A m i) i 0 ≡ s
      state = ap (λ l. get_or l i 0) (sym T.done) ∙ order_at T.roll i h ∙ sym e

      pub turn_state : s < n
      turn_state = rw state at (listing_below i i (rw long h))

      pub turns_next : (o' u' : List ℕ) (r : ℕ) → Rowed 120 (row_place m s) m count t o u o' u' r → Turns n m t o' u' (i + 1) r
      unfolding listing
      turns_next o' u' r W = rw (add-one i) record { roll = W.roll; turns = omega (arith, more); done = list ∙ sym (go (turn_cases nat_test A m i L)) }
        where
          list : take r o' ≡ add_to nat_test A m (take count o) s
          list = W.listed A s (row_step s turn_state)

          more : count ≤ r
          more = omega (arith, (add_to_extends nat_test A m (take count o) s).longer, ap length list, order_length W.roll, order_length T.roll)

          L : List ℕ
          L = listing nat_test A m i

          go : ((i < length L) × (turn nat_test A m i L ≡ add_to nat_test A m L (get_or L i zero))) ⊎ ((length L ≤ i) × (turn nat_test A m i L ≡ L))
              → turn nat_test A m i L ≡ add_to nat_test A m (take count o) s
          go (inl p) = p.1 ∙ ap (add_to nat_test A m L) state ∙ ap (λ l. add_to nat_test A m l s) (sym T.done)
          go (inr p) = absurd (omega (arith, long))

    pub turns_end : count ≤ i → Arranged n m t o u count
    turns_end h =
        let z : i ≡ count = omega (arith, T.turns) in
        let l : length (listing nat_test A m i) ≤ i = omega (arith, long) in
        record {
          closed = C;
          roll = T.roll;
          ordered = record {
            room = omega (arith, T.roll.order_long, T.roll.within);
            listed = T.done ∙ sym (listing_stays nat_test A m i n (omega (arith, long, listing_few i)) l);
          };
        }
