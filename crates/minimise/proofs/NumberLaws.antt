-- Laws of the numbering: the order is the listing of the classes, row by row, and the table that is written is the smallest machine.
use mathlib.Core.Path.{◌≡◌, refl, sym, ap, ◌∙◌}
use Rattle.std.specs.Prelude.{Some, None}
use mathlib.Core.Bool.{Bool, true, false}
use mathlib.Core.Logic.{◌⊎◌, inl, inr}
use mathlib.Core.List.{List, []}
use Prim.Native.Nat.{ℕ, zero, suc, ◌+◌, ◌*◌, ◌≤◌, ◌<◌}
use native.Mathlib.Nat.{le_refl, le_trans, mul-le-mul_right}
use native.Mathlib.Numerals.{add-one}
use native.Mathlib.Omega.{arith}
use lib.ListN.{length, get_or, take, set, length-set}
use lib.Seq.{ext_get_or, get_or-set_same, take-suc-set}
use borrow.Author.Tests.{lt-ltb, le-ltb}
use Rattle.automata.specs.Automaton.{Automaton}
use Rattle.automata.specs.Basics.{LtCases, lt_cases, nat_test, find, find_at, get_or_tab}
use Rattle.automata.specs.Listing.{Extends, add_to, add_to_extends, turn_cases, turn, listing, listed, listing_extends, listing_stays, find_in}
use Rattle.automata.specs.Machine.{Machine, size, automaton, WellFormed, minimal_numbers}
use Rattle.automata.specs.Partition.{bit, classes, classes_length, classes_low, get_d_map}
use Rattle.automata.specs.Rows.{cell_below}
use Rattle.automata.specs.Smallest.{quotient, tabulated, tabulated_size, tabulated_formed, smallest, smallest_by, smallest_canonical, smallest_words}
use Rattle.automata.specs.Table.{flag_of, table_machine, ClosedTable, table_size, table_accepting, table_step, table_formed}
use Rattle.entries.specs.declared.table.Table.{Table}
use Rattle.entries.specs.Entries.{machine_of}
use Rattle.entries.proofs.EntryLaws.{machine_size, machine_accepting, machine_formed}
use Rattle.minimise.specs.Minimised.{Minimised}
use Rattle.minimise.specs.Number.{Roll, Goes, Rolling, Upto, Rowed, Marked, Classified}
use Rattle.numbering.proofs.OrderLaws.{ordered_length, ordered_at}
use Rattle.minimise.proofs.RowLaws.{goes_on}

-- ---- the smallest machine by a listing that is whole

-- Machines with the same flags and the same moves are equal.
machine_ext : (k : ℕ) (M N : Machine) → WellFormed k M → WellFormed k N → size M ≡ size N → ((p : ℕ) → p < size M → (automaton M).accepting p ≡ (automaton N).accepting p)
    → ((p c : ℕ) → p < size M → c < k → (automaton M).step p c ≡ (automaton N).step p c) → M ≡ N
machine_ext k M N F G sz a s = λ i. record { accepting = flags i; moves = moves i }
  where
    flags : M.accepting ≡ N.accepting
    flags = ext_get_or false M.accepting N.accepting sz a

    row : (p : ℕ) → p < size M → get_or M.moves p [] ≡ get_or N.moves p []
    row p h = ext_get_or zero (get_or M.moves p []) (get_or N.moves p []) (F.wide p h ∙ sym (G.wide p (rw (← sz) h))) λ c b. s p c h (rw (F.wide p h) at b)

    moves : M.moves ≡ N.moves
    moves = ext_get_or [] M.moves N.moves (F.rows ∙ sz ∙ sym G.rows) λ p h. row p (rw F.rows at h)

module _ (k : ℕ) (M : Machine) (F : WellFormed k M) where
  abbrev Q : Automaton ℕ
  Q = quotient M (classes k M)

  bound : length (listing nat_test Q k (size M)) ≤ size M
  unfolding smallest smallest_by
  bound = rw (tabulated_size nat_test Q k (listing nat_test Q k (size M))) at
      (minimal_numbers k (smallest k M) (smallest_canonical k M F) (automaton M) (size M) F.some F.inside (λ w o. sym (smallest_words k M F w o)))

  -- a listing that is whole is as long as any, and the smallest machine's
  pub smallest_whole : (j : ℕ) → length (listing nat_test Q k j) ≤ j → smallest k M ≡ tabulated nat_test Q k (listing nat_test Q k j)
  unfolding smallest smallest_by
  smallest_whole j h = ap (tabulated nat_test Q k) (go (lt_cases j (size M)))
    where
      go : LtCases j (size M) → listing nat_test Q k (size M) ≡ listing nat_test Q k j
      go (inl x) = listing_stays nat_test Q k j (size M) (omega (arith, x.0)) h
      go (inr x) = sym (listing_stays nat_test Q k (size M) j x.0 bound)

  pub smallest_more : (j most : ℕ) → most < length (listing nat_test Q k j) → most < size (smallest k M)
  unfolding smallest smallest_by
  smallest_more j most h = rw (tabulated_size nat_test Q k (listing nat_test Q k (size M))) (go (lt_cases j (size M)))
    where
      go : LtCases j (size M) → most < length (listing nat_test Q k (size M))
      go (inl x) = le_trans h (listing_extends nat_test Q k j (size M) (omega (arith, x.0))).longer
      go (inr x) = rw (listing_stays nat_test Q k (size M) j x.0 bound) at h

  -- a table that goes by the listing is its machine
  module _ (base m : ℕ) (s : List ℕ) (whole : length (listing nat_test Q k m) ≡ m) (C : ClosedTable base m k s)
      (flags : (p : ℕ) → p < m → flag_of (get_or s p 0) ≡ (automaton M).accepting (get_or (listing nat_test Q k m) p 0))
      (goes : (p c : ℕ) → p < m → c < k → Goes Q (listing nat_test Q k m) (get_or (listing nat_test Q k m) p 0) c (get_or s (base + (p * k + c)) 0)) where
    abbrev L : List ℕ
    L = listing nat_test Q k m

    short : length (listing nat_test Q k m) ≤ m
    short = rw whole (le_refl m)

    accepting : (p : ℕ) → p < m → (automaton (table_machine base m k s)).accepting p ≡ (automaton (tabulated nat_test Q k L)).accepting p
    unfolding tabulated
    accepting p h = table_accepting base m k s C p h ∙ flags p h ∙ sym (get_d_map Q.accepting L p 0 false (rw whole h))

    step : (p c : ℕ) → p < m → c < k → (automaton (table_machine base m k s)).step p c ≡ (automaton (tabulated nat_test Q k L)).step p c
    unfolding tabulated
    step p c h b =
        let y : ℕ = Q.step (get_or L p 0) c in
        let g = goes p c h b in
        let v : find nat_test y L < length L = find_in nat_test 0 y L (get_or s (base + (p * k + c)) 0, g.inside, g.leads) in
        table_step base m k s C p c h b
        ∙ (listed nat_test Q k m).distinct (get_or s (base + (p * k + c)) 0) (find nat_test y L) g.inside v (g.leads ∙ sym (find_at nat_test 0 y L v))
        ∙ sym (ap (λ r. get_or r c zero) (get_d_map _ L p 0 [] (rw whole h)) ∙ get_or_tab _ k c zero b)

    pub table_smallest : table_machine base m k s ≡ smallest k M
    table_smallest =
        machine_ext k (table_machine base m k s) (tabulated nat_test Q k L) (table_formed base m k s C) (tabulated_formed nat_test Q k m short)
        (table_size base m k s C ∙ sym whole ∙ sym (tabulated_size nat_test Q k L)) (λ p h. accepting p (rw (table_size base m k s C) at h))
        (λ p c h b. step p c (rw (table_size base m k s C) at h) b)
        ∙ sym (smallest_whole m short)

-- ---- the rows

-- The first i rows are written, and the order is the listing after i turns.
pub record Arranged (T : Table) (most i m : ℕ) (numbers order s : List ℕ) : Type 0 where
  pub listed : take m order ≡ listing nat_test (quotient (machine_of T) (classes T.columns (machine_of T))) T.columns i
  pub roll : Roll most m numbers order
  pub long : length numbers ≡ T.states
  pub turns : i ≤ m
  pub goes : (j c : ℕ) → j < i → c < T.columns
      → Goes (quotient (machine_of T) (classes T.columns (machine_of T))) (take m order) (get_or (take m order) j 0) c (get_or s (most + (j * T.columns + c)) 0)

module _ {T : Table} {most : ℕ} {cls numbers order s : List ℕ} (C : Classified T most cls numbers order s) where
  abbrev M : Machine
  M = machine_of T

  abbrev found_classes : List ℕ
  found_classes = classes T.columns (machine_of T)

  formed : WellFormed T.columns M
  formed = machine_formed T

  pub order_starts : Arranged T most 0 1 (set numbers 0 0) (set order 0 0) s
  unfolding listing
  order_starts = record {
    listed = take-suc-set order 0 0 room;
    roll = record {
      room = omega (arith, C.room, length-set order 0 0);
      few = omega (arith, C.few, C.numbers_long, length-set numbers 0 0);
      bytes = C.bytes;
      within = C.some;
      below = λ i h. let z : i ≡ 0 = omega arith in rw (z, first) (omega (arith, T.closed.some, C.numbers_long, length-set numbers 0 0));
      back = λ i h. let z : i ≡ 0 = omega arith in rw (z, first) (get_or-set_same numbers 0 0 0 (omega (arith, T.closed.some, C.numbers_long)));
    };
    long = length-set numbers 0 0 ∙ C.numbers_long;
    turns = omega arith;
    goes = λ j c h. absurd (omega arith);
  }
    where
      room : 0 < length order
      room = omega (arith, C.room, C.some)

      first : get_or (set order 0 0) 0 0 ≡ 0
      first = get_or-set_same order 0 0 0 room

  module _ (i m : ℕ) (v o u : List ℕ) (A : Arranged T most i m v o u) (len : length u ≡ length s) where
    pub order_rolling : i < m → Rolling T most i m cls v o u
    order_rolling h = record {
      roll = A.roll;
      classes_long = ap length C.found ∙ classes_length T.columns M formed ∙ machine_size T;
      numbers_long = A.long;
      inside = λ q b. rw C.found (low q b);
      row = h;
      slot = rw len C.slot;
    }
      where
        low : (q : ℕ) → q < T.states → get_or found_classes q zero < T.states
        low q b = omega (arith, classes_low T.columns M formed q (rw (machine_size T) b))

    -- the next turn of the listing
    listing_next : i < m → listing nat_test (quotient M found_classes) T.columns (suc i) ≡ add_to nat_test (quotient M found_classes) T.columns (take m o) (get_or (take m o) i 0)
    unfolding listing
    listing_next h = go (turn_cases nat_test (quotient M found_classes) T.columns i (listing nat_test (quotient M found_classes) T.columns i))
      where
        l : List ℕ
        l = listing nat_test (quotient M found_classes) T.columns i

        go : ((i < length l) × (turn nat_test (quotient M found_classes) T.columns i l ≡ add_to nat_test (quotient M found_classes) T.columns l (get_or l i zero))) ⊎ ((length l ≤ i) × (turn nat_test (quotient M found_classes) T.columns i l ≡ l))
            → turn nat_test (quotient M found_classes) T.columns i l ≡ add_to nat_test (quotient M found_classes) T.columns (take m o) (get_or (take m o) i 0)
        go (inl x) = rw A.listed x.1
        go (inr x) = absurd (omega (arith, x.0, ordered_length A.roll, ap length A.listed))

    pub order_full : (v' o' u' : List ℕ) → i < m → Rowed T most i m cls o u v' o' u' None → most < size (smallest T.columns M)
    order_full v' o' u' h R = smallest_more T.columns M formed (suc i) most (rw (listing_next h, ← C.found) R)

    module _ (m' : ℕ) (v' o' u' : List ℕ) (h : i < m) (len' : length v' ≡ length v) (R : Rowed T most i m cls o u v' o' u' (Some m')) where
      upto : Upto (quotient M found_classes) T.columns most i m o u T.columns m' v' o' u'
      upto = rw C.found at R

      pub order_turns : Arranged T most (i + 1) m' v' o' u'
      order_turns = rw add-one record {
        listed = upto.listed ∙ sym (listing_next h);
        roll = upto.roll;
        long = len' ∙ A.long;
        turns = omega (arith, upto.more);
        goes = λ j c b y. goes j c y (lt_cases j i) (omega arith);
      }
        where
          grown : Extends 0 (take m o) (take m' o')
          grown = rw upto.listed (add_to_extends nat_test (quotient M found_classes) T.columns (take m o) (get_or (take m o) i 0))

          same : (j : ℕ) → j < m → get_or (take m' o') j 0 ≡ get_or (take m o) j 0
          same j b = grown.keeps j (rw (ordered_length A.roll) b)

          goes : (j c : ℕ) → c < T.columns → LtCases j i → j ≤ i → Goes (quotient M found_classes) (take m' o') (get_or (take m' o') j 0) c (get_or u' (most + (j * T.columns + c)) 0)
          goes j c b (inl x) y =
              rw (same j (omega (arith, x.0)), upto.cells (j * T.columns + c) (cell_below i T.columns j c x.0 b))
              (goes_on (quotient M found_classes) (take m o) (take m' o') (get_or (take m o) j 0) c (get_or u (most + (j * T.columns + c)) 0) grown (A.goes j c x.0 b))
          goes j c b (inr x) y = let z : j ≡ i = omega arith in rw (z, same i h) (upto.goes c b)

    -- ---- the end

    module _ (u' : List ℕ) (done : i ≡ m) (K : Marked T m o u u') (len' : length u' ≡ length u) where
      abbrev final : List ℕ
      final = listing nat_test (quotient M found_classes) T.columns m

      list : take m o ≡ final
      list = A.listed ∙ ap (listing nat_test (quotient M found_classes) T.columns) done

      whole : length final ≡ m
      whole = ap length (sym list) ∙ ordered_length A.roll

      cell : (p c : ℕ) → get_or u' (most + (p * T.columns + c)) 0 ≡ get_or u (most + (p * T.columns + c)) 0
      cell p c = K.past (most + (p * T.columns + c)) (omega (arith, A.roll.within))

      goes : (p c : ℕ) → p < m → c < T.columns → Goes (quotient M found_classes) final (get_or final p 0) c (get_or u' (most + (p * T.columns + c)) 0)
      goes p c h b = rw (cell p c, ← list) (A.goes p c (rw done h) b)

      closed : ClosedTable most m T.columns u'
      closed = record {
        some = rw whole at (listed nat_test (quotient M found_classes) T.columns m).first.0;
        flags = A.roll.within;
        long = omega (arith, C.slot, len, len', mul-le-mul_right {m = m} {n = most} T.columns A.roll.within);
        inside = λ p c h b. rw whole at (goes p c h b).inside;
      }

      flag_bit_lem : (b : Bool) → flag_of (bit b) ≡ b
      flag_bit_lem true = refl
      flag_bit_lem false = refl

      flags : (p : ℕ) → p < m → flag_of (get_or u' p 0) ≡ (automaton M).accepting (get_or final p 0)
      flags p h =
          ap flag_of (K.flags p h) ∙ flag_bit_lem (flag_of (get_or T.cells.now (get_or o p 0) 0))
          ∙ sym (machine_accepting T (get_or o p 0) (rw A.long at A.roll.below p h))
          ∙ ap (automaton M).accepting (sym (ordered_at A.roll p h) ∙ ap (λ l. get_or l p 0) list)

      found : table_machine most m T.columns u' ≡ smallest T.columns M
      found = table_smallest T.columns M formed most m u' whole closed flags goes

      states : size (smallest T.columns M) ≡ m
      states = ap size (sym found) ∙ table_size most m T.columns u' closed

      pub order_ends : Minimised T.columns most M u' (Some m)
      order_ends = record {
        answer = rw (states, le-ltb most m A.roll.within);
        holds = λ _. record {
          closed = rw states closed;
          table = rw states found;
          flags = λ p h. bits p (rw states at h);
        };
      }
        where
          bits : (p : ℕ) → p < m → get_or u' p 0 ≡ bit ((automaton (smallest T.columns M)).accepting p)
          bits p h =
              K.flags p h
              ∙ ap bit (sym (flag_bit_lem (flag_of (get_or T.cells.now (get_or o p 0) 0))) ∙ ap flag_of (sym (K.flags p h)) ∙ sym (table_accepting most m T.columns u' closed p h) ∙ ap (λ N. (automaton N).accepting p) found)

pub too_many : (k most : ℕ) (M : Machine) (s : List ℕ) → most < size (smallest k M) → Minimised k most M s None
too_many k most M s h = record { answer = rw (lt-ltb most (size (smallest k M)) h); holds = λ b. absurd (omega arith) }
