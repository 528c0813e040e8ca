-- Laws of the restriction to letters by the order of its states: state i is the i-th of the order.
use mathlib.Core.Path.{◌≡◌, sym, ap, ◌∙◌}
use mathlib.Core.List.{List, []}
use Prim.Native.Nat.{ℕ, suc, ◌≤◌, ◌<◌}
use native.Mathlib.Omega.{arith}
use lib.ListN.{length, get_or, take}
use lib.Seq.{get_or-take, length-take-le}
use Rattle.automata.specs.Automaton.{Automaton}
use Rattle.automata.specs.Basics.{nat_test, find, find_at, tab, get_or_tab}
use Rattle.automata.specs.Listing.{At, listing, listed, find_in}
use Rattle.automata.specs.Machine.{Machine, size, automaton, Agree}
use Rattle.automata.specs.Partition.{get_d_map}
use Rattle.automata.specs.Restrict.{restrict}
use Rattle.automata.specs.Smallest.{tabulated, tabulated_size, tabulated_agree}
use Rattle.automata.specs.Table.{ClosedTable, table_size}
use Rattle.numbering.specs.Arrival.{kept_machine, Ordered}
use Rattle.numbering.proofs.NumberLaws.{listing_below, listing_few}

module _ (n m : ℕ) (t : List ℕ) (C : ClosedTable 120 n (suc m) t) (o : List ℕ) (count : ℕ) (O : Ordered n m t o count) where
  abbrev M : Machine
  M = kept_machine n m t

  abbrev A : Automaton ℕ
  A = automaton (kept_machine n m t)

  abbrev N : Machine
  N = restrict m (kept_machine n m t)

  abbrev pub L : List ℕ
  L = listing nat_test (automaton (kept_machine n m t)) m (size (kept_machine n m t))

  list : take count o ≡ L
  list = rw (table_size 120 n (suc m) t C) O.listed

  pub list_length : length L ≡ count
  list_length = ap length (sym list) ∙ length-take-le count o O.room

  pub list_at : (i : ℕ) → i < count → get_or L i 0 ≡ get_or o i 0
  list_at i h = ap (λ l. get_or l i 0) (sym list) ∙ get_or-take count o i 0 h

  few : length L ≤ size M
  few = omega (arith, listing_few n m t C (size M), table_size 120 n (suc m) t C)

  pub order_below : (i : ℕ) → i < count → get_or o i 0 < n
  order_below i h = rw (list_at i h) at (listing_below n m t C (size M) i (rw list_length h))

  pub order_state : (i s : ℕ) → i < count → s ≡ get_or o i 0 → s < n
  order_state i s h e = rw e (order_below i h)

  pub count_few : count ≤ n
  count_few = omega (arith, few, list_length, table_size 120 n (suc m) t C)

  pub restrict_count : size N ≡ count
  unfolding restrict
  restrict_count = tabulated_size nat_test A m L ∙ list_length

  -- it accepts what that state accepts
  pub up : (i : ℕ) → i < count → Agree m A (automaton N) (get_or o i 0) i
  unfolding restrict
  up i h = rw (list_at i h) at (tabulated_agree nat_test A m (size M) few i (rw list_length h))

  -- what a letter leads to stands in the order
  there : (i c : ℕ) → i < count → c < m → At 0 L (A.step (get_or L i 0) c)
  there i c h b = (listed nat_test A m (size M)).taken i c (omega (arith, count_few, table_size 120 n (suc m) t C)) (rw list_length h) b

  pub find_there : (i c : ℕ) → i < count → c < m → (find nat_test (A.step (get_or o i 0) c) L < count) × (get_or L (find nat_test (A.step (get_or o i 0) c) L) 0 ≡ A.step (get_or o i 0) c)
  find_there i c h b =
      let a : At 0 L (A.step (get_or o i 0) c) = rw (list_at i h) at (there i c h b) in
      let f = find_in nat_test 0 (A.step (get_or o i 0) c) L a in
      (rw list_length at f, find_at nat_test 0 (A.step (get_or o i 0) c) L f)

  pub restrict_row : (i : ℕ) → i < count → get_or N.moves i [] ≡ tab (λ c. find nat_test (A.step (get_or o i 0) c) L) m
  unfolding restrict tabulated
  restrict_row i h = get_d_map (λ s. tab (λ c. find nat_test (A.step s c) L) m) L i 0 [] (rw list_length h) ∙ ap (λ s. tab (λ c. find nat_test (A.step s c) L) m) (list_at i h)

  pub restrict_step : (i c : ℕ) → i < count → c < m → (automaton N).step i c ≡ find nat_test (A.step (get_or o i 0) c) L
  restrict_step i c h b = ap (λ r. get_or r c 0) (restrict_row i h) ∙ get_or_tab (λ c. find nat_test (A.step (get_or o i 0) c) L) m c 0 b
