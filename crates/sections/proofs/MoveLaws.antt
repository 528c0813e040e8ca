-- Laws of the moves: row by row the numbers of what letters lead to are the moves of the restriction.
use mathlib.Core.Path.{◌≡◌, refl, sym, ap, ap₂, ◌∙◌}
use mathlib.Core.List.{List, [], ◌∷◌, ◌++◌, append-nil, append_assoc}
use Prim.Native.Nat.{ℕ, suc, ◌+◌, ◌*◌, ◌%◌, ◌≤◌, ◌<◌}
use native.Mathlib.Nat.{suc-mul, mul-le-mul_right}
use native.Mathlib.Omega.{arith}
use native.Mathlib.Numerals.{add-one}
use lib.ListN.{get_or}
use lib.Seq.{ext_get_or}
use Rattle.automata.specs.Basics.{nat_test, find, tab, length_tab, get_or_tab, tab_ext}
use Rattle.automata.specs.Machine.{Machine, size, automaton, WellFormed}
use Rattle.automata.specs.Numbering.{tab_snoc}
use Rattle.automata.specs.Restrict.{restrict}
use Rattle.automata.proofs.Restrict.{restrict_formed}
use Rattle.automata.specs.Rows.{flat}
use Rattle.automata.specs.Table.{ClosedTable, table_formed}
use Rattle.card.specs.Number.{Bytes, bytes_of}
use Rattle.card.proofs.Number.{below_flat}
use Rattle.numbering.specs.Arrival.{kept_machine, row_place, Arranged}
use Rattle.sections.specs.Laid.{Laid}
use Rattle.sections.specs.Parts.{row_bytes, move_bytes}
use Rattle.sections.proofs.LaidLaws.{laid_none, laid_join}
use Rattle.numbering.proofs.NumberLaws.{row_step}
use Rattle.sections.proofs.RestrictLaws.{L, list_at, order_below, restrict_count, restrict_row, find_there}

flat_snoc : (rs : List (List ℕ)) (r : List ℕ) → flat (rs ++ (r ∷ [])) ≡ flat rs ++ r
flat_snoc [] r = append-nil r
flat_snoc (x ∷ rs) r = ap (λ y. x ++ y) (flat_snoc rs r) ∙ sym (append_assoc x (flat rs) r)

-- a number below 256 is its one byte
bytes_of_one : (xs : List ℕ) → Bytes xs → bytes_of 1 xs ≡ xs
bytes_of_one [] b = refl
bytes_of_one (x ∷ xs) b =
    let z : x % 256 ≡ x = omega (arith, b 0 (omega arith)) in
    ap₂ ◌∷◌ z (bytes_of_one xs (λ i h. b (suc i) (omega arith)))

-- a row more
pub rows_place : (m i : ℕ) → (i + 1) * m ≡ i * m + m
rows_place m i = rw (add-one i) (suc-mul i m)

pub rows_room : (m i count : ℕ) → i < count → i * m + m ≤ count * m
rows_room m i count h = omega (arith, suc-mul i m, mul-le-mul_right {m = suc i} {n = count} m h)

-- where the row of the state that has number i is read
abbrev pub place_of : ℕ → List ℕ → ℕ → ℕ
place_of m o i = row_place m (get_or o i 0)

-- the bytes of the first i rows
pub rows_upto : ℕ → List ℕ → List ℕ → List ℕ → ℕ → List ℕ
rows_upto m t o u i = flat (tab (λ j. row_bytes (place_of m o j) m t u) i)

pub rows_start : (m : ℕ) (t o u old : List ℕ) (a : ℕ) → Laid a a (rows_upto m t o u 0) old old
unfolding rows_upto
rows_start m t o u old a = laid_none a old

rows_grow : (m : ℕ) (t o u : List ℕ) (i : ℕ) → rows_upto m t o u (suc i) ≡ rows_upto m t o u i ++ row_bytes (place_of m o i) m t u
unfolding rows_upto
rows_grow m t o u i =
    ap flat (sym (tab_snoc (λ j. row_bytes (place_of m o j) m t u) i)) ∙ flat_snoc (tab (λ j. row_bytes (place_of m o j) m t u) i) (row_bytes (place_of m o i) m t u)

pub rows_next : (m : ℕ) (t o u old mid new : List ℕ) (a i b : ℕ) → b ≡ i * m + m → Laid a (a + i * m) (rows_upto m t o u i) old mid
    → Laid (a + i * m) (a + i * m + m) (row_bytes (place_of m o i) m t u) mid new → Laid a (a + b) (rows_upto m t o u (i + 1)) old new
rows_next m t o u old mid new a i b e l r =
    let z : a + b ≡ a + i * m + m = omega arith in
    rw (z, add-one i, rows_grow m t o u i) (laid_join a (a + i * m) (a + i * m + m) (rows_upto m t o u i) (row_bytes (place_of m o i) m t u) old mid new (omega arith) l r)

module _ (n m : ℕ) (t o u : List ℕ) (count : ℕ) (R : Arranged n m t o u count) where
  abbrev C : ClosedTable 120 n (suc m) t
  C = R.closed

  abbrev N : Machine
  N = restrict m (kept_machine n m t)

  formed : WellFormed m N
  formed = restrict_formed m (kept_machine n m t) (table_formed 120 n (suc m) t R.closed)

  -- the number that is read is the place of the state
  entry : (i c : ℕ) → i < count → c < m → find nat_test ((automaton (kept_machine n m t)).step (get_or o i 0) c) (L n m t C o count R.ordered) ≡ get_or u (get_or t (place_of m o i + c) 0) 0
  entry i c h b =
      let x : ℕ = (automaton (kept_machine n m t)).step (get_or o i 0) c in
      let f = find_there n m t C o count R.ordered i c h b in
      let g : get_or o (find nat_test x (L n m t C o count R.ordered)) 0 ≡ x = sym (list_at n m t C o count R.ordered (find nat_test x (L n m t C o count R.ordered)) f.0) ∙ f.1 in
      sym (R.roll.back (find nat_test x (L n m t C o count R.ordered)) f.0) ∙ ap (λ y. get_or u y 0) (g ∙ row_step n m t C (get_or o i 0) (order_below n m t C o count R.ordered i h) c b)

  rows≡ : tab (λ j. row_bytes (place_of m o j) m t u) count ≡ N.moves
  rows≡ = ext_get_or [] (tab (λ j. row_bytes (place_of m o j) m t u) count) N.moves
      (length_tab (λ j. row_bytes (place_of m o j) m t u) count ∙ sym (formed.rows ∙ restrict_count n m t C o count R.ordered))
      λ i b. row i (rw (length_tab (λ j. row_bytes (place_of m o j) m t u) count) at b)
    where
      row : (i : ℕ) → i < count → get_or (tab (λ j. row_bytes (place_of m o j) m t u) count) i [] ≡ get_or N.moves i []
      row i h = get_or_tab (λ j. row_bytes (place_of m o j) m t u) count i [] h ∙ tab_ext _ _ m (λ c b. sym (entry i c h b)) ∙ sym (restrict_row n m t C o count R.ordered i h)

  small : Bytes (flat N.moves)
  small = below_flat 256 N.moves λ p h c b.
      let hp : p < size N = rw formed.rows at h in
      let hc : c < m = rw (formed.wide p hp) at b in
      omega (arith, formed.inside p c hp hc, restrict_count n m t C o count R.ordered, R.roll.within)

  pub rows_end : rows_upto m t o u count ≡ move_bytes n m t
  unfolding rows_upto
  rows_end = ap flat rows≡ ∙ sym (bytes_of_one (flat N.moves) small)
