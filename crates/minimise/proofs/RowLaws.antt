-- Laws of one row of the numbered machine, column by column.
use mathlib.Core.Path.{◌≡◌, refl, sym, ap, ◌∙◌}
use Rattle.std.specs.Prelude.{None}
use mathlib.Core.Logic.{inl, inr}
use mathlib.Core.List.{List}
use Prim.Native.Nat.{ℕ, zero, suc, max, ◌+◌, ◌*◌, ◌≤◌, ◌<◌}
use native.Mathlib.Nat.{le_refl, le_trans, not-suc-le-zero}
use native.Mathlib.Numerals.{add-one}
use native.Mathlib.Omega.{arith}
use lib.ListN.{length, get_or, take, set}
use lib.Seq.{get_or-set_same, get_or-set_other}
use Rattle.automata.specs.Automaton.{Automaton}
use Rattle.automata.specs.Basics.{LtCases, lt_cases, nat_test}
use Rattle.automata.specs.Listing.{Extends, add, add_to, add_extends}
use Rattle.automata.specs.Rows.{cell_below}
use Rattle.entries.specs.declared.table.Table.{Table}
use Rattle.entries.specs.Entries.{Target}
use Rattle.minimise.specs.Number.{Numbered, Arrived, Goes, classes_of, Rolling, Upto}
use Rattle.numbering.proofs.OrderLaws.{ordered_length, ordered_at, arrive_old}

-- ---- the columns of a row

-- what further columns add makes the list no shorter
pub add_to_longer : (Q : Automaton ℕ) (l : List ℕ) (p c k : ℕ) → c ≤ k → length (add_to nat_test Q c l p) ≤ length (add_to nat_test Q k l p)
unfolding add_to
add_to_longer Q l p c zero h = let z : c ≡ zero = omega arith in rw z (le_refl (length l))
add_to_longer Q l p c (suc k) h = go (lt_cases k c) (add_to_longer Q l p c k)
  where
    go : LtCases k c → (c ≤ k → length (add_to nat_test Q c l p) ≤ length (add_to nat_test Q k l p)) → length (add_to nat_test Q c l p) ≤ length (add_to nat_test Q (suc k) l p)
    go (inl x) f = let z : c ≡ suc k = omega arith in rw z (le_refl (length (add_to nat_test Q (suc k) l p)))
    go (inr x) f = le_trans (f x.0) (add_extends nat_test 0 (add_to nat_test Q k l p) (Q.step p k)).longer

-- what a state leads to keeps its number in a longer order
pub goes_on : (Q : Automaton ℕ) (l l' : List ℕ) (p c x : ℕ) → Extends 0 l l' → Goes Q l p c x → Goes Q l' p c x
goes_on Q l l' p c x E G = record { inside = le_trans G.inside E.longer; leads = E.keeps x G.inside ∙ G.leads }

-- x is the number of the class of state l, where l is a state
pub record Last (n m l x : ℕ) (cls order : List ℕ) : Type 0 where
  pub low : l < n → x < m
  pub place : l < n → get_or order x 0 ≡ get_or cls l 0

pub last_none : {n m l x : ℕ} {cls order : List ℕ} → l ≡ n → Last n m l x cls order
last_none e = record { low = λ h. absurd (omega arith); place = λ h. absurd (omega arith) }

module _ {T : Table} {most i m : ℕ} {cls numbers order s : List ℕ} (R : Rolling T most i m cls numbers order s) where
  abbrev Q : Automaton ℕ
  Q = classes_of T cls

  abbrev start : ℕ
  start = get_or (take m order) i 0

  pub row_starts : Upto Q T.columns most i m order s 0 m numbers order s
  unfolding add_to
  row_starts = record { listed = refl; roll = R.roll; more = le_refl m; cells = λ q h. refl; goes = λ a h. absurd (not-suc-le-zero h) }

  same : (p : ℕ) → p ≡ get_or order i 0 → start ≡ p
  same p e = ordered_at R.roll i R.row ∙ sym e

  pub row_place : i < length order
  row_place = omega (arith, R.row, R.roll.within, R.roll.room)

  -- a cell of the row lies in the slot
  pub row_cell : (c : ℕ) → c < T.columns → most + (i * T.columns + c) < length s
  row_cell c h = omega (arith, cell_below most T.columns i c (le_trans R.row R.roll.within) h, R.slot)

  module _ (p c m' r : ℕ) (numbers' order' s' : List ℕ) (U : Upto Q T.columns most i m order s c m' numbers' order' s') (hc : c < T.columns) (e : p ≡ get_or order i 0) (J : Target T p c r) where
    -- what is read is the class that the column leads to
    pub row_class : get_or cls r 0 ≡ Q.step start c
    row_class = ap (λ x. get_or cls x 0) J.step ∙ ap (λ x. Q.step x c) (sym (same p e))

    pub row_below : get_or cls r 0 < T.states
    row_below = R.inside r J.inside

    added : add nat_test (take m' order') (get_or cls r 0) ≡ add_to nat_test Q (suc c) (take m order) start
    unfolding add_to
    added = ap (λ l. add nat_test l (get_or cls r 0)) U.listed ∙ ap (add nat_test (add_to nat_test Q c (take m order) start)) row_class

    pub row_full : (numbers'' order'' : List ℕ) → Arrived most m' (get_or cls r 0) order' numbers'' order'' None → most < length (add_to nat_test Q T.columns (take m order) start)
    row_full numbers'' order'' A = le_trans (rw added at A) (add_to_longer Q (take m order) start (suc c) T.columns hc)

    -- the class of the state has its number, or the state is met again
    pub column_again : (l x : ℕ) → l ≡ r → Last T.states m' l x cls order' → Numbered most m' (get_or cls r 0) order' numbers' order' x
    column_again l x el L = let h : l < T.states = rw el J.inside in arrive_old U.roll (get_or cls r 0) x (L.low h) (L.place h ∙ ap (λ y. get_or cls y 0) el)

    pub column_grown : (l x m'' : ℕ) → l ≡ r → Last T.states m' l x cls order' → m'' ≡ m' → m'' ≡ max m' (suc x)
    column_grown l x m'' el L em = omega (arith, L.low (rw el J.inside), em)

    module _ (m'' x : ℕ) (numbers'' order'' : List ℕ) (A : Numbered most m' (get_or cls r 0) order' numbers'' order'' x) (em : m'' ≡ max m' (suc x)) where
      column_turns : (s'' : List ℕ) → length s' ≡ length s → s'' ≡ set s' (most + (i * T.columns + c)) x → Upto Q T.columns most i m order s (c + 1) m'' numbers'' order'' s''
      column_turns s'' len es = rw (es, em, add-one) record {
        listed = A.listed ∙ added;
        roll = A.roll;
        more = omega (arith, U.more);
        cells = λ q b. get_or-set_other s' (most + (i * T.columns + c)) (most + q) x 0 (omega arith) ∙ U.cells q b;
        goes = λ a b. goes a (lt_cases a c) (omega arith);
      }
        where
          S : List ℕ
          S = set s' (most + (i * T.columns + c)) x

          L : List ℕ
          L = take (max m' (suc x)) order''

          grown : Extends 0 (take m' order') L
          grown = rw A.listed (add_extends nat_test 0 (take m' order') (get_or cls r 0))

          inside : x < length L
          inside = rw (ordered_length A.roll) (omega arith)

          mine : Goes Q L start c x
          mine = record { inside = inside; leads = ordered_at A.roll x (omega arith) ∙ A.place ∙ row_class }

          goes : (a : ℕ) → LtCases a c → a ≤ c → Goes Q L start a (get_or S (most + (i * T.columns + a)) 0)
          goes a (inl y) b =
              rw (get_or-set_other s' (most + (i * T.columns + c)) (most + (i * T.columns + a)) x 0 (omega (arith, y.0)))
              (goes_on Q (take m' order') L start a (get_or s' (most + (i * T.columns + a)) 0) grown (U.goes a y.0))
          goes a (inr y) b =
              let j : a ≡ c = omega arith in
              rw (j, get_or-set_same s' (most + (i * T.columns + c)) x 0 (rw len (row_cell c hc))) mine

      pub column_next : (l : ℕ) (s'' : List ℕ) → l ≡ r → length s' ≡ length s → s'' ≡ set s' (most + (i * T.columns + c)) x
          → Upto Q T.columns most i m order s (c + 1) m'' numbers'' order'' s'' × Last T.states m'' l x cls order''
      column_next l s'' el len es = (column_turns s'' len es, rw (el, em) record { low = λ _. omega arith; place = λ _. A.place })
