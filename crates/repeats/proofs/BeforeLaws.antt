-- A column that leads the states of a row where the column before does, and what makes a transition repeat an earlier one.
use mathlib.Core.Path.{◌≡◌, refl, ap}
use mathlib.Core.Bool.{Bool, true}
use mathlib.Core.List.{List}
use mathlib.Core.Logic.{◌⊎◌, inl, inr}
use Prim.Native.Nat.{ℕ, ◌+◌, ◌*◌, ◌-◌, ◌<◌}
use native.Mathlib.Nat.{zero-mul}
use native.Mathlib.Omega.{arith}
use lib.ListN.{get_or, take, drop}
use Rattle.entries.specs.declared.table.Table.{Table}
use Rattle.rows.specs.Rows.{row_at, flag_at, number_at}
use Rattle.rows.proofs.RowLaws.{row_length, row_within}
use Rattle.flags.specs.Members.{Lists}
use Rattle.sets.specs.Fits.{rows_for, left_of, right_of, ListedFor}
use Rattle.sets.specs.Operations.{operation_of, is_pairing, pairing, concatenation, star, erase}
use Rattle.sets.specs.declared.operands.Operands.{Operands}
use Rattle.sets.proofs.PairLaws.{pair_of}
use Rattle.repeats.specs.Repeats.{Repeats, Asking, Looks}
use Rattle.repeats.specs.Twins.{LeadAlike, Twins}
use Rattle.repeats.proofs.TwinLaws.{alike_step, twin_step, mark_step}

module _ (s : Operands) (c : ℕ) (from : List ℕ) (L : Looks s c from) where
  -- listed members that lead alike
  members_alike : (T : Table) (member : ℕ → Bool) (held : ℕ) (members : List ℕ) → Lists member T.states held members → ((i : ℕ) → i < held → LeadAlike T (c - 1) c (get_or members i 0))
      → (q : ℕ) → q < T.states → member q ≡ true → LeadAlike T (c - 1) c q
  members_alike T member held members S e q h f = let (i, l, y) = S.all q h f in rw y at (e i l)

  pub before_pair : is_pairing (operation_of s.op) ≡ true → (p r : ℕ) → p ≡ number_at from 0 → r ≡ number_at from 2 → LeadAlike s.left (c - 1) c p → LeadAlike s.right (c - 1) c r
      → (rows_for s).step from (c - 1) ≡ (rows_for s).step from c
  before_pair h p r ep er x y = let (o, is) = pair_of (operation_of s.op) h in
      rw is (alike_step (s.left.columns - 1) s.left.states s.right.states (left_of s) (right_of s) (c - 1) c (pairing o) from (rw ep at x, rw er at y))

  pub before_joined : operation_of s.op ≡ concatenation → (p held : ℕ) (members : List ℕ) → p ≡ number_at from 0 → LeadAlike s.left (c - 1) c p → Lists (λ q. flag_at from (2 + q)) s.right.states held members
      → ((i : ℕ) → i < held → LeadAlike s.right (c - 1) c (get_or members i 0)) → (rows_for s).step from (c - 1) ≡ (rows_for s).step from c
  before_joined is p held members ep x S e =
      rw is (alike_step (s.left.columns - 1) s.left.states s.right.states (left_of s) (right_of s) (c - 1) c concatenation from (rw ep at x, members_alike s.right (λ q. flag_at from (2 + q)) held members S e))

  module _ (held : ℕ) (members : List ℕ) (S : Lists (flag_at from) s.left.states held members) (e : (i : ℕ) → i < held → LeadAlike s.left (c - 1) c (get_or members i 0)) where
    pub before_star : operation_of s.op ≡ star → (rows_for s).step from (c - 1) ≡ (rows_for s).step from c
    before_star is = rw is (alike_step (s.left.columns - 1) s.left.states s.right.states (left_of s) (right_of s) (c - 1) c star from (members_alike s.left (flag_at from) held members S e))

    pub before_erase : operation_of s.op ≡ erase → (c + 1 ≡ s.left.columns → ⊥) → (rows_for s).step from (c - 1) ≡ (rows_for s).step from c
    before_erase is o = rw is (alike_step (s.left.columns - 1) s.left.states s.right.states (left_of s) (right_of s) (c - 1) c erase from
        (λ z. omega (arith, L.column, L.some), λ z. o (omega (arith, L.column)), members_alike s.left (flag_at from) held members S e))

-- ---- an earlier transition

module _ (s : Operands) (rows : List ℕ) (held : ℕ) (members : List ℕ) (state column q : ℕ) (A : Asking s rows held members state column q) where
  -- it lies before
  pub earlier_less : (r : ℕ) → Repeats s rows state column r → r < q
  earlier_less r E = go E.before
    where
      go : (E.row < state) ⊎ ((E.row ≡ state) × (E.by < column)) → r < q
      go (inl h) = omega (arith, row_within E.row state s.left.columns h, E.within, E.place, A.place)
      go (inr h) = let e : E.row * s.left.columns ≡ state * s.left.columns = ap (λ (n : ℕ). n * s.left.columns) h.0 in omega (arith, e, h.1, E.place, A.place)

  pub earlier_twin : (d : ℕ) → d < column → Twins s d column → Repeats s rows state column (q - (column - d))
  earlier_twin d h W = record {
    row = state;
    by = d;
    within = omega (arith, A.within);
    before = inr (refl, h);
    place = omega (arith, A.place);
    same = twin_step s d column W (row_at s.width state rows) A.states;
  }

  pub earlier_mark : (operation_of s.op ≡ erase) × (column ≡ s.left.columns - 1) × (0 < state) → Repeats s rows state column column
  earlier_mark (o, e, h) = record {
    row = 0;
    by = column;
    within = A.within;
    before = inl h;
    place = omega (arith, zero-mul s.left.columns);
    same = mark_step s (row_at s.width 0 rows) (row_at s.width state rows) column o e;
  }

  abbrev from : List ℕ
  from = row_at s.width state rows

  pub earlier_looks : 0 < column → Looks s column from
  earlier_looks h = record { some = h; column = A.within; source = record { long = row_length s.width state rows A.room; fits = A.states } }

  pub earlier_before : 0 < column → (rows_for s).step from (column - 1) ≡ (rows_for s).step from column → Repeats s rows state column (q - 1)
  earlier_before h e = record {
    row = state;
    by = column - 1;
    within = omega (arith, A.within);
    before = inr (refl, omega arith);
    place = omega (arith, A.place);
    same = e;
  }
