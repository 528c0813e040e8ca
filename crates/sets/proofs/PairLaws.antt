-- The rows of `|`, `&` and `-`: the next pair, and whether it is accepting.
use mathlib.Core.Path.{◌≡◌, refl, sym, ap, ap₂, ◌∙◌}
use mathlib.Core.Bool.{Bool, true, false≢true}
use mathlib.Core.List.{List, [], ◌∷◌}
use Prim.Native.Nat.{ℕ, ◌<◌}
use native.Mathlib.Omega.{arith}
use lib.ListN.{length, set}
use Rattle.entries.specs.Entries.{Target}
use Rattle.entries.proofs.EntryLaws.{machine_accepting}
use Rattle.automata.specs.Stages.{Pairing, combine}
use Rattle.rows.specs.Rows.{flag_at, number_at, pair_row}
use Rattle.rows.specs.Sums.{row_sum}
use Rattle.rows.proofs.SumLaws.{sum_none}
use Rattle.flags.proofs.TableLaws.{flag_in}
use Rattle.sets.specs.Fits.{rows_for, Source}
use Rattle.sets.specs.Operations.{Operation, pairing, concatenation, star, erase, operation_of, is_pairing, pair_rows}
use Rattle.sets.specs.declared.operands.Operands.{Operands}

pub pair_of : (x : Operation) → is_pairing x ≡ true → (o : Pairing) × (x ≡ pairing o)
pair_of (pairing o) h = (o, refl)
pair_of concatenation h = absurd (false≢true h)
pair_of star h = absurd (false≢true h)
pair_of erase h = absurd (false≢true h)

four : (r : List ℕ) (x y z v : ℕ) → length r ≡ 4 → set (set (set (set r 0 x) 1 y) 2 z) 3 v ≡ x ∷ y ∷ z ∷ v ∷ []
four [] x y z v e = absurd (omega arith)
four (_ ∷ []) x y z v e = absurd (omega arith)
four (_ ∷ _ ∷ []) x y z v e = absurd (omega arith)
four (_ ∷ _ ∷ _ ∷ []) x y z v e = absurd (omega arith)
four (_ ∷ _ ∷ _ ∷ _ ∷ []) x y z v e = refl
four (_ ∷ _ ∷ _ ∷ _ ∷ _ ∷ r) x y z v e = absurd (omega arith)

pub pair_start : (s : Operands) → is_pairing (operation_of s.op) ≡ true → (row r1 r2 : List ℕ) → length row ≡ s.width → r1 ≡ set (set row 0 0) 1 0 → r2 ≡ set (set r1 2 0) 3 0
    → (r2 ≡ (rows_for s).start) × (0 ≡ row_sum 0 r2)
unfolding pair_rows
pair_start s h row r1 r2 w e1 e2 =
    let p = pair_of (operation_of s.op) h in
    let z : r2 ≡ pair_row 0 0 = e2 ∙ rw e1 (four row 0 0 0 0 (w ∙ s.fits.width ∙ rw p.1)) in
    (z ∙ rw p.1, sym (ap (row_sum 0) z ∙ sum_none 0 4))

pub pair_room : (s : Operands) → is_pairing (operation_of s.op) ≡ true → s.width ≡ 4
pair_room s h = s.fits.width ∙ rw (pair_of (operation_of s.op) h).1

module _ (s : Operands) (from : List ℕ) (S : Source s from) (h : is_pairing (operation_of s.op) ≡ true) where
  o : Pairing
  o = (pair_of (operation_of s.op) h).0

  is : operation_of s.op ≡ pairing o
  unfolding o
  is = (pair_of (operation_of s.op) h).1

  pub pair_width : s.width ≡ 4
  pair_width = s.fits.width ∙ rw is

  pub pair_long : length from ≡ 4
  pair_long = S.long ∙ pair_width

  pub pair_left : number_at from 0 < s.left.states
  pair_left = (rw is at S.fits).0

  pub pair_right : number_at from 2 < s.right.states
  pair_right = (rw is at S.fits).1

  pub left_flag : number_at from 0 < length s.left.cells.now
  left_flag = flag_in s.left (number_at from 0) pair_left

  pub right_flag : number_at from 2 < length s.right.cells.now
  right_flag = flag_in s.right (number_at from 2) pair_right

  pub pair_next : (c x y : ℕ) → Target s.left (number_at from 0) c x → Target s.right (number_at from 2) c y → pair_row x y ≡ (rows_for s).step from c
  unfolding pair_rows
  pair_next c x y tx ty = ap₂ pair_row tx.step ty.step ∙ rw is

  pub pair_accepts : (x y v : Bool) → x ≡ flag_at s.left.cells.now (number_at from 0) → y ≡ flag_at s.right.cells.now (number_at from 2) → ((o : Pairing) → operation_of s.op ≡ pairing o → v ≡ combine o x y) → v ≡ (rows_for s).accepting from
  unfolding pair_rows o
  pair_accepts x y v ex ey e =
      e o is
      ∙ ap₂ (combine o) (ex ∙ sym (machine_accepting s.left (number_at from 0) pair_left))
      (ey ∙ sym (machine_accepting s.right (number_at from 2) pair_right))
      ∙ rw is
