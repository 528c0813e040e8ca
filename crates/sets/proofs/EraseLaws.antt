-- The rows of an erase: the first, the next, and whether one is accepting.
use mathlib.Core.Path.{◌≡◌, refl, ap, ◌∙◌}
use mathlib.Core.Bool.{Bool, false}
use mathlib.Core.List.{List}
use Prim.Native.Nat.{ℕ, ◌+◌, ◌-◌, ◌<◌}
use native.Mathlib.Omega.{arith}
use lib.ListN.{length, replicate}
use lib.Dec.{eqb}
use borrow.Author.Tests.{eq-eqb, ne_eqb}
use Rattle.rows.specs.Rows.{flag_at}
use Rattle.flags.specs.Closure.{Closes, Chased, Gains}
use Rattle.flags.specs.Flags.{leads_to, some_accepting, target_of}
use Rattle.flags.specs.Members.{Lists, led_by}
use Rattle.flags.proofs.ClosureLaws.{gain_one, gain_same}
use Rattle.flags.proofs.FlagLaws.{flags_none, flags_row}
use Rattle.flags.proofs.MemberLaws.{listed_leads}
use Rattle.flags.proofs.TableLaws.{leads_step, some_same}
use Rattle.sets.specs.Fits.{left_of, rows_for}
use Rattle.sets.specs.Operations.{operation_of, erase, erase_rows}
use Rattle.sets.specs.declared.operands.Operands.{Operands}
use Rattle.sets.proofs.GainLaws.{gains_row}

module _ (s : Operands) (is : operation_of s.op ≡ erase) where
  pub erase_width : s.width ≡ s.left.states
  erase_width = s.fits.width ∙ rw is

  mark : s.left.columns - 1 < s.left.columns
  mark = omega (arith, s.fits.columns)

  pub erase_closes : (row : List ℕ) → length row ≡ s.width → Closes s.left row
  erase_closes row w = record { columns = s.fits.columns; long = w ∙ erase_width }

  pub erase_clear : (m : ℕ) (r : List ℕ) → m ≡ s.width → r ≡ replicate m 0 → r ≡ replicate s.left.states 0
  erase_clear m r w e = e ∙ ap (λ (n : ℕ). replicate n 0) (w ∙ erase_width)

  pub erase_start : (r r1 : List ℕ) → r ≡ replicate s.left.states 0 → Chased (target_of s.left (s.left.columns - 1)) s.left.states 0 r r1 → r1 ≡ (rows_for s).start
  unfolding erase_rows
  erase_start r r1 e C = rw is (gains_row s.left (s.left.columns - 1) mark r1 (λ t. eqb t 0) (gain_one e C))

  module _ (c : ℕ) (l : c < s.left.columns) (from : List ℕ) where
    pub erase_mark : (r : List ℕ) → r ≡ replicate s.left.states 0 → c + 1 ≡ s.left.columns → r ≡ (rows_for s).step from c
    unfolding erase_rows
    erase_mark r e h =
        let y : c ≡ s.left.columns - 1 = omega arith in
        rw (is, eq-eqb c (s.left.columns - 1) y) (flags_row {m = s.left.states} {f = λ t. false} (flags_none e))

    pub erase_letter : (members : List ℕ) (held : ℕ) → Lists (flag_at from) s.left.states held members → (r : List ℕ)
        → Gains (target_of s.left (s.left.columns - 1)) s.left.states (led_by members (target_of s.left c) held) r → (c + 1 ≡ s.left.columns → ⊥) → r ≡ (rows_for s).step from c
    unfolding erase_rows
    erase_letter members held L r G h =
        let y : c ≡ s.left.columns - 1 → ⊥ = λ q. h (omega (arith, s.fits.columns)) in
        rw (is, ne_eqb c (s.left.columns - 1) y)
        (gains_row s.left (s.left.columns - 1) mark r (leads_to (flag_at from) (λ q. (left_of s).step q c) s.left.states)
        (gain_same G (λ x. listed_leads L (target_of s.left c) x ∙ leads_step s.left (flag_at from) c l x)))

  pub erase_accepts : (from : List ℕ) (v : Bool) → v ≡ some_accepting (flag_at from) (flag_at s.left.cells.now) s.left.states → v ≡ (rows_for s).accepting from
  unfolding erase_rows
  erase_accepts from v e = rw is (e ∙ some_same s.left (flag_at from) (flag_at from) (λ q h. refl))
