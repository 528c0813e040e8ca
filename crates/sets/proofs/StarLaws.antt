-- The rows of a star: the first, the next, and whether one is accepting.
use mathlib.Core.Path.{◌≡◌, sym, ap, ◌∙◌}
use mathlib.Core.Bool.{Bool, true, false, ◌&&◌, ◌||◌}
use mathlib.Core.List.{List}
use Prim.Native.Nat.{ℕ, suc, ◌<◌}
use native.Mathlib.Omega.{arith}
use lib.ListN.{length, set, replicate}
use lib.Dec.{eqb}
use Rattle.rows.specs.Rows.{flag_at}
use Rattle.flags.specs.Flags.{flag_row, leads_to, some_accepting, target_of}
use Rattle.flags.specs.Members.{Lists, Pours, led_by}
use Rattle.flags.proofs.FlagLaws.{Flags, flags_none, flags_row, row_flags, flags_same, flags_add, flags_at, or_assoc, or_false}
use Rattle.flags.proofs.MemberLaws.{listed_leads}
use Rattle.flags.proofs.TableLaws.{leads_step, some_same}
use Rattle.sets.specs.Fits.{left_of, rows_for}
use Rattle.sets.specs.Operations.{ends, operation_of, star, star_rows}
use Rattle.sets.specs.declared.operands.Operands.{Operands}

module _ (s : Operands) (is : operation_of s.op ≡ star) where
  pub star_width : s.width ≡ suc s.left.states
  star_width = s.fits.width ∙ rw is

  pub star_start : (m : ℕ) (r : List ℕ) → m ≡ s.width → r ≡ replicate m 0 → set (set r 0 1) s.left.states 1 ≡ (rows_for s).start
  unfolding star_rows
  star_start m r w e =
      let z : m ≡ suc s.left.states = w ∙ star_width in
      let c : Flags (suc s.left.states) (λ t. false) r = flags_none (rw z at e) in
      rw is (flags_row (flags_add s.left.states (flags_add 0 c (omega arith)) (omega arith)))

  module _ (c : ℕ) (l : c < s.left.columns) (from members : List ℕ) (held : ℕ) (S : Lists (flag_at from) s.left.states held members) where
    pub star_asks : (row : List ℕ) → length row ≡ s.width → Pours s.left c held 0 members row
    star_asks row w = record {
      column = l;
      counted = S.counted;
      room = omega (arith, star_width);
      small = omega (arith, star_width, s.fits.left_small);
    }

    member : ℕ → Bool
    member = leads_to (flag_at from) (λ q. (left_of s).step q c) s.left.states

    module _ (m : ℕ) (r : List ℕ) (w : m ≡ s.width) (e : r ≡ flag_row (led_by members (target_of s.left c) held) m) where
      moved : Flags (suc s.left.states) member r
      unfolding member
      moved =
          let z : m ≡ suc s.left.states = w ∙ star_width in
          flags_same (row_flags (rw z at e)) (λ t h. listed_leads S (target_of s.left c) t ∙ leads_step s.left (flag_at from) c l t)

      some : some_accepting (flag_at r) (flag_at s.left.cells.now) s.left.states ≡ some_accepting member (left_of s).accepting s.left.states
      some = some_same s.left (flag_at r) member (λ q h. flags_at moved q (omega arith))

      pub star_gains : true ≡ some_accepting (flag_at r) (flag_at s.left.cells.now) s.left.states → set (set r 0 1) s.left.states 1 ≡ (rows_for s).step from c
      unfolding star_rows member
      star_gains y = rw is (flags_row (flags_same
          (flags_add s.left.states (flags_add 0 moved (omega arith)) (omega arith))
          (λ t h. or_assoc (member t) (eqb t 0) (eqb t s.left.states) ∙ ap (λ (v : Bool). member t || (v && ends s.left.states t)) (y ∙ some))))

      pub star_stays : false ≡ some_accepting (flag_at r) (flag_at s.left.cells.now) s.left.states → r ≡ (rows_for s).step from c
      unfolding star_rows member
      star_stays y = rw is (flags_row (flags_same moved
          (λ t h. sym (or_false (member t)) ∙ ap (λ (v : Bool). member t || (v && ends s.left.states t)) (y ∙ some))))

  pub star_accepts : (from : List ℕ) (v : Bool) → v ≡ flag_at from s.left.states → v ≡ (rows_for s).accepting from
  unfolding star_rows
  star_accepts from v e = rw is e
