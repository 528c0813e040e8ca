-- The rows of a concatenation: the first, the next, and whether one is accepting.
use mathlib.Core.Path.{◌≡◌, refl, sym, ap, ◌∙◌}
use mathlib.Core.Bool.{Bool, true, false}
use mathlib.Core.Logic.{◌⊎◌, inl, inr}
use mathlib.Core.List.{List, [], ◌∷◌, ◌++◌, append-nil}
use Prim.Native.Nat.{ℕ, ◌+◌, ◌-◌, ◌*◌, ◌/◌, ◌%◌, ◌≤◌, ◌<◌}
use native.Mathlib.Omega.{arith}
use lib.ListN.{length, set, drop, take, replicate, length-drop, length-append, drop_of_length-le}
use lib.Seq.{take_all, drop_at, get_or-drop, length-take-le}
use Rattle.automata.specs.Booleans.{choose, bool_cases}
use Rattle.automata.specs.Table.{flag_of}
use Rattle.entries.specs.Entries.{Target}
use Rattle.entries.proofs.EntryLaws.{machine_accepting}
use Rattle.rows.specs.Rows.{flag_at, number_at, number_bytes}
use Rattle.rows.specs.Sums.{weight, row_sum, Summed}
use Rattle.rows.proofs.SumLaws.{sum_two}
use Rattle.flags.specs.Flags.{flag_row, leads_to, some_accepting, target_of}
use Rattle.flags.specs.Members.{Lists, Pours, led_by}
use Rattle.flags.proofs.FlagLaws.{Flags, flags_none, flags_row, row_flags, flags_same, flags_add, or_false}
use Rattle.flags.proofs.MemberLaws.{listed_leads}
use Rattle.flags.proofs.TableLaws.{leads_step, some_same}
use Rattle.sets.specs.Fits.{with_zero, left_of, right_of, rows_for, Source}
use Rattle.sets.specs.Operations.{concat_row, operation_of, concatenation, concat_rows}
use Rattle.sets.proofs.FitLaws.{right_column}
use Rattle.sets.specs.declared.operands.Operands.{Operands}

-- B's 0 is gained, or not
pub gain_yes : (v b : Bool) (r : List ℕ) → v ≡ b → v ≡ true → set r 0 1 ≡ with_zero b r
unfolding with_zero
gain_yes v b r e t = rw (sym e ∙ t)

pub gain_no : (v b : Bool) (r : List ℕ) → v ≡ b → v ≡ false → r ≡ with_zero b r
unfolding with_zero
gain_no v b r e t = rw (sym e ∙ t)

-- the flags of a row, behind the number
pub tail_all : (r : List ℕ) → take (length r - 2) (drop 2 r) ≡ drop 2 r
tail_all r = take_all (length r - 2) (drop 2 r) (omega (arith, length-drop 2 r))

pub tail_flag : (r : List ℕ) (q : ℕ) → flag_at (take (length r - 2) (drop 2 r)) q ≡ flag_at r (2 + q)
tail_flag r q = ap (λ (l : List ℕ). flag_at l q) (tail_all r) ∙ ap flag_of (get_or-drop 2 r q 0)

pub tail_put : (r ys : List ℕ) → 2 ≤ length r → drop 2 (take 2 r ++ (ys ++ drop (length r - 2) (drop 2 r))) ≡ ys
tail_put r ys h =
    drop_at (take 2 r) (ys ++ drop (length r - 2) (drop 2 r)) 2 (length-take-le 2 r h)
    ∙ ap (λ (l : List ℕ). ys ++ l) (drop_of_length-le (drop 2 r) {i = length r - 2} (omega (arith, length-drop 2 r))) ∙ append-nil ys

pub tail_long : (r ys : List ℕ) → 2 ≤ length r → length ys ≡ length (take (length r - 2) (drop 2 r)) → length (take 2 r ++ (ys ++ drop (length r - 2) (drop 2 r))) ≡ length r
tail_long r ys h e = omega (
  arith,
  length-append (take 2 r) (ys ++ drop (length r - 2) (drop 2 r)),
  length-append ys (drop (length r - 2) (drop 2 r)),
  length-take-le 2 r h,
  ap length (tail_all r),
  length-drop 2 r,
  length-drop (length r - 2) (drop 2 r),
)

two : (r : List ℕ) (u v : ℕ) → 2 ≤ length r → set (set r 0 u) 1 v ≡ u ∷ v ∷ drop 2 r
two [] u v h = absurd (omega arith)
two (_ ∷ []) u v h = absurd (omega arith)
two (_ ∷ _ ∷ r) u v h = refl

-- the number is put in front of new flags
pub head_put : (r ys : List ℕ) (u v : ℕ) → 2 ≤ length r → set (set (take 2 r ++ (ys ++ drop (length r - 2) (drop 2 r))) 0 u) 1 v ≡ u ∷ v ∷ ys
head_put r ys u v h =
    two (take 2 r ++ (ys ++ drop (length r - 2) (drop 2 r))) u v (omega (arith, length-append (take 2 r) (ys ++ drop (length r - 2) (drop 2 r)), length-take-le 2 r h))
    ∙ ap (λ (l : List ℕ). u ∷ v ∷ l) (tail_put r ys h)

module _ (s : Operands) (is : operation_of s.op ≡ concatenation) where
  pub concat_width : s.width ≡ 2 + s.right.states
  concat_width = s.fits.width ∙ rw is

  pub concat_room : 2 < s.width
  concat_room = omega (arith, concat_width, s.right.closed.some)

  -- as many flags as states of B
  pub concat_tail : (row : List ℕ) → length row ≡ s.width → length (take (length row - 2) (drop 2 row)) ≡ s.right.states
  concat_tail row w = omega (arith, ap length (tail_all row), length-drop 2 row, concat_width)

  -- the row that is made from its flags so far
  made : (p : ℕ) (f : ℕ → Bool) (r : List ℕ) → p < s.left.states → Flags s.right.states f r → number_bytes p (with_zero (flag_at s.left.cells.now p) r) ≡ concat_row (left_of s) s.right.states p f
  unfolding with_zero
  made p f r h G = go (bool_cases (flag_at s.left.cells.now p))
    where
      same : (left_of s).accepting p ≡ flag_at s.left.cells.now p
      same = machine_accepting s.left p h

      go : (flag_at s.left.cells.now p ≡ true) ⊎ (flag_at s.left.cells.now p ≡ false) → number_bytes p (choose (flag_at s.left.cells.now p) (λ _. set r 0 1) (λ _. r)) ≡ concat_row (left_of s) s.right.states p f
      go (inl t) = rw (same, t) (ap (number_bytes p) (flags_row (flags_add 0 G s.right.closed.some)))
      go (inr t) = rw (same, t) (ap (number_bytes p) (flags_row (flags_same G (λ u b. sym (or_false (f u))))))

  -- a row's number and flags, written, and its sum
  pub concat_put : (row ys r1 : List ℕ) (x sum total : ℕ) → length row ≡ s.width → Summed 2 ys sum → r1 ≡ set (set (take 2 row ++ (ys ++ drop (length row - 2) (drop 2 row))) 0 (x % 256)) 1 (x / 256)
      → total ≡ x % 256 * weight 0 + (x / 256 * weight 1 + sum) → (r1 ≡ number_bytes x ys) × (total ≡ row_sum 0 r1)
  concat_put row ys r1 x sum total w S e y =
      let z : r1 ≡ number_bytes x ys = e ∙ head_put row ys (x % 256) (x / 256) (omega (arith, concat_room)) in
      (z, y ∙ ap (λ (v : ℕ). x % 256 * weight 0 + (x / 256 * weight 1 + v)) S.is ∙ sum_two 0 (x % 256) (x / 256) ys ∙ ap (row_sum 0) (sym z))

  pub concat_start : (n : ℕ) (ys r1 : List ℕ) → n ≡ s.right.states → ys ≡ with_zero (flag_at s.left.cells.now 0) (replicate n 0) → r1 ≡ number_bytes 0 ys → r1 ≡ (rows_for s).start
  unfolding concat_rows
  concat_start n ys r1 w e g =
      let c : replicate {A = ℕ} n 0 ≡ replicate s.right.states 0 = ap (λ (m : ℕ). replicate {A = ℕ} m 0) w in
      rw is (g ∙ ap (number_bytes 0) e ∙ made 0 (λ t. false) (replicate n 0) s.left.closed.some (flags_none c))

  module _ (from : List ℕ) (S : Source s from) where
    pub concat_long : length from ≡ 2 + s.right.states
    concat_long = S.long ∙ concat_width

    pub concat_left : number_at from 0 < s.left.states
    concat_left = rw is at S.fits

    pub concat_flags : length (take (length from - 2) (drop 2 from)) ≡ s.right.states
    concat_flags = omega (arith, ap length (tail_all from), length-drop 2 from, concat_long)

    pub concat_accepts : (v : Bool) (n : ℕ) → n ≡ s.right.states → v ≡ some_accepting (flag_at (take (length from - 2) (drop 2 from))) (flag_at s.right.cells.now) n → v ≡ (rows_for s).accepting from
    unfolding concat_rows
    concat_accepts v n z e =
        rw is (rw z at e ∙ some_same s.right (flag_at (take (length from - 2) (drop 2 from))) (λ q. flag_at from (2 + q)) (λ q h. tail_flag from q))

    module _ (c : ℕ) (l : c < s.left.columns) (members : List ℕ) (held : ℕ) (L : Lists (λ q. flag_at from (2 + q)) s.right.states held members) where
      pub concat_asks : (row : List ℕ) → length row ≡ s.width → Pours s.right c held 2 members (take (length row - 2) (drop 2 row))
      concat_asks row w = record {
        column = right_column s c l;
        counted = L.counted;
        room = omega (arith, concat_tail row w);
        small = omega (arith, concat_tail row w, s.fits.right_small);
      }

      pub concat_next : (n : ℕ) (ys r1 : List ℕ) (x : ℕ) → n ≡ s.right.states → Target s.left (number_at from 0) c x
          → ys ≡ with_zero (flag_at s.left.cells.now x) (flag_row (led_by members (target_of s.right c) held) n) → r1 ≡ number_bytes x ys → r1 ≡ (rows_for s).step from c
      unfolding concat_rows
      concat_next n ys r1 x w to ey e =
          rw is (e ∙ ap (number_bytes x) ey ∙ made x member (flag_row (led_by members (target_of s.right c) held) n) to.inside flags
          ∙ ap (λ (p : ℕ). concat_row (left_of s) s.right.states p member) to.step)
        where
          member : ℕ → Bool
          member = leads_to (λ q. flag_at from (2 + q)) (λ q. (right_of s).step q c) s.right.states

          flags : Flags s.right.states member (flag_row (led_by members (target_of s.right c) held) n)
          flags = flags_same (row_flags (ap (flag_row (led_by members (target_of s.right c) held)) w))
              (λ t h. listed_leads L (target_of s.right c) t ∙ leads_step s.right (λ q. flag_at from (2 + q)) c (right_column s c l) t)
