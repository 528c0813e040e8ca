-- A kept machine in a slot of bytes: the number of its states in two bytes, low byte first, then its table, whose transitions begin behind room for
-- `most` flags. What code copies and fills in such lists, entry by entry.
use Rattle.std.specs.Prelude.{◌≡◌, refl, Bool, true, false, ◌⊎◌, ◌≢◌, List, map, ℕ, ◌+◌, ◌*◌, ◌≤◌, ◌<◌, length, get_or, take, drop, set}
use Rattle.std.proofs.Common.{sym, ap, ap₂, ◌∙◌, inl, inr, mul-le-mul_right, arith, length-drop, length-set, get_or-take, get_or-drop, get_or-set_same, get_or-set_other, ext_get_or, length-take-le}
use Rattle.automata.specs.Basics.{SameCases, same_cases, nat_test}
use Rattle.automata.specs.Machine.{Machine}
use Rattle.automata.specs.Rows.{rows, cell_below}
use Rattle.automata.specs.Table.{table_machine, flag_of, ClosedTable}
use Rattle.rows.specs.Rows.{number_at, bit}
use Rattle.slots.specs.declared.slot.Sizes.{Sizes}

-- a flag as a byte says the flag
pub flag_bit_lem : (a : Bool) → flag_of (bit a) ≡ a
flag_bit_lem true = refl
flag_bit_lem false = refl

-- the machine over k columns that the bytes of a slot hold
unfoldable pub slot_machine : ℕ → ℕ → List ℕ → Machine
slot_machine most k s = table_machine most (number_at s 0) k (drop 2 s)

-- The slot holds a machine: its table is closed.
pub record Slot (most k : ℕ) (s : List ℕ) : Type 0 where
  pub closed : ClosedTable most (number_at s 0) k (drop 2 s)

-- The slot holds the machine M.
pub record Holds (most k : ℕ) (s : List ℕ) (M : Machine) : Type 0 where
  pub slot : Slot most k s
  pub machine : slot_machine most k s ≡ M

-- The slot's table, unpacked into a list of numbers with r states.
pub record Unpacked (most k : ℕ) (s t : List ℕ) (r : ℕ) : Type 0 where
  pub count : r ≡ number_at s 0
  pub closed : ClosedTable most r k t
  pub same : table_machine most r k t ≡ slot_machine most k s

-- ---- tables with the same entries

-- The first n entries, and those behind place `base`, say what machine a table holds.
pub table_same : (base n k : ℕ) (t u : List ℕ) → ClosedTable base n k t → base + n * k ≤ length u → ((i : ℕ) → i < base + n * k → get_or t i 0 ≡ get_or u i 0)
    → ClosedTable base n k u × (table_machine base n k t ≡ table_machine base n k u)
unfolding table_machine
table_same base n k t u C l e = (
  record { some = C.some; flags = C.flags; long = l; inside = λ p c h b. rw (← e (base + (p * k + c)) (cell p c h b)) (C.inside p c h b) },
  λ i. record { accepting = map flag_of (flags i); moves = rows n k (moves i) },
)
  where
    cell : (p c : ℕ) → p < n → c < k → base + (p * k + c) < base + n * k
    cell p c h b = omega (arith, cell_below n k p c h b)

    flags : take n t ≡ take n u
    flags =
        let a : length (take n t) ≡ n = length-take-le n t (omega (arith, C.long, C.flags)) in
        let b : length (take n u) ≡ n = length-take-le n u (omega (arith, C.flags)) in
        ext_get_or 0 (take n t) (take n u) (a ∙ sym b) λ i h.
        let v : i < n = rw a at h in
        get_or-take n t i 0 v ∙ e i (omega (arith, C.flags)) ∙ sym (get_or-take n u i 0 v)

    moves : take (n * k) (drop base t) ≡ take (n * k) (drop base u)
    moves =
        let a : length (take (n * k) (drop base t)) ≡ n * k = length-take-le (n * k) (drop base t) (omega (arith, C.long, length-drop base t)) in
        let b : length (take (n * k) (drop base u)) ≡ n * k = length-take-le (n * k) (drop base u) (omega (arith, length-drop base u)) in
        ext_get_or 0 (take (n * k) (drop base t)) (take (n * k) (drop base u)) (a ∙ sym b) λ i h.
        let v : i < n * k = rw a at h in
        get_or-take (n * k) (drop base t) i 0 v ∙ get_or-drop base t i 0 ∙ e (base + i) (omega arith) ∙ sym (get_or-drop base u i 0) ∙ sym (get_or-take (n * k) (drop base u) i 0 v)

-- ---- entries written one by one

-- t is s with the `len` entries from place `from` on replaced by those that f says.
pub record Written (s t : List ℕ) (from len : ℕ) (f : ℕ → ℕ) : Type 0 where
  pub long : length t ≡ length s
  pub here : (i : ℕ) → i < len → get_or t (from + i) 0 ≡ f i
  pub there : (j : ℕ) → (j < from) ⊎ (from + len ≤ j) → get_or t j 0 ≡ get_or s j 0

pub written_none : (s : List ℕ) (from : ℕ) (f : ℕ → ℕ) → Written s s from 0 f
written_none s from f = record { long = refl; here = λ i h. absurd (omega arith); there = λ j h. refl }

pub written_more : (s t : List ℕ) (from len : ℕ) (f : ℕ → ℕ) (v : ℕ) → Written s t from len f → from + len < length s → v ≡ f len → Written s (set t (from + len) v) from (len + 1) f
written_more s t from len f v w b e = record {
  long = length-set t (from + len) v ∙ w.long;
  here = λ i h. here i h (same_cases nat_test i len);
  there = λ j h. get_or-set_other t (from + len) j v 0 (away j h) ∙ w.there j (out j h);
}
  where
    here : (i : ℕ) → i < len + 1 → SameCases nat_test i len → get_or (set t (from + len) v) (from + i) 0 ≡ f i
    here i h (inl p) = let z : i ≡ len = p.0 in rw z (get_or-set_same t (from + len) v 0 (omega (arith, w.long)) ∙ e)
    here i h (inr p) = let n : i ≢ len = p.0 in get_or-set_other t (from + len) (from + i) v 0 (λ q. n (omega arith)) ∙ w.here i (omega arith)

    away : (j : ℕ) → (j < from) ⊎ (from + (len + 1) ≤ j) → j ≢ from + len
    away j (inl h) q = omega arith
    away j (inr h) q = omega arith

    out : (j : ℕ) → (j < from) ⊎ (from + (len + 1) ≤ j) → (j < from) ⊎ (from + len ≤ j)
    out j (inl h) = inl h
    out j (inr h) = inr (omega arith)

-- ---- slots unpacked

-- The slot's table stands in t from a place on, and nothing before that place is changed.
pub record UnpackedAt (most k : ℕ) (s t₀ t : List ℕ) (to r : ℕ) : Type 0 where
  pub table : Unpacked most k s (drop to t) r
  pub before : (j : ℕ) → j < to → get_or t j 0 ≡ get_or t₀ j 0
  pub long : length t ≡ length t₀

-- Both operands' tables, the second half behind the first.
pub record Loaded (most k : ℕ) (s u t : List ℕ) (r : Sizes) : Type 0 where
  pub left : Unpacked most k s t r.left
  pub right : Unpacked most k u (drop (most + most * k) t) r.right

-- A slot is as long as its table says.
pub slot_long : {most k : ℕ} {s : List ℕ} → Slot most k s → (r : ℕ) → r ≡ number_at s 0 → 2 + (most + r * k) ≤ length s
slot_long {most} {k} {s} C r e = let D : ClosedTable most r k (drop 2 s) = rw (← e) at C.closed in omega (arith, D.long, D.some, D.flags, length-drop 2 s)

-- and its table has room for `most` states
pub slot_cells : {most k : ℕ} {s : List ℕ} → Slot most k s → number_at s 0 * k ≤ most * k
slot_cells {most} {k} {s} C = mul-le-mul_right {m = number_at s 0} {n = most} k C.closed.flags

-- a slot that begins at a place
pub slot_ends : {most k : ℕ} (s : List ℕ) (at : ℕ) → Slot most k (drop at s) → (r : ℕ) → r ≡ number_at (drop at s) 0 → at + 2 + (most + r * k) ≤ length s
slot_ends {most} {k} s at C r e = omega (arith, slot_long C r e, length-drop at s)

pub number_drop : (s : List ℕ) (at : ℕ) → number_at s at ≡ number_at (drop at s) 0
number_drop s at = ap₂ (λ a b. a + 256 * b) (ap (λ i. get_or s i 0) (plus_zero at) ∙ sym (get_or-drop at s 0 0)) (sym (get_or-drop at s 1 0))
  where
    plus_zero : (n : ℕ) → n ≡ n + 0
    plus_zero n = omega arith

-- A slot copied as far as its table goes is unpacked.
pub unpacked : {most k : ℕ} (s : List ℕ) (at : ℕ) → Slot most k (drop at s) → (r : ℕ) (t₀ t : List ℕ) (to : ℕ) → r ≡ number_at (drop at s) 0 → to + (most + r * k) ≤ length t₀
    → Written t₀ t to (most + r * k) (λ i. get_or s (at + 2 + i) 0) → UnpackedAt most k (drop at s) t₀ t to r
unfolding slot_machine
unpacked {most} {k} s at C r t₀ t to e l w =
    let D : ClosedTable most r k (drop 2 (drop at s)) = rw (← e) at C.closed in
    let (c, m) = table_same most r k (drop 2 (drop at s)) (drop to t) D (omega (arith, length-drop to t, w.long)) (λ i b. from i ∙ sym (w.here i b) ∙ sym (get_or-drop to t i 0)) in
    record {
      table = record { count = e; closed = c; same = sym m ∙ ap (λ n. table_machine most n k (drop 2 (drop at s))) e };
      before = λ j h. w.there j (inl h);
      long = w.long;
    }
  where
    from : (i : ℕ) → get_or (drop 2 (drop at s)) i 0 ≡ get_or s (at + 2 + i) 0
    from i = let z : at + (2 + i) ≡ at + 2 + i = omega arith in get_or-drop 2 (drop at s) i 0 ∙ get_or-drop at s (2 + i) 0 ∙ ap (λ i. get_or s i 0) z

-- A table that ends before the place from which on another is unpacked stays.
pub loaded : {most k : ℕ} {s u t₀ t₁ t : List ℕ} (r : Sizes) → UnpackedAt most k s t₀ t₁ 0 r.left → UnpackedAt most k u t₁ t (most + most * k) r.right → Loaded most k s u t r
loaded {most} {k} {s} {u} {t₀} {t₁} {t} r a b = record { left = record { count = a.table.count; closed = kept.0; same = sym kept.1 ∙ a.table.same }; right = b.table }
  where
    fits : most + r.left * k ≤ most + most * k
    fits = omega (arith, mul-le-mul_right {m = r.left} {n = most} k a.table.closed.flags)

    kept : ClosedTable most r.left k t × (table_machine most r.left k t₁ ≡ table_machine most r.left k t)
    kept = table_same most r.left k t₁ t a.table.closed (omega (arith, a.table.closed.long, b.long)) (λ i h. sym (b.before i (omega (arith, fits))))
