-- Rows end to end in a list: where they lie, comparing one, and putting one behind the others.
use mathlib.Core.Path.{◌≡◌, sym, ap, ◌∙◌}
use mathlib.Core.List.{List, ◌++◌, append_assoc}
use Prim.Native.Nat.{ℕ, zero, suc, ◌+◌, ◌*◌, ◌-◌, ◌<◌, ◌≤◌}
use native.Mathlib.Nat.{mul-le-mul_right, suc-mul, add-sub_cancel_left, zero-add, suc-add, le_refl}
use native.Mathlib.Omega.{arith}
use mathlib.Core.List.{[], ◌∷◌}
use lib.ListN.{length, take, drop, length-take, length-append, length-drop}
use lib.Seq.{take_at, drop_at, take-nil, take-take, take_all, drop-append-le, take-append-le, length-take-le}
use Rattle.rows.specs.Chains.{Appended}
use Rattle.rows.specs.Rows.{row_at}

-- a row below the count lies within the rows
pub row_within : (j c w : ℕ) → j < c → j * w + w ≤ c * w
row_within j c w h = omega (arith, mul-le-mul_right w h, suc-mul j w)

-- a cell of a row below the count lies within the table
pub cell_within : (p n k l : ℕ) → p < n → l < k → p * k + l < n * k
cell_within p n k l h h' = omega (arith, row_within p n k h)

-- the part of a list that a row is
pub row_part : (w j : ℕ) (s : List ℕ) → take (j * w + w - j * w) (drop (j * w) s) ≡ row_at w j s
row_part w j s = rw add-sub_cancel_left

pub row_length : (w j : ℕ) (s : List ℕ) → j * w + w ≤ length s → length (row_at w j s) ≡ w
row_length w j s h = length-take-le w (drop (j * w) s) (omega (arith, length-drop (j * w) s))

drop_take : (n m : ℕ) (l : List ℕ) → drop n (take (n + m) l) ≡ take m (drop n l)
drop_take zero m l = rw zero-add
drop_take (suc n) m [] = ap (drop (suc n)) (take-nil (suc n + m)) ∙ sym (take-nil m)
drop_take (suc n) m (x ∷ xs) = ap (λ (k : ℕ). drop (suc n) (take k (x ∷ xs))) (suc-add n m) ∙ drop_take n m xs

-- a row lies in the prefix of that many rows
row_prefix : (w j e : ℕ) (s : List ℕ) → j * w + w ≤ e → row_at w j (take e s) ≡ row_at w j s
row_prefix w j e s h =
    ap (λ (k : ℕ). take w (drop (j * w) (take k s))) more
    ∙ ap (take w) (drop_take (j * w) (e - j * w) s)
    ∙ take-take w (e - j * w) (drop (j * w) s) (omega arith)
  where
    more : e ≡ j * w + (e - j * w)
    more = omega arith

-- a row is put behind the rows before it
module _ (w n : ℕ) (s row ys : List ℕ) (e : length row ≡ w) (h : n * w + w ≤ length s) (full : ys ≡ row) where
  abbrev after : List ℕ
  after = take (n * w) s ++ (ys ++ drop (n * w + w - n * w) (drop (n * w) s))

  front : take (n * w + w) after ≡ take (n * w) s ++ row
  front =
      ap (λ (y : List ℕ). take (n * w + w) (take (n * w) s ++ (y ++ drop (n * w + w - n * w) (drop (n * w) s)))) full
      ∙ ap (take (n * w + w)) (sym (append_assoc (take (n * w) s) row _))
      ∙ take_at (take (n * w) s ++ row) _ (n * w + w) (omega (arith, length-append (take (n * w) s) row, length-take (n * w) s))

  long : length (take (n * w) s) ≡ n * w
  long = length-take-le (n * w) s (omega arith)

  kept : (i : ℕ) → i < n → row_at w i after ≡ row_at w i s
  kept i b =
      sym (row_prefix w i (n * w + w) after (omega (arith, row_within i n w b)))
      ∙ ap (row_at w i) front
      ∙ ap (take w) (drop-append-le (i * w) (take (n * w) s) row (omega (arith, row_within i n w b, long)))
      ∙ take-append-le w (drop (i * w) (take (n * w) s)) row (omega (arith, row_within i n w b, long, length-drop (i * w) (take (n * w) s)))
      ∙ row_prefix w i (n * w) s (row_within i n w b)

  put : row_at w n after ≡ row
  put =
      sym (row_prefix w n (n * w + w) after (le_refl (n * w + w)))
      ∙ ap (row_at w n) front
      ∙ ap (take w) (drop_at (take (n * w) s) row (n * w) long)
      ∙ take_all w row (omega arith)

  pub appended : Appended w n s row after
  appended = record { before = kept; here = put }
