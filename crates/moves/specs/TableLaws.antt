-- The rows of a table: their places, from either side, that moves stay among the states, and what is asked of each move of a row.
use Rattle.std.specs.Prelude.{◌≡◌, List, ℕ, suc, ◌+◌, ◌*◌, ◌-◌, ◌≤◌, ◌<◌, length, get_or, Bool, true, false}
use Rattle.std.specs.List.{All, list_any}
use Rattle.std.proofs.Common.{suc-mul, mul-le-mul_right, add-one, arith, sym, ◌∙◌, true≢false}
use Rattle.std.proofs.lemmas.List.Elements.{All-from_get_or}
use Rattle.std.proofs.lemmas.List.Folds.{Any-from_list_any, list_any_at}
use Rattle.std.proofs.lemmas.Grind.{get_or_default_zero}
use Rattle.automata.specs.Booleans.{not_true}
use Rattle.moves.specs.Holds.{Table, Row}

-- ---- the place of the row before and of the next

pub row_back : (m p at : ℕ) → 0 < p → at ≡ p * m → (m ≤ at) × (at - m ≡ (p - 1) * m)
row_back m p at h e = let z : suc (p - 1) ≡ p = omega arith in let y : suc (p - 1) * m ≡ (p - 1) * m + m = suc-mul (p - 1) m in let x : p * m ≡ (p - 1) * m + m = rw z at y in (omega arith, omega arith)

pub row_on : (m p at : ℕ) → at ≡ p * m → at + m ≡ (p + 1) * m
row_on m p at e = rw (add-one p) (omega (arith, e, suc-mul p m))

module _ (most m : ℕ) (ms bs : List ℕ) (t : Table most m ms bs) where
  pub row_room : (p at : ℕ) → at ≡ p * m → p < length ms → at + m ≤ length bs
  row_room p at e h = omega (arith, e, t.long, mul-le-mul_right {m = suc p} {n = length ms} m h, suc-mul p m)

  pub row_room_back : (p at : ℕ) → 0 < p → p ≤ length ms → at ≡ p * m → at - m + m ≤ length bs
  row_room_back p at h b e = omega (arith, (row_back m p at h e).0, mul-le-mul_right {m = p} {n = length ms} m b, t.long)

  -- ---- where moves lead

  pub below_most : (q : ℕ) → q < length bs → get_or bs q 0 < most
  below_most q h = omega (arith, t.inside q h, t.states_most)

  pub move_inside : (p i : ℕ) → p < length ms → i < m → get_or bs (p * m + i) 0 < length ms
  move_inside p i h b = t.inside (p * m + i) (omega (arith, t.long, mul-le-mul_right {m = suc p} {n = length ms} m h, suc-mul p m))

-- ---- one row

module _ (m : ℕ) (ms bs : List ℕ) (p : ℕ) (row : List ℕ) (r : Row m ms bs p row) where
  pub row_all : (P : ℕ → Type 0) → ((t : ℕ) → t < length ms → P t) → All P row
  row_all P f = All-from_get_or P row 0 (λ i h. f (get_or row i 0) (r.inside i h))

  -- Whether some move passes a test.
  pub some_move : (test : ℕ → Bool) → list_any test row ≡ true → (i : ℕ) × (i < m) × (test (get_or bs (p * m + i) 0) ≡ true)
  some_move test e =
      let (k, x, b, z, t) = Any-from_list_any test row e in
      let h : k < m = rw r.long at b in
      let y : get_or bs (p * m + k) 0 ≡ x = sym (r.entry k h) ∙ sym (get_or_default_zero row k x b) ∙ z in
      (k, h, rw y t)

  pub no_move : (test : ℕ → Bool) → list_any test row ≡ false → (i : ℕ) → i < m → test (get_or bs (p * m + i) 0) ≡ false
  no_move test e i h =
      let b : i < length row = rw r.long h in
      rw (← r.entry i h) (not_true (test (get_or row i 0)) (λ t. absurd (true≢false (sym (list_any_at test row i 0 b t) ∙ e))))
