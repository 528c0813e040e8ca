-- The table of columns, filled from the last letter on.
use mathlib.Core.Path.{◌≡◌, ap, ◌∙◌}
use mathlib.Core.Bool.{true, false}
use mathlib.Core.Logic.{◌⊎◌, inl, inr}
use mathlib.Core.List.{List, [], ◌∷◌}
use Prim.Native.Nat.{ℕ, suc, ◌+◌, ◌-◌, ◌≤◌, ◌<◌}
use native.Mathlib.Omega.{arith}
use lib.ListN.{length, get_or, set, drop, replicate, length-set, length-replicate, get_or-replicate, drop_of_length-le}
use lib.Seq.{drop-cons, get_or-set_same, get_or-set_other}
use lib.Dec.{eqb}
use Rattle.automata.specs.Booleans.{bool_cases}
use Rattle.automata.specs.Basics.{nat_test}
use Rattle.automata.specs.Decide.{contradict}
use Rattle.card.specs.Alphabet.{column}
use Rattle.run.specs.Walk.{ColumnTable}

-- The table has the columns of the letters from i on.
pub record TableFrom (ls t : List ℕ) (i : ℕ) : Type 0 where
  pub long : length t ≡ 256
  pub entry : (b : ℕ) → b < 256 → get_or t b 0 ≡ i + column (drop i ls) b

pub table_start : (ls : List ℕ) → TableFrom ls (replicate 256 (length ls)) (length ls)
table_start ls = record {
  long = length-replicate 256 (length ls);
  entry = λ b h. get_or-replicate 256 b (length ls) 0 h ∙ (let z : drop (length ls) ls ≡ [] = drop_of_length-le ls {i = length ls} (omega arith) in rw z (omega arith));
}

module _ (ls t : List ℕ) (i : ℕ) (some : 0 < i) (below : i ≤ length ls) (u : TableFrom ls t i) where
  abbrev x : ℕ
  x = get_or ls (i - 1) 0

  front : drop (i - 1) ls ≡ x ∷ drop i ls
  front = let z : suc (i - 1) ≡ i = omega arith in drop-cons ls (i - 1) 0 (omega arith) ∙ ap (λ k. x ∷ drop k ls) z

  pub table_next : x < 256 → TableFrom ls (set t x (i - 1)) (i - 1)
  table_next v = record { long = length-set t x (i - 1) ∙ u.long; entry = λ b h. go b h (bool_cases (eqb b x)) }
    where
      go : (b : ℕ) → b < 256 → (eqb b x ≡ true) ⊎ (eqb b x ≡ false) → get_or (set t x (i - 1)) b 0 ≡ i - 1 + column (drop (i - 1) ls) b
      go b h (inl e) =
          let z : b ≡ x = nat_test.sound b x e in
          rw (front, e) (ap (λ k. get_or (set t x (i - 1)) k 0) z ∙ get_or-set_same t x (i - 1) 0 (omega (arith, u.long)) ∙ omega arith)
      go b h (inr e) =
          rw (front, e) (get_or-set_other t x b (i - 1) 0 (λ z. contradict (rw z (nat_test.whole x)) e) ∙ u.entry b h ∙ omega arith)

pub table_done : (ls t : List ℕ) (i : ℕ) → i ≤ 0 → TableFrom ls t i → ColumnTable ls t
table_done ls t i h u = let z : i ≡ 0 = omega arith in record { entry = λ b v. let y : get_or t b 0 ≡ 0 + column (drop 0 ls) b = rw z at (u.entry b v) in y ∙ omega arith }
