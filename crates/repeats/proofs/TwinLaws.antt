-- Columns that lead the states of a row to the same places lead the row to the same row.
use mathlib.Core.Path.{◌≡◌, refl, ap, ap₂, ◌∙◌}
use mathlib.Core.Bool.{Bool, true, false, ◌&&◌, ◌||◌}
use Rattle.std.specs.Prelude.{Option, Some, None, IfSome}
use mathlib.Core.List.{List}
use mathlib.Core.Logic.{◌⊎◌, inl, inr}
use Rattle.automata.specs.Booleans.{bool_cases}
use Prim.Native.Nat.{ℕ, suc, ◌+◌, ◌-◌, ◌<◌, ◌≤◌}
use native.Mathlib.Omega.{arith}
use lib.Dec.{eqb}
use lib.ListN.{length, get_or, set, replicate, length-set, length-replicate, get_or-replicate}
use lib.Seq.{get_or-set_same, get_or-set_other}
use Rattle.automata.specs.Basics.{LtCases, lt_cases}
use borrow.Author.Tests.{eq-eqb, ne_eqb}
use Rattle.automata.specs.Automaton.{Automaton}
use Rattle.automata.specs.Decide.{any_below}
use Rattle.rows.specs.Rows.{number_at, number_bytes, flag_at, pair_row}
use Rattle.flags.specs.Flags.{flag_row, leads_to}
use Rattle.flags.proofs.FlagLaws.{flags_row, row_flags, flags_same, any_ext}
use Rattle.sets.specs.Fits.{left_of, right_of, rows_for, RowFits}
use Rattle.sets.specs.Operations.{ends, marks, Operation, pairing, concatenation, star, erase, operation_of, rows_of, pair_rows, concat_rows, star_rows, erase_rows}
use Rattle.sets.specs.declared.operands.Operands.{Operands}
use Rattle.repeats.specs.Twins.{Twins, TwinTable}

-- rows whose flags two tests say alike
row_ext : (f g : ℕ → Bool) (n : ℕ) → ((t : ℕ) → f t ≡ g t) → flag_row f n ≡ flag_row g n
row_ext f g n e = flags_row {m = n} {f = g} {row = flag_row f n} (flags_same {m = n} {f = f} {g = g} {row = flag_row f n} (row_flags {m = n} {f = f} {row = flag_row f n} refl) (λ t h. e t))

-- members that lead alike lead to the same states
led : (n : ℕ) (member : ℕ → Bool) (to to' : ℕ → ℕ) → ((q : ℕ) → q < n → member q ≡ true → to q ≡ to' q) → (t : ℕ) → leads_to member to n t ≡ leads_to member to' n t
led n member to to' e t = any_ext (λ q. member q && eqb (to q) t) (λ q. member q && eqb (to' q) t) n (λ q h. go q h (bool_cases (member q)))
  where
    go : (q : ℕ) → q < n → (member q ≡ true) ⊎ (member q ≡ false) → member q && eqb (to q) t ≡ member q && eqb (to' q) t
    go q h (inl y) = ap (λ (x : ℕ). member q && eqb x t) (e q h y)
    go q h (inr y) = rw y

module _ (m na nb : ℕ) (A B : Automaton ℕ) (d c : ℕ) where
  -- the states in a row lead to the same places by d and by c
  abbrev pub Alike : Operation → List ℕ → Type 0
  Alike (pairing o) r = (A.step (number_at r 0) d ≡ A.step (number_at r 0) c) × (B.step (number_at r 2) d ≡ B.step (number_at r 2) c)
  Alike concatenation r = (A.step (number_at r 0) d ≡ A.step (number_at r 0) c) × ((q : ℕ) → q < nb → flag_at r (2 + q) ≡ true → B.step q d ≡ B.step q c)
  Alike star r = (q : ℕ) → q < na → flag_at r q ≡ true → A.step q d ≡ A.step q c
  Alike erase r = (d ≡ m → ⊥) × (c ≡ m → ⊥) × ((q : ℕ) → q < na → flag_at r q ≡ true → A.step q d ≡ A.step q c)

  -- what a row is gained by, for members that are the same
  some_led : (r : List ℕ) → ((q : ℕ) → q < na → flag_at r q ≡ true → A.step q d ≡ A.step q c) → (f : ℕ → Bool)
      → any_below (λ q. leads_to (flag_at r) (λ p. A.step p d) na q && f q) na ≡ any_below (λ q. leads_to (flag_at r) (λ p. A.step p c) na q && f q) na
  some_led r e f = any_ext (λ q. leads_to (flag_at r) (λ p. A.step p d) na q && f q) (λ q. leads_to (flag_at r) (λ p. A.step p c) na q && f q) na
      (λ q h. ap (λ (x : Bool). x && f q) (led na (flag_at r) (λ p. A.step p d) (λ p. A.step p c) e q))

  pub alike_step : (o : Operation) (r : List ℕ) → Alike o r → (rows_of o m na A nb B).step r d ≡ (rows_of o m na A nb B).step r c
  unfolding pair_rows concat_rows star_rows erase_rows
  alike_step (pairing o) r (x, y) = ap₂ pair_row x y
  alike_step concatenation r (x, e) =
      rw x
      (ap (number_bytes (A.step (number_at r 0) c))
      (row_ext _ _ nb (λ t. ap (λ (x : Bool). x || (A.accepting (A.step (number_at r 0) c) && eqb t 0)) (led nb (λ q. flag_at r (2 + q)) (λ q. B.step q d) (λ q. B.step q c) e t))))
  alike_step star r e =
      row_ext _ _ (suc na) (λ t. ap₂ (λ (x y : Bool). x || (y && ends na t)) (led na (flag_at r) (λ q. A.step q d) (λ q. A.step q c) e t) (some_led r e A.accepting))
  alike_step erase r (u, v, e) =
      rw (ne_eqb d m u, ne_eqb c m v)
      (row_ext _ _ na (λ t. some_led r e (λ q. any_below (λ i. eqb (marks A m i q) t) na)))

  -- columns that lead every state alike
  pub all_alike : (d ≡ m → ⊥) → (c ≡ m → ⊥) → ((q : ℕ) → q < na → A.step q d ≡ A.step q c) → ((q : ℕ) → q < nb → B.step q d ≡ B.step q c) → (o : Operation) (r : List ℕ) → RowFits o na nb r → Alike o r
  all_alike u v ea eb (pairing o) r (h, g) = (ea (number_at r 0) h, eb (number_at r 2) g)
  all_alike u v ea eb concatenation r h = (ea (number_at r 0) h, λ q l f. eb q l)
  all_alike u v ea eb star r h = λ q l f. ea q l
  all_alike u v ea eb erase r h = (u, v, λ q l f. ea q l)

pub twin_step : (s : Operands) (d c : ℕ) → Twins s d c → (r : List ℕ) → RowFits (operation_of s.op) s.left.states s.right.states r → (rows_for s).step r d ≡ (rows_for s).step r c
twin_step s d c W r h =
    let m = s.left.columns - 1 in
    alike_step m s.left.states s.right.states (left_of s) (right_of s) d c (operation_of s.op) r
    (all_alike m s.left.states s.right.states (left_of s) (right_of s) d c (λ e. omega (arith, W.low)) (λ e. omega (arith, W.high)) W.left W.right (operation_of s.op) r h)

-- By the mark an erase leads every row to the empty one.
pub mark_step : (s : Operands) (r r' : List ℕ) (c : ℕ) → operation_of s.op ≡ erase → c ≡ s.left.columns - 1 → (rows_for s).step r c ≡ (rows_for s).step r' c
unfolding erase_rows
mark_step s r r' c o e = rw (o, eq-eqb c (s.left.columns - 1) e)

-- ---- the table of twins

-- The columns before c have their twins, those from c on none.
pub record TwinsTo (s : Operands) (l : List (Option ℕ)) (c : ℕ) : Type 0 where
  pub within : c ≤ 64
  pub long : length l ≡ 64
  pub none : (i : ℕ) → c ≤ i → i < 64 → get_or l i None ≡ None
  pub some : (i d : ℕ) → i < c → get_or l i None ≡ Some d → (d < i) × Twins s d i

pub twins_none : (s : Operands) → TwinsTo s (replicate 64 None) 0
twins_none s = record { within = omega arith; long = length-replicate {A = Option ℕ} 64 None; none = λ i h g. get_or-replicate {A = Option ℕ} 64 i None None g; some = λ i d h z. absurd (omega arith) }

pub twins_more : (s : Operands) (l : List (Option ℕ)) (c : ℕ) (o : Option ℕ) → TwinsTo s l c → c < 64 → IfSome o (λ d. (d < c) × Twins s d c) → TwinsTo s (set l c o) (c + 1)
twins_more s l c o T h new = record {
  within = omega arith;
  long = length-set l c o ∙ T.long;
  none = λ i g x. get_or-set_other l c i o None (λ z. omega arith) ∙ T.none i (omega arith) x;
  some = λ i d g z. go i d g z (lt_cases i c);
}
  where
    go : (i d : ℕ) → i < c + 1 → get_or (set l c o) i None ≡ Some d → LtCases i c → (d < i) × Twins s d i
    go i d g z (inl x) = T.some i d x.0 (rw (get_or-set_other l c i o None (λ y. omega (arith, x.0))) at z)
    go i d g z (inr x) =
        let e : i ≡ c = omega (arith, x.0) in
        let y : get_or (set l c o) c None ≡ Some d = rw e at z in
        rw e (rw (rw (get_or-set_same l c o None (omega (arith, T.long))) at y) at new)

pub twins_all : (s : Operands) (l : List (Option ℕ)) (c : ℕ) → TwinsTo s l c → TwinTable s l
twins_all s l c T = record { twin = λ i d h z. go i d h z (lt_cases i c) }
  where
    go : (i d : ℕ) → i < 64 → get_or l i None ≡ Some d → LtCases i c → (d < i) × Twins s d i
    go i d h z (inl x) = T.some i d x.0 z
    go i d h z (inr x) = let y : get_or l i None ≡ None = T.none i x.0 h in absurd (cc)
