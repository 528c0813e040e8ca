-- The keys that classes are split by: acceptance, and where a column leads.
use mathlib.Core.Path.{◌≡◌, refl, sym, ap, ◌∙◌}
use mathlib.Core.Bool.{Bool, true, false}
use mathlib.Core.List.{List}
use Prim.Native.Nat.{ℕ, ◌+◌, ◌*◌, ◌≤◌, ◌<◌}
use lib.ListN.{length, get_or}
use lib.Dec.{eqb}
use native.Mathlib.Omega.{arith}
use mir.Val.{bool_byte as from_bool}
use Rattle.moves.specs.Holds.{AcceptKeys}

-- ---- keys of the states below p

-- The keys below p are those of f.
pub record KeysUpto (most : ℕ) (f : ℕ → ℕ) (ks : List ℕ) (p : ℕ) : Type 0 where
  pub long : length ks ≡ most
  pub key : (q : ℕ) → q < p → get_or ks q 0 ≡ f q

-- ---- acceptance

abbrev pub accept_key : List ℕ → ℕ → ℕ
accept_key ms q = from_bool (eqb 1 (get_or ms q 0))

pub accept_done : (ms ks : List ℕ) (p : ℕ) → length ms ≤ p → KeysUpto 120 (accept_key ms) ks p → AcceptKeys ms ks
accept_done ms ks p l u = record {
  long = u.long;
  sound = λ q r h b e. alike (eqb 1 (get_or ms q 0)) (eqb 1 (get_or ms r 0)) (sym (u.key q (omega arith)) ∙ e ∙ u.key r (omega arith));
  whole = λ q r h b e. u.key q (omega arith) ∙ ap from_bool e ∙ sym (u.key r (omega arith));
}
  where
    alike : (a b : Bool) → from_bool a ≡ from_bool b → a ≡ b
    alike true true e = refl
    alike true false e = absurd (omega arith)
    alike false true e = absurd (omega arith)
    alike false false e = refl

-- ---- a column

abbrev pub column_key : ℕ → List ℕ → ℕ → List ℕ → ℕ → ℕ
column_key m bs c cs q = get_or cs (get_or bs (q * m + c) 0) 0
