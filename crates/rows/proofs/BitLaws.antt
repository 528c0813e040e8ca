-- One flag more in a row of flags.
use mathlib.Core.Path.{◌≡◌, sym, ap, ◌∙◌}
use mathlib.Core.Bool.{true}
use mathlib.Core.Logic.{◌⊎◌, inl, inr}
use mathlib.Core.List.{List}
use Prim.Native.Nat.{ℕ, ◌<◌}
use lib.ListN.{length, get_or, set}
use lib.Seq.{get_or-set_same, get_or-set_other}
use Rattle.automata.specs.Basics.{SameCases, same_cases, nat_test}
use Rattle.automata.specs.Table.{flag_of}
use Rattle.rows.specs.Rows.{bit, flag_at}
use Rattle.rows.specs.Sums.{Bits}

module _ (l : List ℕ) (q : ℕ) (h : q < length l) where
  pub flag_here : flag_at (set l q 1) q ≡ true
  flag_here = ap flag_of (get_or-set_same l q 1 0 h)

  pub flag_other : (x : ℕ) → (x ≡ q → ⊥) → flag_at (set l q 1) x ≡ flag_at l x
  flag_other x o = ap flag_of (get_or-set_other l q x 1 0 o)

  pub flag_keep : (x : ℕ) → flag_at l x ≡ true → flag_at (set l q 1) x ≡ true
  flag_keep x e = go (same_cases nat_test x q)
    where
      go : SameCases nat_test x q → flag_at (set l q 1) x ≡ true
      go (inl p) = rw p.0 flag_here
      go (inr p) = flag_other x p.0 ∙ e

  pub flag_source : (x : ℕ) → flag_at (set l q 1) x ≡ true → (x ≡ q) ⊎ (flag_at l x ≡ true)
  flag_source x e = go (same_cases nat_test x q)
    where
      go : SameCases nat_test x q → (x ≡ q) ⊎ (flag_at l x ≡ true)
      go (inl p) = inl p.0
      go (inr p) = inr (sym (flag_other x p.0) ∙ e)

  pub bits_set : Bits l → Bits (set l q 1)
  bits_set b x = go (same_cases nat_test x q)
    where
      go : SameCases nat_test x q → get_or (set l q 1) x 0 ≡ bit (flag_at (set l q 1) x)
      go (inl p) = rw (p.0, flag_here, get_or-set_same l q 1 0 h)
      go (inr p) = get_or-set_other l q x 1 0 p.0 ∙ b x ∙ ap bit (sym (flag_other x p.0))
