-- The flags of the rows, laid out one by one.
use mathlib.Core.Path.{◌≡◌, ◌∙◌}
use mathlib.Core.Logic.{inl, inr}
use mathlib.Core.List.{List}
use Prim.Native.Nat.{ℕ, ◌+◌, ◌<◌}
use native.Mathlib.Omega.{arith}
use lib.ListN.{length, get_or, set}
use lib.Seq.{get_or-set_same, get_or-set_other}
use Rattle.automata.specs.Basics.{LtCases, lt_cases}
use Rattle.automata.specs.Automaton.{Automaton}
use Rattle.rows.specs.Rows.{row_at, bit}
use Rattle.readings.specs.Flagged.{Flagged}

pub flagged_more : (R : Automaton (List ℕ)) (w limit p v : ℕ) (rows table table' : List ℕ) → Flagged R w limit p rows table table' → p < limit → p < length table'
    → v ≡ bit (R.accepting (row_at w p rows)) → Flagged R w limit (p + 1) rows table (set table' p v)
flagged_more R w limit p v rows table table' F h l e = record { set = λ x b. go x b (lt_cases x p); kept = λ i g. get_or-set_other table' p i v 0 (λ z. omega arith) ∙ F.kept i g }
  where
    go : (x : ℕ) → x < p + 1 → LtCases x p → get_or (set table' p v) x 0 ≡ bit (R.accepting (row_at w x rows))
    go x b (inl y) = get_or-set_other table' p x v 0 (λ z. let c = y.0 in omega arith) ∙ F.set x y.0
    go x b (inr y) = let z : x ≡ p = omega arith in rw z (get_or-set_same table' p v 0 l ∙ e)
