-- The sets of concatenation, star and erasing, member by member: which nodes the start has, and which nodes a step leads to.
use Rattle.std.specs.Prelude.{◌≡◌, Bool, true, false, List, ℕ, suc, get_or}
use Rattle.automata.specs.Machine.{Machine, WellFormed}
use Rattle.automata.specs.Subset.{epsilons}
use Rattle.automata.specs.Operations.{erase_NFA}

-- x is in X
abbrev pub In : List Bool → ℕ → Type 0
In X x = get_or X x false ≡ true

-- ---- erasing column m

module _ (m : ℕ) (M : Machine) (F : WellFormed (suc m) M) where
  -- i marks from x
  abbrev pub mark_steps : ℕ → ℕ → ℕ
  mark_steps i x = epsilons (erase_NFA m M) i x
