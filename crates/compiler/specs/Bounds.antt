-- Bounds of an accepted book: its kept machine has no more states than the limit, and no stage of it made more sets than the limit.
use Rattle.std.specs.Prelude.{List, [], ◌∷◌, ℕ, ◌≤◌}
use Rattle.automata.specs.Format.{Format}
use Rattle.automata.specs.Machine.{size}
use Rattle.compiler.specs.Book.{Draft}

-- each number of the list is at most n
abbrev pub EachMost : ℕ → List ℕ → Type 0
EachMost n [] = Unit {0}
EachMost n (c ∷ cs) = (c ≤ n) × EachMost n cs

module _ (fmt : Format) where
  -- ---- lines and books

  pub record DraftWithin (d : Draft) : Type 0 where
    pub counts : EachMost fmt.most_sets d.counts
    pub states : size d.kept ≤ fmt.most_states
