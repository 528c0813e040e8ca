-- One letter more on the left: the answer for the longer plan, from that for the plan and from the shortest beginning that lies inside no allowed plan.
use Rattle.std.specs.Prelude.{Bool, List, ℕ, ◌≤◌, ◌<◌, length, take}
use Rattle.factor.specs.Factor.{Inside}

-- The first k letters lie inside no allowed plan, and fewer do.
pub record ShortestStart (ok : List ℕ → Bool) (plan : List ℕ) (k : ℕ) : Type 0 where
  pub most : k ≤ length plan
  pub outside : ¬ Inside ok (take k plan)
  pub shorter : (l : ℕ) → l < k → Inside ok (take l plan)
