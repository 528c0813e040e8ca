-- What the parts of counting require and leave.
use Rattle.std.specs.Prelude.{◌≡◌, List, ℕ, ◌^◌, ◌≤◌, length}
use Rattle.census.specs.Census.{longest_plan, most_plans, Census, counts}
use Rattle.arrivals.specs.Weights.{weighed, mark_weight}

-- A length within the bounds for m letters, and two rows with a number for each of n states.
pub record Countable (m n k : ℕ) (here next : List ℕ) : Type 0 where
  pub short : k ≤ longest_plan
  pub few : m ^ k ≤ most_plans
  pub here_long : length here ≡ n
  pub next_long : length next ≡ n

-- The sums of a row by the marks bytes "1 where a plan may end", 0, and "2 where no continuation is allowed".
abbrev pub sums_of : List ℕ → List ℕ → Census
sums_of row ms = counts (weighed (mark_weight ms 1) row) (weighed (mark_weight ms 0) row) (weighed (mark_weight ms 2) row)
