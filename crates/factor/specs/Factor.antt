-- The shortest factor of a plan that lies inside no allowed plan: what the answer means, for any set of plans, and that one answer at most is right.
use Rattle.std.specs.Prelude.{◌≡◌, Bool, true, List, ◌++◌, ℕ, ◌+◌, ◌≤◌, ◌<◌, length, take, drop}

-- An "unbroken stretch": k letters of the plan from place i on.
abbrev pub factor : List ℕ → ℕ → ℕ → List ℕ
factor plan i k = take k (drop i plan)

-- s "lies inside some allowed plan".
abbrev pub Inside : (List ℕ → Bool) → List ℕ → Type 0
Inside ok s = (u : List ℕ) × (v : List ℕ) × (ok (u ++ (s ++ v)) ≡ true)

-- "its start and length, or "none""
pub data Shortest : Type 0 where
  none : Shortest
  at : (start length : ℕ) → Shortest

-- The factor of k letters at place i is "the shortest unbroken stretch that lies inside no allowed plan; of equal ones the leftmost".
pub record Blamed (ok : List ℕ → Bool) (plan : List ℕ) (i k : ℕ) : Type 0 where
  pub most : i + k ≤ length plan
  pub outside : ¬ Inside ok (factor plan i k)
  -- "every shorter stretch of this plan lies inside some allowed plan"
  pub shorter : (j l : ℕ) → j + l ≤ length plan → l < k → Inside ok (factor plan j l)
  pub left : (j : ℕ) → j < i → Inside ok (factor plan j k)

-- What each answer means: ""none" exactly when the whole plan lies inside some allowed plan".
pub data Blames (ok : List ℕ → Bool) (plan : List ℕ) : Shortest → Type 0 where
  is_none : Inside ok plan → Blames ok plan none
  is_at : (i k : ℕ) → Blamed ok plan i k → Blames ok plan (at i k)
