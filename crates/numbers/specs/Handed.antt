-- What an entry for Rust and C hands back.
use Rattle.std.specs.Prelude.{ℕ, List, [], ◌∷◌}
use Rattle.card.specs.Reply.{Reply, answered, refused}
use Rattle.card.specs.Answer.{Numbers, StepNumbers}
use Rattle.compiler.specs.Outcome.{Answer}
use Rattle.factor.specs.Factor.{Shortest, none, at}
use Rattle.census.specs.Census.{Census, counts, refused as uncounted}

-- The function's own result, which is the paper's number or 0, and the three numbers of `out`.
pub record Handed : Type 0 where
  pub number : ℕ
  pub out : List ℕ

abbrev pub handed : ℕ → List ℕ → Handed
handed number out = record { number = number; out = out }

-- loading, judging, many plans: two values, and 0
abbrev pub numbers : Numbers → Handed
numbers n = handed n.number (n.first ∷ n.second ∷ 0 ∷ [])

-- one step: the next state, its marks byte, the letters owed
abbrev pub step_handed : StepNumbers → Handed
step_handed n = handed n.number (n.state ∷ n.mark ∷ n.owed ∷ [])

-- what compiling returns: line, length, peak
abbrev pub answer_numbers : Answer → Handed
answer_numbers a = handed a.number (a.line ∷ a.length ∷ a.peak ∷ [])

-- the shortest factor inside no allowed plan: 1, its start and its length; 0, 0, 0 for none; or 21 to 26; or 27 with the letters before the first unknown one
abbrev pub shortest_numbers : Reply Shortest → Handed
shortest_numbers (answered none) = handed 0 (0 ∷ 0 ∷ 0 ∷ [])
shortest_numbers (answered (at i k)) = handed 0 (1 ∷ i ∷ k ∷ [])
shortest_numbers (refused number before) = handed number (0 ∷ before ∷ 0 ∷ [])

-- how many plans of a length are allowed, unfinished, hopeless; or 21 to 26; or 31
abbrev pub census_numbers : Census → Handed
census_numbers (counts a u h) = handed 0 (a ∷ u ∷ h ∷ [])
census_numbers (uncounted number) = handed number (0 ∷ 0 ∷ 0 ∷ [])
