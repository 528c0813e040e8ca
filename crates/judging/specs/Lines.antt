-- Bytes as they come, and the text of the plans that end in them (plans, Plans.antt: `ended`, `begun`, `last_plan`).
use Rattle.std.specs.Prelude.{◌≡◌, Bool, true, false, List, [], ◌∷◌, ℕ, ◌+◌, ◌≤◌, ◌<◌, ◌^◌, length, take}
use Rattle.plans.specs.Plans.{ended, begun, last_plan}
use Rattle.judging.specs.declared.State.{State}
use Rattle.judging.specs.declared.Fed.{Fed}
use Rattle.judging.specs.Plan.{Judges}
use Rattle.reply.specs.Text.{reply_lines, longest}

-- whether a byte of the plan has come
abbrev pub is_open : List ℕ → Bool
is_open [] = false
is_open (b ∷ u) = true

-- Since the last line end the bytes u have come.
pub record Since (c u : List ℕ) (s : State) : Type 0 where
  pub judges : Judges c u s.run
  pub opened : s.open ≡ is_open u

-- What has come is some u, and n more bytes of a plan can be counted.
pub record Counted (c : List ℕ) (s : State) (n : ℕ) : Type 0 where
  pub bytes : List ℕ
  pub since : Since c bytes s
  pub fits : length bytes + n < 2 ^ 64

-- Of the bytes s as many are taken as there is room for the lines of the plans that end in them; and at least one.
pub record Feeds (c : List ℕ) (state : State) (s out' : List ℕ) (r : Fed) : Type 0 where
  pub used : r.used ≤ length s
  pub some : 0 < length s → 0 < r.used
  pub room : r.used < length s → length out' < r.at + longest
  pub within : r.at ≤ length out'
  pub text : (u : List ℕ) → Since c u state → take r.at out' ≡ reply_lines c (ended u (take r.used s))
  pub since : (u : List ℕ) → Since c u state → Since c (begun u (take r.used s)) r.state

-- The line of the last plan, where bytes came after the last line end.
pub record Finishes (c : List ℕ) (state : State) (out' : List ℕ) (r : ℕ) : Type 0 where
  pub within : r ≤ length out'
  pub text : (u : List ℕ) → Since c u state → take r out' ≡ reply_lines c (last_plan u)
