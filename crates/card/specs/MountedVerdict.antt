-- What boards that were mounted before W3 reply to a plan, as 01 has it: the verdict without the number. It is today's reply less its number.
use Rattle.std.specs.Prelude.{◌≡◌, Bool, true, false, List, ◌++◌, ℕ, ◌≤◌, ◌<◌, length, take, eqb}
use Rattle.automata.specs.Booleans.{choose}
use Rattle.automata.specs.Format.{Format}
use Rattle.card.specs.Layout.{mark_at}
use Rattle.card.specs.Verdict as Today
use Rattle.card.specs.Verdict.{Verdict}
use Rattle.card.specs.Reply.{Reply, answered, asked}
use Rattle.card.specs.Judge.{by_place, state_after, first_dead}
use Rattle.card.specs.Demand.{Demanded}

-- "allowed, unfinished, or hopeless with a place"
pub data MountedVerdict : Type 0 where
  allowed unfinished : MountedVerdict
  hopeless : (place : ℕ) → MountedVerdict

-- "Unfinished means not allowed, though some longer plan beginning so is. Hopeless with place k means that k is the least number, from 0 to the
-- plan's length, for which no allowed plan begins with the plan's first k letters."
pub data MountedSays (ok : List ℕ → Bool) (plan : List ℕ) : MountedVerdict → Type 0 where
  is_allowed : ok plan ≡ true → MountedSays ok plan allowed
  is_unfinished : ok plan ≡ false → (rest : List ℕ) → ok (plan ++ rest) ≡ true → MountedSays ok plan unfinished
  is_hopeless : (k : ℕ) → k ≤ length plan → ((rest : List ℕ) → ok (take k plan ++ rest) ≡ false)
      → ((j : ℕ) → j < k → (rest : List ℕ) × (ok (take j plan ++ rest) ≡ true)) → MountedSays ok plan (hopeless k)

-- by the marks byte of the last state, where none was dead
abbrev pub mounted_at : Format → List ℕ → ℕ → MountedVerdict
mounted_at fmt c p = choose (eqb (mark_at fmt c p) 1) (λ _. allowed) (λ _. unfinished)

abbrev pub mounted_verdict : Format → List ℕ → List ℕ → MountedVerdict
mounted_verdict fmt c plan = by_place (first_dead fmt c plan 0 0) hopeless (λ _. mounted_at fmt c (state_after fmt c plan 0))

unfoldable pub mounted_judge : Format → List ℕ → List ℕ → Reply MountedVerdict
mounted_judge fmt c plan = asked fmt c plan (mounted_verdict fmt c plan)

-- ---- less its number

abbrev pub less_number : Verdict → MountedVerdict
less_number Today.allowed = allowed
less_number (Today.unfinished k) = unfinished
less_number (Today.hopeless k) = hopeless k

-- "judging answers with a verdict and no refusal", the right one of 01 and the only right one.
pub record MountedJudged (fmt : Format) (ok : List ℕ → Bool) (c plan : List ℕ) : Type 0 where
  pub answer : MountedVerdict
  pub replied : mounted_judge fmt c plan ≡ answered answer
  pub right : MountedSays ok plan answer
  pub only : (v : MountedVerdict) → MountedSays ok plan v → v ≡ answer

-- Demand 3 on a mounted board: its verdicts are those of 01, and all else is as it is today.
abbrev pub MountedDemand3 : Format → List ℕ → (List ℕ → Bool) → List ℕ → Type 0
MountedDemand3 fmt ls ok c = Demanded fmt ls ok c (MountedJudged fmt ok c)
