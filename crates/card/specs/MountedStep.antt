-- One step of boards that were mounted before W3, as 01 has it: on any bytes, tested or not, and without the number. Where the card loads it is today's
-- step less the number; where it does not, today's step answers with the card's refusal.
use Rattle.std.specs.Prelude.{◌≡◌, ◌≢◌, List, ℕ, ◌≤◌, ◌<◌, ltb}
use Rattle.automata.specs.Decide.{unless}
use Rattle.automata.specs.Format.{Format}
use Rattle.card.specs.Layout.{letter_count, state_count, letter_at, mark_at, move_at, letters_of, Contents, contents_test}
use Rattle.card.specs.Alphabet.{column}
use Rattle.card.specs.Step as Today

-- "One step takes any bytes, a state and a letter; it gives the next state and its marks byte", or a refusal.
pub data MountedStepped : Type 0 where
  moved : (next mark : ℕ) → MountedStepped
  stopped : (number : ℕ) → MountedStepped

-- "It answers 21, 27, 28 or 23 (this one move only), tested in that order, and nothing more."
unfoldable pub mounted_step : Format → List ℕ → ℕ → ℕ → MountedStepped
mounted_step fmt c p l =
    let i = column (letters_of fmt c) l in
    let q = move_at fmt c p i in
    unless (stopped 21) (contents_test fmt c) λ _.
    unless (stopped 27) (ltb i (letter_count fmt c)) λ _.
    unless (stopped 28) (ltb p (state_count fmt c)) λ _.
    unless (stopped 23) (ltb q (state_count fmt c)) λ _.
    moved q (mark_at fmt c q)

-- "Where an untested card repeats a letter, the first one's column counts": i is the first column of l.
pub record First (fmt : Format) (c : List ℕ) (l i : ℕ) : Type 0 where
  pub on : i < letter_count fmt c
  pub is : letter_at fmt c i ≡ l
  pub before : (j : ℕ) → j < i → letter_at fmt c j ≢ l

-- What each answer means.
pub data MountedSteps (fmt : Format) (c : List ℕ) (p l : ℕ) : MountedStepped → Type 0 where
  step_contents : ¬ Contents fmt c → MountedSteps fmt c p l (stopped 21)
  step_unknown : Contents fmt c → ((i : ℕ) → i < letter_count fmt c → letter_at fmt c i ≢ l) → MountedSteps fmt c p l (stopped 27)
  step_no_state : Contents fmt c → (i : ℕ) → First fmt c l i → state_count fmt c ≤ p → MountedSteps fmt c p l (stopped 28)
  step_out_of_range : Contents fmt c → (i : ℕ) → First fmt c l i → p < state_count fmt c → state_count fmt c ≤ move_at fmt c p i → MountedSteps fmt c p l (stopped 23)
  step_moved : Contents fmt c → (i : ℕ) → First fmt c l i → p < state_count fmt c → move_at fmt c p i < state_count fmt c → MountedSteps fmt c p l (moved (move_at fmt c p i) (mark_at fmt c (move_at fmt c p i)))

-- ---- today's step

-- the number left out, and the marks byte in its place, which is 0
abbrev pub less_owed : Today.Stepped → MountedStepped
less_owed (Today.moved q mark) = moved q mark
less_owed (Today.owing q k) = moved q 0
less_owed (Today.stopped number) = stopped number
