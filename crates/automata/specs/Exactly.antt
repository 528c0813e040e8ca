-- An answer that is right and the only one, for a stage and for stages in a row. By these laws a program of stages is known by what each stage says:
-- how many sets are reachable, and which machine is the smallest.
use Rattle.std.specs.Prelude.{◌≡◌, List, ℕ}
use Rattle.automata.specs.Machine.{Machine}
use Rattle.automata.specs.Stage.{Made, made, refused, after, present}

-- r is right, and no other answer is.
pub record Exactly {R : Type 0} (P : R → Type 0) (r : R) : Type 0 where
  pub right : P r
  pub only : (q : R) → P q → q ≡ r

-- First P, and then Q of the machine that is kept; a refusal ends it.
pub data Then (P : Made → Type 0) (Q : Machine → Made → Type 0) : Made → Type 0 where
  goes : (counts : List ℕ) (M : Machine) (r : Made) → P (made counts M) → Q M r → Then P Q (after counts r)
  fails : (n : ℕ) → P (refused n) → Then P Q (refused n)

-- A machine that is there already and makes no sets.
pub data Given (M : Machine) : Made → Type 0 where
  given : Given M (present M)
