-- What stops a plan or a step, by the numbers of the refusals.
use Rattle.std.specs.Prelude.{ℕ}
use Rattle.loading.specs.Faults.{fault_number}
use Rattle.run.specs.Reading.{unknown_letter}
use Rattle.board.specs.declared.refusals.Refusal.{Refusal}
use Rattle.board.specs.declared.refusals.Refusal.TheVariants.{Card, Letter}
use Rattle.board.specs.declared.refusals.StepRefusal.{StepRefusal}
use Rattle.board.specs.declared.refusals.StepRefusal.TheVariants.{Card as CardOfStep, UnknownLetter, StateOutOfRange}

-- 21 to 27
abbrev pub refusal_number : Refusal → ℕ
refusal_number (Card fault) = fault_number fault
refusal_number (Letter letter) = unknown_letter

-- "27 in judging adds how many letters precede the first foreign one"
abbrev pub refusal_before : Refusal → ℕ
refusal_before (Card fault) = 0
refusal_before (Letter letter) = letter.before

-- 21 to 28
abbrev pub step_refusal_number : StepRefusal → ℕ
step_refusal_number (CardOfStep fault) = fault_number fault
step_refusal_number UnknownLetter = 27
step_refusal_number StateOutOfRange = 28
