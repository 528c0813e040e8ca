-- What stops counting, by the numbers of the refusals.
use Rattle.std.specs.Prelude.{ℕ}
use Rattle.loading.specs.Faults.{fault_number}
use Rattle.counting.specs.declared.refusals.Refusal.{Refusal}
use Rattle.counting.specs.declared.refusals.Refusal.TheVariants.{Card, CountTooLarge}

-- 21 to 26, or 31
abbrev pub refusal_number : Refusal → ℕ
refusal_number (Card fault) = fault_number fault
refusal_number CountTooLarge = 31
