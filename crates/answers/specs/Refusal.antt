-- The numbers of a stage's refusals.
use Rattle.std.specs.Prelude.{ℕ}
use Rattle.answers.specs.declared.TooMany.{TooMany}
use Rattle.answers.specs.declared.TooMany.TheVariants.{TooManySets, TooManyStates}

-- 8, more sets than the limit; 9, more states
abbrev pub refusal_of : TooMany → ℕ
refusal_of TooManySets = 8
refusal_of TooManyStates = 9
