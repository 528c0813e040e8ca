-- What the entry for compiling hands back.
use Rattle.std.specs.Prelude.{◌≡◌, List, ℕ, Result}
use Rattle.std.proofs.Common.{ap, ◌∙◌}
use Rattle.compiler.specs.Outcome.{Outcome, answer, buffer_after}
use Rattle.compiler.specs.declared.Compiled.{Compiled}
use Rattle.compiler.specs.declared.Refusal.{Refusal}
use Rattle.driver.specs.Entry.{Answers, reading}
use Rattle.numbers.specs.Handed.{handed, answer_numbers}

-- The numbers of an outcome, and the card buffer behind it.
pub record Compiles (o : Outcome) (card card' : List ℕ) (r : ℕ) (out : List ℕ) : Type 0 where
  pub numbers : handed r out ≡ answer_numbers (answer o)
  pub buffer : card' ≡ buffer_after o card

-- the numbers are those of the compiler's answer
pub compiled_as : (o : Outcome) (a : Result Compiled Refusal) (card card' : List ℕ) (r : ℕ) (out : List ℕ) → Answers o card card' a → handed r out ≡ answer_numbers (reading a)
    → Compiles o card card' r out
compiled_as o a card card' r out e p = record { numbers = p ∙ ap answer_numbers e.answer; buffer = e.buffer }
