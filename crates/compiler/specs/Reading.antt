-- The compiler's answer, read with the paper's numbers.
use Rattle.std.specs.Prelude.{◌≡◌, List, ℕ, Result, Ok, Err}
use Rattle.compiler.specs.Outcome.{Outcome, Answer, answer, buffer_after}
use Rattle.compiler.specs.Refusals.{refused_number, refused_line}
use Rattle.compiler.specs.declared.Compiled.{Compiled}
use Rattle.compiler.specs.declared.Refusal.{Refusal}

-- "A book's refusal returns the number, its line, length 0, peak 0"; "Success returns the card's length and the peak".
abbrev pub reading : Result Compiled Refusal → Answer
reading (Ok c) = record { number = 0; line = 0; length = c.length; peak = c.peak }
reading (Err r) = record { number = refused_number r; line = refused_line r; length = 0; peak = 0 }

-- The answer, and the card buffer behind it, are those of an outcome.
pub record Answers (o : Outcome) (old new : List ℕ) (r : Result Compiled Refusal) : Type 0 where
  pub answer : reading r ≡ answer o
  pub buffer : new ≡ buffer_after o old
