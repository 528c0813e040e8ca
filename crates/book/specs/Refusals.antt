-- The refusals of a line, by their numbers.
use Rattle.std.specs.Prelude.{ℕ}
use Rattle.book.specs.declared.refusal.Refusal.{Refusal}
use Rattle.book.specs.declared.refusal.Refusal.TheVariants.{NestingTooDeep, TooManyContexts, MalformedLine, UndefinedSymbol, DuplicateName}

abbrev pub refusal_number : Refusal → ℕ
refusal_number NestingTooDeep = 3
refusal_number TooManyContexts = 4
refusal_number MalformedLine = 5
refusal_number UndefinedSymbol = 6
refusal_number DuplicateName = 7
