-- Why a book gets no card, by the paper's numbers: "1 and 2 come first; then line by line 3 to 9 ..; then .. 11."
use Rattle.std.specs.Prelude.{ℕ}
use Rattle.book.specs.Refusals.{refusal_number}
use Rattle.compiler.specs.declared.Reason.{Reason}
use Rattle.compiler.specs.declared.Reason.TheVariants.{NotRead, TooManySets, TooManyStates}
use Rattle.compiler.specs.declared.Refusal.{Refusal}
use Rattle.compiler.specs.declared.Refusal.TheVariants.{TextTooLong, BufferTooShort, Line, OutputTooShort}

-- 3 to 7, the line is not read; 8 and 9 of its stages
abbrev pub reason_number : Reason → ℕ
reason_number (NotRead r) = refusal_number r
reason_number TooManySets = 8
reason_number TooManyStates = 9

abbrev pub refused_number : Refusal → ℕ
refused_number TextTooLong = 1
refused_number BufferTooShort = 2
refused_number (Line stopped) = reason_number stopped.reason
refused_number OutputTooShort = 11

-- "its line (1 first; 0 for 1, 2, .. 11)"
abbrev pub refused_line : Refusal → ℕ
refused_line (Line stopped) = stopped.line
refused_line TextTooLong = 0
refused_line BufferTooShort = 0
refused_line OutputTooShort = 0
