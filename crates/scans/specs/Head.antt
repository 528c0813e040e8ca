-- What an answer on line 1 says.
use Rattle.std.specs.Prelude.{Result, Ok, Err, List, ℕ, take, drop}
use Rattle.book.specs.Line.{HeadRead, letters, stops}
use Rattle.book.specs.Refusals.{refusal_number}
use Rattle.book.specs.declared.refusal.Refusal.{Refusal}

abbrev pub head_of : List ℕ → Result ℕ Refusal → HeadRead
head_of s (Ok n) = letters (take n (drop 1 s))
head_of s (Err r) = stops (refusal_number r)
