-- Where a line stands in the text.
use Rattle.std.specs.Prelude.{◌≡◌, Bool, Result, Ok, Err, List, ◌∷◌, ℕ, suc, ◌-◌, ◌<◌, ◌≤◌, ltb, length, take, drop}
use Rattle.book.specs.Text.{Line, lines_of}
use Rattle.book.specs.Refusals.{refusal_number}
use Rattle.book.specs.declared.refusal.Refusal.{Refusal}

-- the line of these bytes
abbrev pub line_of : List ℕ → Bool → Line
line_of bs ended = record { bytes = bs; ended = ended }

-- the line from `at` up to `end`; it has its end where the text goes on there
abbrev pub line_at : List ℕ → ℕ → ℕ → Line
line_at s at end = line_of (take (end - at) (drop at s)) (ltb end (length s))

-- The line that starts at `at` stops before `end`, and the others start behind that.
pub record Ends (s : List ℕ) (at end : ℕ) : Type 0 where
  pub from : at ≤ end
  pub within : end ≤ length s
  pub lines : at < length s → lines_of (drop at s) ≡ line_at s at end ∷ lines_of (drop (suc end) s)

-- the number of a line's tests: 0 where none of them refuses it
abbrev pub test_number : Result (Unit {0}) Refusal → ℕ
test_number (Ok u) = 0
test_number (Err r) = refusal_number r
