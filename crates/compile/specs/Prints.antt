-- What the compiling program writes for a text.
use Rattle.std.specs.Prelude.{◌≡◌, ◌+◌, ◌*◌, ◌<◌, ℕ, List, Option, Result, Ok, Err, length, take}
use Rattle.std.specs.Io.KnownBytes.{Keeps, Consumes, Appends, IsAtEnd}
use Rattle.automata.specs.Format.{narrow}
use Rattle.compiler.specs.Outcome.{outcome}
use Rattle.compiler.specs.declared.Compiled.{Compiled}
use Rattle.compiler.specs.declared.Refusal.{Refusal}
use Rattle.driver.specs.Entry.{documented, Answers}
use Rattle.report.specs.Shown.{Shows}
use Rattle.stream.specs.declared.Failure.{Failure}
use Rattle.stream.specs.declared.Failure.TheVariants.{NotRead, NotWritten}

-- The longest card's length: the contents, 26 letters, a marks byte for each of 120 states and a move for each state and letter.
abbrev pub card_room : ℕ
card_room = ((12 + 26) + 120) + 120 * 26

-- "A text of at most 16,384 bytes"; one more is read, so that a longer one is refused.
abbrev pub text_room : ℕ
text_room = 16384 + 1

-- What is written for a text is what is shown for the compiler's answer, with buffers of the documented lengths, and the card buffer behind it.
pub record Prints (text old out : List ℕ) (r : ℕ) : Type 0 where
  pub answer : Result Compiled Refusal
  pub card : List ℕ
  pub answers : Answers (outcome narrow documented text documented (length old)) old card answer
  pub shows : Shows answer card out r

-- That was written, with a card buffer that has room for the longest card, and nothing else.
pub record Printed (text : List ℕ) (output output' : Option (List ℕ)) : Type 0 where
  pub old : List ℕ
  pub out : List ℕ
  pub size : ℕ
  pub long : length old ≡ card_room
  pub prints : Prints text old out size
  pub written : Appends output output' (take size out)

-- The text is what the input has, or its first 16,385 bytes, one more than the longest text has; and what is written is what is written for it.
pub record CompilesInput (input input' output output' : Option (List ℕ)) : Type 0 where
  pub text : List ℕ
  pub read : Consumes input input' text
  pub whole : length text < text_room → IsAtEnd input'
  pub printed : Printed text output output'

-- Where the text can't be read nothing is written.
abbrev pub Compiles : Option (List ℕ) → Option (List ℕ) → Option (List ℕ) → Option (List ℕ) → Result Unit Failure → Type 0
Compiles input input' output output' (Ok t) = CompilesInput input input' output output'
Compiles input input' output output' (Err NotRead) = Keeps output output'
Compiles input input' output output' (Err NotWritten) = Unit {0}
