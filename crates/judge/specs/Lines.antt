-- All bytes of a read, from one state to the next; and all bytes of an input.
use Rattle.std.specs.Prelude.{◌^◌, ◌≤◌, List, [], ℕ, Option, Result, Ok, Err, length}
use Rattle.std.specs.Io.KnownBytes.{Consumes, Appends, IsAtEnd}
use Rattle.plans.specs.Plans.{begun, ended, plans_of}
use Rattle.reply.specs.Text.{reply_lines}
use Rattle.judging.specs.declared.State.{State}
use Rattle.judging.specs.Lines.{Since}
use Rattle.stream.specs.declared.Failure.{Failure}
use Rattle.stream.specs.declared.Failure.TheVariants.{NotRead, NotWritten}
use Rattle.judge.specs.declared.lines.Ending.{Ending}
use Rattle.judge.specs.declared.lines.Ending.TheVariants.{Whole, TooLong}

-- The most reads, of 65,536 bytes each: so a plan's letters can be counted in 64 bits.
abbrev pub most_reads : ℕ
most_reads = 2 ^ 47

-- All bytes were taken in.
abbrev pub Wrote : List ℕ → State → List ℕ → State → Type 0
Wrote c state s state' = (u : List ℕ) → Since c u state → Since c (begun u s) state'

-- The input was read to its end, and for its plans, in their order, the lines of the answers were written, and nothing else.
pub record AllReplies (c : List ℕ) (input input' output output' : Option (List ℕ)) : Type 0 where
  pub bytes : List ℕ
  pub read : Consumes input input' bytes
  pub all : IsAtEnd input'
  pub written : Appends output output' (reply_lines c (plans_of bytes))

-- Some of the input was read, and for the plans that ended in it, in their order, the lines of the answers were written, and nothing else.
pub record SomeReplies (c : List ℕ) (input input' output output' : Option (List ℕ)) (least : ℕ) : Type 0 where
  pub bytes : List ℕ
  pub read : Consumes input input' bytes
  pub written : Appends output output' (reply_lines c (ended [] bytes))
  pub long : least ≤ length bytes

-- What was read and written: all; or what was ready before the read that failed, or after the most reads, each of a byte at least.
abbrev pub Replies : List ℕ → Option (List ℕ) → Option (List ℕ) → Option (List ℕ) → Option (List ℕ) → Result Ending Failure → Type 0
Replies c input input' output output' (Ok Whole) = AllReplies c input input' output output'
Replies c input input' output output' (Ok TooLong) = SomeReplies c input input' output output' most_reads
Replies c input input' output output' (Err NotRead) = SomeReplies c input input' output output' 0
Replies c input input' output output' (Err NotWritten) = Unit {0}
