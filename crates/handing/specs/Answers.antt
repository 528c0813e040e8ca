-- The answers of the whole way, each read with the paper's numbers and values for each case.
use Rattle.std.specs.Prelude.{ℕ, Result, Ok, Err}
use Rattle.card.specs.Answer.{Loading, holds, rejected}
use Rattle.card.specs.Verdict.{Verdict}
use Rattle.card.specs.Reply.{Reply}
use Rattle.loading.specs.declared.Fault.{Fault}
use Rattle.loading.specs.Faults.{fault_number}
use Rattle.board.specs.Answers.{reply_of}
use Rattle.handing.specs.declared.OnCard.{OnCard}
use Rattle.handing.specs.declared.Delivered.{Delivered}
use Rattle.compiler.specs.Refusals.{refused_number, refused_line}
use Rattle.compiler.specs.declared.Refusal.{Refusal}

-- What a board answers: the card's letters and states with judging's reply, or loading's refusal, 21 to 26.
pub data OnBoard : Type 0 where
  judged : (letters states : ℕ) (reply : Reply Verdict) → OnBoard
  not_loaded : (number : ℕ) → OnBoard

abbrev pub on_board : Result OnCard Fault → OnBoard
on_board (Ok k) = judged k.counts.letters k.counts.states (reply_of k.answer)
on_board (Err fault) = not_loaded (fault_number fault)

-- the answer of loading, and the reply of judging where the card loads
abbrev pub board_says : Loading → Reply Verdict → OnBoard
board_says (holds m n) reply = judged m n reply
board_says (rejected number) reply = not_loaded number

-- "Success returns the card's length and the peak", here with what the board answers; "A book's refusal returns the number, its line".
pub data Delivery : Type 0 where
  card : (length peak : ℕ) (board : OnBoard) → Delivery
  refused : (number line : ℕ) → Delivery

abbrev pub delivery : Result Delivered Refusal → Delivery
delivery (Ok d) = card d.compiled.length d.compiled.peak (on_board d.board)
delivery (Err r) = refused (refused_number r) (refused_line r)
