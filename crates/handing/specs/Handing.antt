-- What the board is handed: "the card buffer's bytes up to that length", and the compiler's answer becomes the whole way's.
use Rattle.std.specs.Prelude.{ℕ, ◌≤◌, List, Result, Ok, Err, length, take}
use Rattle.automata.specs.Format.{narrow}
use Rattle.card.specs.Answer.{load}
use Rattle.card.specs.Judge.{judge}
use Rattle.compiler.specs.declared.Compiled.{Compiled}
use Rattle.compiler.specs.Refusals.{refused_number, refused_line}
use Rattle.compiler.specs.declared.Refusal.{Refusal}
use Rattle.handing.specs.Answers.{board_says, Delivery, card, refused}

-- The card is within its buffer.
abbrev pub Within : Result Compiled Refusal → List ℕ → Type 0
Within (Ok c) buffer = c.length ≤ length buffer
Within (Err r) buffer = Unit {0}

abbrev pub handed : Result Compiled Refusal → List ℕ → List ℕ → Delivery
handed (Ok c) buffer plan = card c.length c.peak (board_says (load narrow (take c.length buffer)) (judge narrow (take c.length buffer) plan))
handed (Err r) buffer plan = refused (refused_number r) (refused_line r)
