-- The answer, read as the reply of the definitions, with the paper's values for each case.
use Rattle.std.specs.Prelude.{Option, Some, None, Result}
use Rattle.card.specs.Reply.{Reply}
use Rattle.factor.specs.Factor.{Shortest, none, at}
use Rattle.board.specs.declared.refusals.Refusal.{Refusal}
use Rattle.board.specs.Answers.{reply_by}
use Rattle.forbidden.specs.declared.Stretch.{Stretch}

-- "its start and length, or "none""
abbrev pub shortest_in : Option Stretch → Shortest
shortest_in None = none
shortest_in (Some stretch) = at stretch.start stretch.length

-- or 21 to 26, or 27 with the letters before the first that is not on the card
abbrev pub answer_of : Result (Option Stretch) Refusal → Reply Shortest
answer_of answer = reply_by shortest_in answer
