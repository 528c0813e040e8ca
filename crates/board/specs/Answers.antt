-- The board's answers, each read as the answer of the card's definitions, with the paper's number and values for each case.
use Rattle.std.specs.Prelude.{Result, Ok, Err}
use Rattle.card.specs.Answer.{Loading, holds, rejected}
use Rattle.card.specs.Reply.{Reply, answered, refused}
use Rattle.card.specs.Verdict.{Verdict}
use Rattle.card.specs.Step.{Stepped, moved, owing, stopped}
use Rattle.fields.specs.declared.Counts.{Counts}
use Rattle.loading.specs.declared.Fault.{Fault}
use Rattle.loading.specs.Faults.{fault_number}
use Rattle.run.specs.declared.loaded.Card.{Card}
use Rattle.run.specs.declared.Verdict.{Verdict as Verdict'}
use Rattle.run.specs.Cards.{letters_in, states_in}
use Rattle.run.specs.Reading.{verdict_of}
use Rattle.board.specs.declared.refusals.Refusal.{Refusal}
use Rattle.board.specs.declared.refusals.StepRefusal.{StepRefusal}
use Rattle.board.specs.declared.Stepped.{Stepped as Stepped'}
use Rattle.board.specs.declared.Stepped.TheVariants.{Owing, Accepting, Dead}
use Rattle.board.specs.Refusals.{refusal_number, refusal_before, step_refusal_number}

-- Loading: how many letters and states, or the number of the refusal, 21 to 26.
abbrev pub loading : Result Card Fault → Loading
loading (Ok card) = holds (letters_in card) (states_in card)
loading (Err fault) = rejected (fault_number fault)

-- The same of the counts alone.
abbrev pub counting : Result Counts Fault → Loading
counting (Ok counts) = holds counts.letters counts.states
counting (Err fault) = rejected (fault_number fault)

-- An answer about a plan, where its value is read by f; or the number of the refusal, 21 to 27, and the letters before the first that is not on the card.
abbrev pub reply_by : {A B : Type 0} → (A → B) → Result A Refusal → Reply B
reply_by f (Ok value) = answered (f value)
reply_by f (Err refusal) = refused (refusal_number refusal) (refusal_before refusal)

-- Judging: a verdict, or a refusal.
abbrev pub reply_of : Result Verdict' Refusal → Reply Verdict
reply_of answer = reply_by verdict_of answer

-- One step: the next state and its marks byte, 1 where a plan may end and 2 where no continuation is allowed; or the next state and the letters owed; or the number
-- of the refusal, 21 to 28.
abbrev pub stepping : Result Stepped' StepRefusal → Stepped
stepping (Ok (Owing next letters)) = owing next letters
stepping (Ok (Accepting next)) = moved next 1
stepping (Ok (Dead next)) = moved next 2
stepping (Err refusal) = stopped (step_refusal_number refusal)
