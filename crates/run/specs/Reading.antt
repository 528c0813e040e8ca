-- The walk's values, each read as that of the card's definitions; and for each case of the answer the paper's number and values (card, Answer.antt).
use Rattle.std.specs.Prelude.{ℕ, Option, Some, None, Result, Ok, Err}
use Rattle.card.specs.Verdict.{Verdict, allowed, unfinished, hopeless}
use Rattle.card.specs.Reply.{Reply, answered, refused}
use Rattle.card.specs.Judge.{Place, none, found}
use Rattle.card.specs.Run.{Run}
use Rattle.run.specs.declared.Run.{Run as Run'}
use Rattle.run.specs.declared.Verdict.{Verdict as Verdict'}
use Rattle.run.specs.declared.Verdict.TheVariants.{Allowed, Unfinished, Hopeless}
use Rattle.run.specs.declared.UnknownLetter.{UnknownLetter}

abbrev pub place_of : Option ℕ → Place
place_of None = none
place_of (Some k) = found k

abbrev pub run_of : Run' → Run
run_of r = record { state = r.state; letters = r.letters; dead = place_of r.dead; unknown = place_of r.unknown }

abbrev pub verdict_of : Verdict' → Verdict
verdict_of Allowed = allowed
verdict_of (Unfinished k) = unfinished k
verdict_of (Hopeless k) = hopeless k

-- "27 in judging adds how many letters precede the first foreign one"
abbrev pub unknown_letter : ℕ
unknown_letter = 27

abbrev pub reply_of : Result Verdict' UnknownLetter → Reply Verdict
reply_of (Ok v) = answered (verdict_of v)
reply_of (Err letter) = refused unknown_letter letter.before
