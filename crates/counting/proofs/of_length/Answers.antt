-- `of_length` meets its contract: the card is tested once.
use Rattle.std.proofs.lemmas.Result.{err_from_is_err_and}
use Rattle.counting.proofs.EntryLaws.{refused_card}
use Rattle.counting.proofs.of_length.Goals as goal

pub returns-in_err-card : goal.returns-in_err-card
returns-in_err-card c =
    let p = err_from_is_err_and c.from_residual.result c.from_residual.ensures.1 in
    rw (p.1, p.2) (refused_card _ _ _ c.in_err-card.ensures.loads)
