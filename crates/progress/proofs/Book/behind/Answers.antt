-- `progress::Book::behind` meets its contract: a definition or a rule, by the place.
use Rattle.kept.proofs.SlotLaws.{right_name}
use Rattle.progress.specs.Progress.{behind_at, defined, ruled}
use Rattle.progress.proofs.Book.behind.Goals as goal

pub with-requires : goal.with-requires
with-requires c =
    right_name _ _ c.in-Name.is c.requires.0

pub returns-in-Name : goal.returns-in-Name
returns-in-Name c =
    behind_at _ _ _ _ _ _ c.in-Name.is (defined c.with.ensures c.next_line.ensures)

pub returns-in-Book : goal.returns-in-Book
returns-in-Book c =
    behind_at _ _ _ _ _ _ c.in-Book.is (ruled c.next_line-in-Book.ensures)
