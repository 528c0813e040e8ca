-- `line::finish` meets its contract: the machine is kept, or the book stops.
use Rattle.line.proofs.finish.Goals as goal

pub keep-requires : goal.keep-requires
keep-requires c =
    record { right = c.requires.right.0; in_bounds = c.requires.in_bounds; shelves = c.requires.shelves }
