-- `kept::keep` meets its contract: a name's machine is stored, the book so far replaced.
use Rattle.kept.proofs.SlotLaws.{keeps_name, keeps_book, right_name}
use Rattle.kept.proofs.keep.Goals as goal

pub store-requires : goal.store-requires
store-requires c =
    record { name_value = right_name _ _ c.in-Name.is c.requires.right; in_bounds = c.requires.in_bounds; in_bounds_2 = (c.requires.shelves.low, c.requires.shelves.high) }

pub returns-in-Name : goal.returns-in-Name
returns-in-Name c =
    keeps_name _ _ c.args.from.now c.args.low.now c.args.high.now c.args.registers.now _ _ c.in-Name.is c.store.ensures

pub returns-in-Book : goal.returns-in-Book
returns-in-Book c =
    keeps_book _ c.args.from.now c.args.low.now c.args.high.now c.args.registers.now _ c.in-Book.is c.requires.shelves.registers c.copy.ensures
