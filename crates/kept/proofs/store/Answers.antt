-- `kept::store` meets its contract: the name's slot is written, and the other names' slots stay.
use Rattle.kept.proofs.SlotLaws.{store_low, store_high}
use Rattle.reader.proofs.SymbolLaws.{name_byte}
use native.Mathlib.Omega.{arith}
use Rattle.kept.proofs.store.Goals as goal

pub overflow_sub-x : goal.overflow_sub-x
overflow_sub-x c =
    omega (arith, (name_byte c.args.name c.requires.name_value).0)

pub copy-requires-else-x-le77 : goal.copy-requires-else-x-le77
copy-requires-else-x-le77 c =
    record { in_bounds = c.requires.in_bounds; at_in_bounds = omega (arith, (name_byte c.args.name c.requires.name_value).1) }

pub returns-then-x-le77 : goal.returns-then-x-le77
returns-then-x-le77 c =
    store_low c.args.name c.args.from.now c.args.low.now c.args.high.now _ c.requires.name_value (omega arith) c.requires.in_bounds_2.0 c.requires.in_bounds_2.1 c.copy.ensures

pub returns-else-x-le77 : goal.returns-else-x-le77
returns-else-x-le77 c =
    store_high c.args.name c.args.from.now c.args.low.now c.args.high.now _ c.requires.name_value (omega arith) c.requires.in_bounds_2.0 c.requires.in_bounds_2.1 c.copy-else-x-le77.ensures
