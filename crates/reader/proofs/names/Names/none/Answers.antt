-- `reader::names::Names::none` meets its contract: no flag is set.
use mathlib.Core.Path.{refl}
use Rattle.reader.proofs.SymbolLaws.{holds_none}
use Rattle.reader.proofs.names.Names.none.Goals as goal

pub returns : goal.returns
returns c =
    holds_none _ refl
