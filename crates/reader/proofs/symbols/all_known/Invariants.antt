-- `reader::symbols::all_known` meets its contract: the codes passed are known.
use Rattle.reader.proofs.SymbolLaws.{KnownFrom}
use Rattle.reader.proofs.symbols.all_known.Given as goal

abbrev pub invariant-loop-b : goal.invariant-loop-b
invariant-loop-b l = KnownFrom l.code l.letters l.names l.b-index
