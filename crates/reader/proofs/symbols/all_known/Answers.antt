-- `reader::symbols::all_known` meets its contract: the codes passed are known.
use Rattle.std.proofs.Common.{arith}
use Rattle.reader.proofs.SymbolLaws.{known_start, known_not, known_next, known_end}
use Rattle.reader.proofs.symbols.all_known.Goals as goal

pub loop-b-init : goal.loop-b-init
loop-b-init c = known_start _ _ _

pub returns-then-not-symbol_known : goal.returns-then-not-symbol_known
returns-then-not-symbol_known c = known_not c.args.code.now _ _ c.loop-b.b-index _ (omega arith) c.symbol_known.ensures c.loop-b.invariant c.if-not-symbol_known.true

pub loop-b-preserved : goal.loop-b-preserved
loop-b-preserved c = known_next c.args.code.now _ _ c.loop-b.b-index _ (omega arith) c.symbol_known.ensures c.loop-b.invariant c.if-not-symbol_known.false

pub returns : goal.returns
returns c = known_end c.args.code.now _ _ c.loop-b.b-index (omega arith) c.loop-b.invariant
