-- `twins` meets its contract.
use Rattle.std.proofs.Common.{arith}
use Rattle.std.proofs.lemmas.Option.{IfSome_then}
use Rattle.repeats.proofs.TwinLaws.{twins_none, twins_more, twins_all}
use Rattle.repeats.proofs.columns.twins.Goals as goal

pub loop-c-init : goal.loop-c-init
loop-c-init c = rw c.requires.table_value (twins_none _)

pub loop-c-preserved : goal.loop-c-preserved
loop-c-preserved c = twins_more _ _ _ _ c.loop-c.invariant (omega arith) (IfSome_then _ c.byte_twin.ensures (λ d t. c.byte_twins.ensures.twin _ d t.0 t.1))

pub returns : goal.returns
returns c = twins_all _ _ _ c.loop-c.invariant
