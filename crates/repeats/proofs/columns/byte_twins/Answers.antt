-- `byte_twins` meets its contract.
use Rattle.std.proofs.Common.{arith}
use Rattle.repeats.proofs.TwinLaws.{twins_none, twins_more, twins_all}
use Rattle.repeats.proofs.columns.byte_twins.Goals as goal

pub loop-c-init : goal.loop-c-init
loop-c-init c = rw c.requires.table_value (twins_none _)

pub loop-c-preserved : goal.loop-c-preserved
loop-c-preserved c = twins_more _ _ _ _ c.loop-c.invariant (omega arith) c.first.ensures

pub returns : goal.returns
returns c = twins_all _ _ _ c.loop-c.invariant
