-- The columns before c have their twins, the others none.
use Rattle.repeats.proofs.TwinLaws.{TwinsTo}
use Rattle.repeats.proofs.columns.byte_twins.Given as goal

abbrev pub invariant-loop-c : goal.invariant-loop-c
invariant-loop-c l = TwinsTo l.operands l.table l.c
