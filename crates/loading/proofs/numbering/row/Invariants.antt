-- `row` meets its contract: the invariant says how many states are seen after the first moves.
use Rattle.std.proofs.Common.{◌*◌}
use Rattle.loading.proofs.RowLaws.{RowUpto}
use Rattle.loading.proofs.numbering.row.Given as goal

abbrev pub invariant-loop-target : goal.invariant-loop-target
invariant-loop-target l = RowUpto l.states.moves.now (l.p * l.states.letters) l.seen l.target-index l.s
