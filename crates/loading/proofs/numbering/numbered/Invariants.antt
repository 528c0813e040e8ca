-- `numbered` meets its contract: the invariant says that the rows below p are in order, and how many states are seen.
use Rattle.loading.proofs.RowLaws.{RowsUpto}
use Rattle.loading.proofs.numbering.numbered.Given as goal

abbrev pub invariant-loop-p : goal.invariant-loop-p
invariant-loop-p l = RowsUpto l.states.moves.now l.states.letters l.p l.seen
