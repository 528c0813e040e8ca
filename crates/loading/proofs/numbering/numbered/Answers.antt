-- `numbered` meets its contract: the invariant says that the rows below p are in order, and how many states are seen.
use Rattle.std.proofs.Common.{arith}
use Rattle.loading.proofs.RowLaws.{rows_start, rows_next, numbered_late, numbered_skips, numbered_end}
use Rattle.loading.proofs.numbering.numbered.Goals as goal

pub loop-p-init : goal.loop-p-init
loop-p-init c = rows_start _ _

pub returns-then-seen-p : goal.returns-then-seen-p
returns-then-seen-p c = numbered_late _ _ _ _ _ c.loop-p.invariant (omega arith) c.if-seen-p.true

pub returns-in_default : goal.returns-in_default
returns-in_default c = numbered_skips _ _ _ _ _ c.loop-p.invariant (omega arith) c.in_default.ensures

pub loop-p-preserved : goal.loop-p-preserved
loop-p-preserved c = rows_next _ _ _ _ _ c.loop-p.invariant c.if-seen-p.false c.in-Some.ensures

pub returns : goal.returns
returns c = rw c.len.ensures (numbered_end _ _ _ _ _ c.loop-p.invariant (omega arith))
