-- From `next` on no row is the one looked for.
use Rattle.rows.proofs.HashLaws.{Seeking}
use Rattle.rows.proofs.chains.Found.find.Given as goal

abbrev pub invariant-loop-next : goal.invariant-loop-next
invariant-loop-next g l = Seeking l.w l.self.count l.next l.self.rows.now (g.R.Row.bytes l.row)

abbrev pub decreases-loop-next : goal.decreases-loop-next
decreases-loop-next g l = l.next
