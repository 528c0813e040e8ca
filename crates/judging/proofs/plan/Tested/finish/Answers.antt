-- `finish` meets its contract.
use native.Mathlib.Omega.{arith}
use Rattle.judging.proofs.LinesLaws.{finishes_open, finishes_closed}
use Rattle.judging.proofs.plan.Tested.finish.Goals as goal

pub returns-then-open : goal.returns-then-open
returns-then-open c =
    finishes_open _ c.args.state _ c.if-open.true _ c.answer.ensures _ _ c.line.ensures (omega (arith, c.requires.1, c.line.auto.out))

pub returns : goal.returns
returns c =
    finishes_closed _ c.args.state _ c.if-open.false
