-- `judge_line` meets its contract: the line is one piece.
use Rattle.run.specs.Pieces.{after_start, after_reply}
use Rattle.run.specs.Cards.{ready_of}
use Rattle.plans.proofs.judge_line.Goals as goal

pub returns : goal.returns
returns c =
    let s = c.start-start in
    let q = c.piece-last in
    let plan = c.args.plan.now in
    after_reply _ _ _ (ready_of c.args.judge.now.walker.card) plan q.result c.reply.result (after_start _ _ plan s.result q.result s.ensures q.ensures) c.reply.ensures
