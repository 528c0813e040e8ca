-- `step_on` meets its contract, test by test.
use native.Mathlib.Omega.{arith}
use Rattle.run.proofs.WalkLaws.{move_room}
use Rattle.std.specs.Prelude.{Ok}
use Rattle.board.specs.Answers.{stepping}
use Rattle.board.proofs.EntryLaws.{step_27, step_28, step_lands, step_inside}
use Rattle.run.specs.Cards.{ready_of}
use Rattle.board.proofs.step_on.Goals as goal

pub returns-then-m-i : goal.returns-then-m-i
returns-then-m-i c =
    step_27 _ _ _ (ready_of c.args.card.now) c.args.state c.args.letter _ _ c.letters.ensures c.place-i.ensures (omega arith)

pub returns-then-n-state : goal.returns-then-n-state
returns-then-n-state c =
    step_28 _ _ _ (ready_of c.args.card.now) c.args.state c.args.letter _ _ c.letters.ensures c.place-i.ensures (omega arith) (omega arith)

pub next-next-requires : goal.next-next-requires
next-next-requires c =
    move_room _ _ _ (ready_of c.args.card.now) _ _ (omega arith) (omega arith) _ c.moves.ensures

pub landing-requires : goal.landing-requires
landing-requires c =
    step_inside _ _ _ (ready_of c.args.card.now) c.args.state c.args.letter _ _ c.letters.ensures c.place-i.ensures (omega arith) (omega arith)
    _ c.moves.ensures _ c.next-next.ensures.0

pub returns : goal.returns
returns c =
    step_lands _ _ _ (ready_of c.args.card.now) c.args.state c.args.letter _ _ c.letters.ensures c.place-i.ensures (omega arith) (omega arith)
    _ c.moves.ensures _ c.next-next.ensures.0 (stepping (Ok c.landing.result)) c.landing.ensures
