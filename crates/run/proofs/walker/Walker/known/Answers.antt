-- `known` meets its contract: the letters passed are on the card.
use native.Mathlib.Omega.{arith}
use Rattle.run.proofs.WalkLaws.{known_start, known_next, known_stop, known_end, column_unknown, column_known}
use Rattle.run.specs.Cards.{ready_of}
use Rattle.run.proofs.walker.Walker.known.Goals as goal

pub loop-k-init : goal.loop-k-init
loop-k-init c =
    known_start _ _ _

pub returns-then-m-columns : goal.returns-then-m-columns
returns-then-m-columns c =
    known_stop _ _ _ _ c.loop-k.invariant (omega arith) (column_unknown _ _ _ (ready_of c.args.self.now.card) _ c.args.self.now.right _ (c.type_inv.plan c.loop-k.k) c.if-m-columns.true)

pub loop-k-preserved : goal.loop-k-preserved
loop-k-preserved c =
    known_next _ _ _ _ c.loop-k.invariant (column_known _ _ _ (ready_of c.args.self.now.card) _ c.args.self.now.right _ (c.type_inv.plan c.loop-k.k) c.if-m-columns.false)

pub returns : goal.returns
returns c =
    known_end _ _ _ _ c.loop-k.invariant (omega arith)
