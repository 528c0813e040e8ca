-- `mark` meets its contract: the marks bytes of a card that loads are 0, 1 and 2.
use native.Mathlib.Omega.{arith}
use mathlib.Core.Path.{sym, ◌∙◌}
use Rattle.run.proofs.WalkLaws.{mark_room, mark_is, dead_else}
use Rattle.run.specs.Cards.{ready_of}
use Rattle.run.proofs.loaded.Card.mark.Goals as goal

pub bounds-marks-state : goal.bounds-marks-state
bounds-marks-state c = mark_room _ _ _ (ready_of c.args.self.now) _ _ c.marks.ensures c.requires

pub returns-in-0 : goal.returns-in-0
returns-in-0 c = sym c.in-0.is ∙ mark_is _ _ _ (ready_of c.args.self.now) _ _ c.marks.ensures c.requires

pub returns-in-1 : goal.returns-in-1
returns-in-1 c = sym c.in-1.is ∙ mark_is _ _ _ (ready_of c.args.self.now) _ _ c.marks.ensures c.requires

pub returns-in_default : goal.returns-in_default
returns-in_default c =
    let y = ready_of c.args.self.now in
    let e = mark_is _ _ _ y _ _ c.marks.ensures c.requires in
    dead_else _ _ _ y _ c.requires (λ z. grind (arith, c.in_default, e, z)) (λ z. grind (arith, c.in_default, e, z))
