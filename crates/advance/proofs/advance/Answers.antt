-- `advance` meets its contract: an earlier transition is copied, or the row is made.
use lib.ListN.{length}
use mathlib.Core.Path.{refl}
use Rattle.turns.proofs.TurnLaws.{turn_asking, turn_repeats}
use Rattle.advance.proofs.advance.Goals as goal

pub earlier-requires : goal.earlier-requires
earlier-requires c =
    let a = c.args in record { asking = rw c.all.ensures (turn_asking a.operands.now a.found.now a.row.now a.turn c.requires.turning (length a.members.now) a.members.now c.requires.listed); twins = c.requires.twins }

pub returns-in-Some-clause-turned : goal.returns-in-Some-clause-turned
returns-in-Some-clause-turned c =
    let a = c.args in
    turn_repeats a.operands.now a.found.now a.row.now a.turn c.requires.turning c.in-Some.place (rw c.all.ensures at c.in-Some.ensures.1) _ refl
