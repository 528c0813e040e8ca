-- `changes` meets its contract: the numbers are the first part of the array.
use Rattle.std.proofs.Common.{◌≡◌, length, arith}
use Rattle.std.proofs.lemmas.List.{map-id}
use Rattle.std.proofs.lemmas.Grind.{common_steps}
use Rattle.sweeps.proofs.ChangeLaws.{changes_alike}
use Rattle.sweeps.proofs.changes.Goals as goal

pub returns : goal.returns
returns c = λ z.
    let long : length c.changes.new.far ≡ length c.args.states.marks.now = rw map-id at c.changes.ensures.numbers.long in
    changes_alike _ _ _ _ c.args.states.table c.requires c.changes.new.far _ (λ p h. grind (arith, common_steps)) (rw (map-id, z) at c.changes.ensures)
