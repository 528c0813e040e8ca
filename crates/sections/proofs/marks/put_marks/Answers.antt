-- `put_marks` meets its contract: the marks bytes of the states below i are laid down.
use Rattle.std.proofs.Common.{◌≡◌, length, arith, refl}
use Rattle.sections.specs.Parts.{mark_bytes}
use Rattle.sections.proofs.LaidLaws.{laid_next, tab_get_or}
use Rattle.sections.proofs.MarkLaws.{mark_right, marks_count}
use Rattle.sections.proofs.RestrictLaws.{order_state}
use Rattle.sections.proofs.marks.put_marks.Goals as goal

pub mark-requires : goal.mark-requires
mark-requires c = order_state _ _ _ c.requires.kept.closed _ _ c.args.reached.now.ordered _ _ c.loop-i-test.true refl

pub loop-i-preserved : goal.loop-i-preserved
loop-i-preserved c =
    laid_next _ _ _ _ _ _ c.loop-i.invariant (omega (arith, c.requires.count_in_bounds, c.loop-i.invariant.long))
    (rw c.byte.ensures (mark_right _ _ _ c.requires.kept _ _ c.args.reached.now.ordered _ _ c.loop-i-test.true refl _ c.mark.ensures))

pub returns : goal.returns
returns c =
    let machine = c.args.reached.now.machine in
    let y : c.loop-i.i ≡ c.args.reached.now.numbering.count = omega arith in
    let z : length (mark_bytes machine.states machine.letters machine.bytes.now) ≡ c.args.reached.now.numbering.count = marks_count _ _ _ c.requires.kept _ _ c.args.reached.now.ordered in
    rw (← tab_get_or (mark_bytes machine.states machine.letters machine.bytes.now), z) (rw y at c.loop-i.invariant)
