-- `put_moves` meets its contract: the rows of the states below i are laid down.
use Rattle.std.proofs.Common.{◌≡◌, arith, refl, zero-mul, add-zero}
use Rattle.sections.proofs.MoveLaws.{rows_start, rows_next, rows_end, rows_place}
use Rattle.sections.proofs.RestrictLaws.{order_state}
use Rattle.sections.proofs.targets.put_moves.Goals as goal

pub loop-i-init : goal.loop-i-init
loop-i-init c = rw (zero-mul c.args.reached.now.machine.letters, add-zero) (rows_start _ _ _ _ _ _)

pub put_row-requires-clause-s_lt_states : goal.put_row-requires-clause-s_lt_states
put_row-requires-clause-s_lt_states c = order_state _ _ _ c.args.reached.now.machine.closed _ _ c.args.reached.now.ordered _ _ c.loop-i-test.true refl

pub loop-i-preserved : goal.loop-i-preserved
loop-i-preserved c = rows_next _ _ _ _ _ _ _ _ _ _ (rows_place c.args.reached.now.machine.letters c.loop-i.i) c.loop-i.invariant c.put_row.ensures

pub returns : goal.returns
returns c =
    let reached = c.args.reached.now in
    let y : c.loop-i.i ≡ reached.numbering.count = omega arith in
    rw (y, rows_end _ _ _ _ _ _ (record { closed = reached.machine.closed; roll = reached.numbering.roll; ordered = reached.ordered })) at c.loop-i.invariant
