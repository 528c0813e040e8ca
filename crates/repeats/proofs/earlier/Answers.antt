-- `earlier` meets its contract: a case for each reason.
use native.Mathlib.Omega.{arith}
use lib.ListN.{length}
use Rattle.rows.proofs.RowLaws.{row_part}
use Rattle.repeats.proofs.BeforeLaws.{earlier_less, earlier_twin, earlier_mark, earlier_looks, earlier_before}
use Rattle.repeats.proofs.earlier.Goals as goal

pub returns-in-Some : goal.returns-in-Some
returns-in-Some c =
    let a = c.args in
    let t = c.requires.twins c.in-Some.twin c.in-Some.is in
    let E = earlier_twin a.operands.now a.rows.now (length a.members.now) a.members.now a.turn.state a.turn.column a.turn.place c.requires.asking c.in-Some.twin t.0 t.1 in
    (earlier_less a.operands.now a.rows.now (length a.members.now) a.members.now a.turn.state a.turn.column a.turn.place c.requires.asking _ E, E)

pub returns-then-erases : goal.returns-then-erases
returns-then-erases c =
    let a = c.args in
    let E = earlier_mark a.operands.now a.rows.now (length a.members.now) a.members.now a.turn.state a.turn.column a.turn.place c.requires.asking (c.erases.ensures c.if-erases.true) in
    (earlier_less a.operands.now a.rows.now (length a.members.now) a.members.now a.turn.state a.turn.column a.turn.place c.requires.asking _ E, E)

pub same-requires : goal.same-requires
same-requires c =
    let a = c.args in record { looks = rw (row_part a.operands.now.width a.turn.state a.rows.now) (earlier_looks a.operands.now a.rows.now (length a.members.now) a.members.now a.turn.state a.turn.column a.turn.place c.requires.asking (omega (arith, c.if-turn-eq0.false))); listed = rw (row_part a.operands.now.width a.turn.state a.rows.now) c.requires.asking.listed }

pub returns-then-same : goal.returns-then-same
returns-then-same c =
    let a = c.args in
    let E = earlier_before a.operands.now a.rows.now (length a.members.now) a.members.now a.turn.state a.turn.column a.turn.place c.requires.asking (omega (arith, c.if-turn-eq0.false)) (rw (row_part a.operands.now.width a.turn.state a.rows.now) at (c.same.ensures c.if-same.true)) in
    (earlier_less a.operands.now a.rows.now (length a.members.now) a.members.now a.turn.state a.turn.column a.turn.place c.requires.asking _ E, E)
