-- `nearest` meets its contract: no letter passed shows a nearer change.
use Rattle.std.proofs.Common.{◌≡◌, map, get_or, arith}
use Rattle.std.proofs.lemmas.Grind.{common_steps}
use Rattle.distance.proofs.SweepLaws.{near_change, near_next}
use Rattle.distance.proofs.nearest.Goals as goal

pub returns-then-not-alike : goal.returns-then-not-alike
returns-then-not-alike g c = near_change (g.M.Steps.steps c.args.machine.now) _ _ _ _ _ c.step-t.ensures.0 c.alike.ensures (omega (arith, c.loop-c-test.true, c.letters-c-end.ensures)) c.if-not-alike.true (omega (arith, c.step-t.ensures.1))

pub overflow_add-wide : goal.overflow_add-wide
overflow_add-wide g c =
    let e : c.wide.result ≡ get_or (map g.N.Number.value c.args.far.now) c.step-t.result 0 = grind (arith, common_steps) in
    omega (arith, e, c.requires.0.backed.most c.step-t.result c.step-t.ensures.1, c.states-best.ensures)

pub loop-c-preserved : goal.loop-c-preserved
loop-c-preserved g c =
    let e : c.wide.result ≡ get_or (map g.N.Number.value c.args.far.now) c.step-t.result 0 = grind (arith, common_steps) in
    near_next _ _ _ _ _ _ c.step-t.ensures.0 c.alike.ensures _ _ c.if-not-alike.false c.loop-c.invariant (rw e at c.min-best.ensures)
