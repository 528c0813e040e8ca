-- `evaluate::run::run` meets its contract.
use Rattle.std.proofs.Common.{refl, arith}
use Rattle.std.proofs.lemmas.Result.{err_from_is_err_and}
use Rattle.evaluate.specs.Evaluated.{run_made, run_stops}
use Rattle.evaluate.specs.Run.{going_step, going_next, going_stops, going_end}
use Rattle.evaluate.proofs.run.run.Goals as goal

pub step-requires : goal.step-requires
step-requires c =
    going_step _ _ _ _ _ _ _ _ c.requires.running c.loop-c.invariant c.loop-c-test.true

pub returns-in_err-made-clause-made : goal.returns-in_err-made-clause-made
returns-in_err-made-clause-made c =
    let p = err_from_is_err_and c.from_residual.result c.from_residual.ensures.1 in
    rw (p.1, p.2) (run_stops (going_stops _ _ _ _ _ _ _ _ c.requires.running c.loop-c.invariant c.loop-c-test.true c.in_err-made.ensures.steps _ refl) _ refl)

pub loop-c-preserved : goal.loop-c-preserved
loop-c-preserved c =
    going_next _ _ _ _ _ _ _ _ c.requires.running c.loop-c.invariant c.loop-c-test.true c.in_ok-made.ensures.steps _ _ refl c.max-peak.ensures c.step.ensures.room

pub returns-clause-made : goal.returns-clause-made
returns-clause-made c =
    run_made (going_end _ _ _ _ _ _ _ _ c.requires.running c.loop-c.invariant (omega arith)) _ refl c.requires.code_value
