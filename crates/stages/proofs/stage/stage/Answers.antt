-- `stages::stage::stage` meets its contract.
use Rattle.std.specs.Prelude.{◌≡◌, None, Some}
use Rattle.std.proofs.Common.{arith}
use Rattle.std.proofs.lemmas.Result.{err_from_is_err_and}
use Rattle.answers.specs.declared.TooMany.TheVariants.{TooManySets, TooManyStates}
use Rattle.answers.proofs.StageLaws.{done_many, done_large, done_made}
use Rattle.stages.proofs.stage.stage.Goals as goal

pub returns-in_err-n-clause-done : goal.returns-in_err-n-clause-done
returns-in_err-n-clause-done c =
    let p = err_from_is_err_and c.from_residual.result c.from_residual.ensures.1 in
    let e : c.reach.result ≡ None = c.in_err-n.ensures.ok_part in
    let v : c.in_err-n.field-0.0 ≡ TooManySets = grind (arith, e, c.in_err-n.ensures.value) in
    rw (p.1, p.2, v) (done_many c.requires c.load-sizes.ensures _ _ _ _ c.reach.ensures.reached e)

pub returns-in_err-q-clause-done : goal.returns-in_err-q-clause-done
returns-in_err-q-clause-done c =
    let p = err_from_is_err_and c.from_residual-in_err-q.result c.from_residual-in_err-q.ensures.1 in
    let e : c.keep.result ≡ None = c.in_err-q.ensures.ok_part in
    let v : c.in_err-q.field-0.0 ≡ TooManyStates = grind (arith, e, c.in_err-q.ensures.value) in
    rw (p.1, p.2, v) (done_large c.requires c.load-sizes.ensures _ _ _ _ _ c.reach.ensures.reached c.in_ok-n.ensures.ok_part _ (rw e at c.keep.ensures))

pub returns-clause-done : goal.returns-clause-done
returns-clause-done c =
    let e : c.keep.result ≡ Some c.in_ok-q.q = c.in_ok-q.ensures.ok_part in
    done_made c.requires c.load-sizes.ensures _ _ _ _ _ c.reach.ensures.reached c.in_ok-n.ensures.ok_part _ _ (rw e at c.keep.ensures)
