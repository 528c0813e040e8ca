-- `evaluate::run::step` meets its contract.
use Rattle.std.proofs.Common.{◌≡◌, Option, Some, refl, ap, ◌∙◌}
use Rattle.std.proofs.lemmas.Result.{err_from_is_err_and}
use Rattle.codes.specs.declared.Sort.{Sort}
use Rattle.evaluate.specs.Steps.{top_stuck, top_steps, beside_ready, beside_steps, plus_steps, push_steps, store_asks, store_steps}
use Rattle.evaluate.proofs.run.step.Goals as goal

sort_is : {r : Option Sort} {q s : Sort} → r ≡ Some q → q ≡ s → r ≡ Some s
sort_is e f = e ∙ ap Some f

pub returns-then-sp-count-clause-steps : goal.returns-then-sp-count-clause-steps
returns-then-sp-count-clause-steps c =
    top_stuck c.requires c.sort_of.ensures _ _ c.operands-count.ensures (sort_is c.in_ok-sort.ensures.ok_part c.in-Top.is) c.if-sp-count.true

pub returns-in_err-sets-in-Top-clause-steps : goal.returns-in_err-sets-in-Top-clause-steps
returns-in_err-sets-in-Top-clause-steps c =
    let p = err_from_is_err_and c.from_residual-in_err-sets-in-Top.result c.from_residual-in_err-sets-in-Top.ensures.1 in
    rw (p.1, p.2) (top_steps c.requires c.sort_of.ensures _ _ c.operands-count.ensures (sort_is c.in_ok-sort.ensures.ok_part c.in-Top.is) c.if-sp-count.false _ refl c.in_err-sets-in-Top.ensures.made)

pub beside-requires : goal.beside-requires
beside-requires c =
    beside_ready c.requires c.sort_of.ensures _ _ (sort_is c.in_ok-sort.ensures.ok_part c.in-Beside.is) c.if-sp-lt1.false

pub returns-in_err-sets-in-Beside-clause-steps : goal.returns-in_err-sets-in-Beside-clause-steps
returns-in_err-sets-in-Beside-clause-steps c =
    let p = err_from_is_err_and c.from_residual-in_err-sets-in-Beside.result c.from_residual-in_err-sets-in-Beside.ensures.1 in
    rw (p.1, p.2) (beside_steps c.requires c.sort_of.ensures _ _ (sort_is c.in_ok-sort.ensures.ok_part c.in-Beside.is) c.if-sp-lt1.false c.in_err-sets-in-Beside.ensures.made)

pub returns-in_err-sets-in-Plus-clause-steps : goal.returns-in_err-sets-in-Plus-clause-steps
returns-in_err-sets-in-Plus-clause-steps c =
    let p = err_from_is_err_and c.from_residual-in_err-sets-in-Plus.result c.from_residual-in_err-sets-in-Plus.ensures.1 in
    rw (p.1, p.2) (plus_steps c.requires c.sort_of.ensures (sort_is c.in_ok-sort.ensures.ok_part c.in-Plus.is) c.if-sp-lt1-2.false c.in_err-sets-in-Plus.ensures.made)

pub copy-requires-clause-slot : goal.copy-requires-clause-slot
copy-requires-clause-slot c =
    (store_asks c.requires c.sort_of.ensures _ _ c.index.ensures c.if-sp-lt1-3.false).0

pub returns-in-Push-clause-steps : goal.returns-in-Push-clause-steps
returns-in-Push-clause-steps c =
    push_steps c.requires c.sort_of.ensures _ (sort_is c.in_ok-sort.ensures.ok_part c.in-Push.is) c.bring.ensures

pub returns-in_ok-sets-in-Top-clause-steps : goal.returns-in_ok-sets-in-Top-clause-steps
returns-in_ok-sets-in-Top-clause-steps c =
    top_steps c.requires c.sort_of.ensures _ _ c.operands-count.ensures (sort_is c.in_ok-sort.ensures.ok_part c.in-Top.is) c.if-sp-count.false _ refl c.in_ok-sets-in-Top.ensures.made

pub returns-in_ok-sets-in-Beside-clause-steps : goal.returns-in_ok-sets-in-Beside-clause-steps
returns-in_ok-sets-in-Beside-clause-steps c =
    beside_steps c.requires c.sort_of.ensures _ _ (sort_is c.in_ok-sort.ensures.ok_part c.in-Beside.is) c.if-sp-lt1.false c.in_ok-sets-in-Beside.ensures.made

pub returns-in_ok-sets-in-Plus-clause-steps : goal.returns-in_ok-sets-in-Plus-clause-steps
returns-in_ok-sets-in-Plus-clause-steps c =
    plus_steps c.requires c.sort_of.ensures (sort_is c.in_ok-sort.ensures.ok_part c.in-Plus.is) c.if-sp-lt1-2.false c.in_ok-sets-in-Plus.ensures.made

pub returns-else-sp-lt1-3-clause-steps : goal.returns-else-sp-lt1-3-clause-steps
returns-else-sp-lt1-3-clause-steps c =
    store_steps c.requires c.sort_of.ensures _ _ c.index.ensures (sort_is c.in_ok-sort.ensures.ok_part c.in-Store.is) c.if-sp-lt1-3.false c.copy.ensures
