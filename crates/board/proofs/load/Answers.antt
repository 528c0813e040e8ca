-- `load` meets its contract: the contents, and then the other tests.
use Rattle.std.proofs.Common.{sym, ap, ◌∙◌, option_map}
use Rattle.std.proofs.lemmas.Result.{err_from_is_err_and}
use Rattle.fields.proofs.ReadLaws.{bad_counted}
use Rattle.loading.proofs.LoadLaws.{loading_contents}
use Rattle.board.proofs.EntryLaws.{load_refused, load_accepted}
use Rattle.board.proofs.load.Goals as goal

pub returns-in_default-clause-loads : goal.returns-in_default-clause-loads
returns-in_default-clause-loads c =
    loading_contents _ (bad_counted _ (ap (option_map (λ l. l.counts)) (sym c.in_default.is) ∙ c.of.ensures.counts))

pub returns-in_err-tested-clause-loads : goal.returns-in_err-tested-clause-loads
returns-in_err-tested-clause-loads c =
    let p = err_from_is_err_and c.from_residual.result c.from_residual.ensures.1 in
    rw (p.1, p.2) (load_refused _ _ c.in-Some.ensures.bytes _ c.in_err-tested.ensures)

pub returns-clause-loads : goal.returns-clause-loads
returns-clause-loads c =
    load_accepted _ _ c.in-Some.ensures.bytes _ _ c.in-Some.layout.right c.in_ok-tested.ensures
