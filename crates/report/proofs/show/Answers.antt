-- `report::show` meets its contract.
use Rattle.report.proofs.ShowLaws.{shows_card, shows_refused}
use borrow.Author.Rules.{rules}
use Rattle.report.proofs.show.Goals as goal

pub returns-in-Ok : goal.returns-in-Ok
returns-in-Ok c =
    shows_card c.args.answer _ c.in-Ok.compiled c.in-Ok.is _ (search rules)

pub returns-in-Err : goal.returns-in-Err
returns-in-Err c =
    shows_refused c.args.answer _ c.in-Err.refusal c.in-Err.is _ _ (search rules) (search rules) _ _ c.put-a.ensures _ _ c.put_number-b.ensures _ _ c.put-c.ensures _ _ c.put_number-d.ensures _ _ c.put.ensures (search rules)
