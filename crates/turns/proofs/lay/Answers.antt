-- `lay` meets its contract: the row is looked up, and put behind the others where it is new.
use Rattle.rows.proofs.SumLaws.{hash_is}
use Rattle.turns.proofs.TurnLaws.{lay_found, lay_new, lay_full}
use Rattle.turns.proofs.lay.Goals as goal

pub find-requires-clause-h_value : goal.find-requires-clause-h_value
find-requires-clause-h_value g c = (hash_is _ c.args.sum _ c.requires.sum c.hash-h.ensures.0, c.hash-h.ensures.1)

pub returns-in-Some-clause-turned : goal.returns-in-Some-clause-turned
returns-in-Some-clause-turned g c =
    let a = c.args in λ A P e. lay_found a.operands.now a.found.now (g.R.Row.bytes a.row) a.turn c.requires.laying A P e c.in-Some.j c.in-Some.ensures.0 c.in-Some.ensures.1

pub returns-then-j-operands-clause-turned : goal.returns-then-j-operands-clause-turned
returns-then-j-operands-clause-turned g c =
    let a = c.args in
    let h = hash_is _ a.sum _ c.requires.sum c.hash-h.ensures.0 in
    λ A P e. lay_new a.operands.now a.found.now (g.R.Row.bytes a.row) a.turn c.requires.laying A P e c.in_default.ensures c.if-j-operands.true _ h c.hash-h.ensures.1 _ c.push.ensures.pushed

pub returns-clause-turned : goal.returns-clause-turned
returns-clause-turned g c =
    let a = c.args in λ A P e. lay_full a.operands.now a.found.now (g.R.Row.bytes a.row) a.turn c.requires.laying A P e c.in_default.ensures c.if-j-operands.false
