-- `explore` meets its contract: the transitions are laid out one by one, then the flags.
use mathlib.Core.Path.{◌≡◌, refl, ◌∙◌}
use Rattle.std.proofs.Common.{rules}
use native.Mathlib.Omega.{arith}
use lib.ListN.{length}
use Rattle.rows.proofs.SumLaws.{hash_is}
use Rattle.explore.proofs.ExploreLaws.{run_start_lem, run_source, run_listed, run_next, run_flagging, run_done}
use Rattle.sets.proofs.FitLaws.{listed_taken}
use Rattle.explore.proofs.explore.Goals as goal

pub loop-turn-init : goal.loop-turn-init
loop-turn-init c =
    let a = c.args in
    let h = hash_is _ c.start_row-sum.result _ c.start_row-sum.ensures.1 c.hash.ensures.0 in (
      run_start_lem a.operands.now _ a.row.now c.start_row-sum.new.row c.hash.result c.push.new.self _ c.push.ensures.pushed c.push.ensures.kept c.requires.explores refl refl c.start_row-sum.ensures.0 c.start_row-sum.auto.row h c.hash.ensures.1 refl refl refl,
      (refl, refl, refl, refl),
      refl,
      refl,
      λ h. absurd (omega arith),
      omega arith,
    )

pub list-held-requires-clause-w_in_bounds : goal.list-held-requires-clause-w_in_bounds
list-held-requires-clause-w_in_bounds c =
    let a = c.args in let l = c.loop-turn in rw c.all.ensures ((run_source a.operands.now l.found l.row l.turn l.invariant.0 c.loop-turn-test.true).0)

pub list-held-requires-clause-listed : goal.list-held-requires-clause-listed
list-held-requires-clause-listed c =
    rw c.all.ensures c.loop-turn.invariant.4

pub advance-requires-clause-listed : goal.advance-requires-clause-listed
advance-requires-clause-listed c =
    listed_taken _ _ _ _ _ _ (rw c.all.ensures at c.list-held.ensures.listed)

pub advance-requires-clause-twins : goal.advance-requires-clause-twins
advance-requires-clause-twins c =
    λ d e. let t = rw e at c.byte_twin-twin.ensures in c.byte_twins.ensures.twin c.loop-turn.turn.column d t.0 t.1

pub loop-turn-preserved : goal.loop-turn-preserved
loop-turn-preserved c =
    let a = c.args in
    let l = c.loop-turn in
    let i = l.invariant.1 in
    let k = c.advance.ensures.kept in (
      run_next a.operands.now l.found l.row l.turn l.invariant.0 c.loop-turn-test.true c.next-turn.result c.next-turn.ensures c.advance.new.found c.advance.new.row c.advance.auto.row c.advance.ensures.kept c.in_ok-advance.ensures.turned,
      (k.0 ∙ i.0, k.1 ∙ i.1, k.2 ∙ i.2, k.3 ∙ i.3),
      ◌∙◌ {b = length l.row} c.advance.auto.row l.invariant.2,
      ◌∙◌ {b = length l.members} c.list-held.auto.members l.invariant.3,
      run_listed a.operands.now l.found l.row l.turn l.invariant.0 c.loop-turn-test.true c.next-turn.result c.next-turn.ensures c.advance.new.found c.advance.ensures.row c.list-held.result c.list-held.new.members (rw c.all.ensures at c.list-held.ensures.listed),
      c.list-held.ensures.within l.invariant.5,
    )

pub flag_rows-requires : goal.flag_rows-requires
flag_rows-requires c =
    let a = c.args in let l = c.loop-turn in run_flagging a.operands.now l.found l.row l.turn l.invariant.0 c.loop-turn-test.false

pub returns : goal.returns
returns c =
    let a = c.args in
    let l = c.loop-turn in
    let F = c.flag_rows.ensures in
    let f = c.flag_rows.new.found in
    let rows : c.rows-2-1.given.0 ≡ f.rows.now = search rules in
    let table : c.table-2-1.given.0 ≡ f.table.now = search rules in
    rw (rows, table, F.rows.1, F.rows.0) (run_done a.operands.now l.found l.row l.turn l.invariant.0 c.loop-turn-test.false f.table.now F.kept.3 (rw F.rows.0 at F.flagged))
