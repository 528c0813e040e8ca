-- `driver::compile` meets its contract: line 1, then the others, then the card.
use Rattle.std.proofs.Common.{refl}
use Rattle.std.proofs.lemmas.Result.{err_from_is_err_and}
use Rattle.driver.proofs.EntryLaws.{opened_compiled, opened_stops, writable, lines_put, lines_stop, lent}
use native.Mathlib.Omega.{arith}
use Rattle.driver.proofs.compile.Goals as goal

pub slice_bounds-letters-count : goal.slice_bounds-letters-count
slice_bounds-letters-count c =
    omega (arith, c.in_ok-opened.ensures.says.2.some)

pub slice_bounds-letters-start : goal.slice_bounds-letters-start
slice_bounds-letters-start c =
    omega (arith, c.in_ok-opened.ensures.says.2.some)

pub slice_bounds-letters-end : goal.slice_bounds-letters-end
slice_bounds-letters-end c =
    omega (arith, c.in_ok-opened.ensures.says.2.within)

pub lines-requires : goal.lines-requires
lines-requires c =
    record {
      placed = c.in_ok-opened.ensures.says.2.headed.placed;
      lent = lent c.args.low.now c.args.high.now
          c.args.registers.now c.args.stack.now _ c.args.code.now
          c.in_ok-opened.ensures.says.1;
    }

pub put_card-requires : goal.put_card-requires
put_card-requires c =
    writable c.args.text.now _ _ c.in_ok-opened.ensures.says.2.headed _ _ c.in_ok-peak.ensures.compiled _ refl

pub returns-in_err-opened : goal.returns-in_err-opened
returns-in_err-opened c =
    let p = err_from_is_err_and c.from_residual.result c.from_residual.ensures.1 in
    rw (p.1, p.2) (opened_stops c.args.text.now _ _ _ c.in_err-opened.ensures)

pub returns-in_err-peak : goal.returns-in_err-peak
returns-in_err-peak c =
    let p = err_from_is_err_and c.from_residual-in_err-peak.result c.from_residual-in_err-peak.ensures.1 in
    rw (p.1, p.2) (opened_compiled c.args.text.now _ _ c.in_ok-opened.ensures _ _ _ (lines_stop c.args.text.now _ _ c.in_ok-opened.ensures.says.2.headed _ _ c.in_err-peak.ensures.compiled _ _ refl))

pub returns : goal.returns
returns c =
    opened_compiled c.args.text.now _ _ c.in_ok-opened.ensures _ _ _ (lines_put c.args.text.now _ _ c.in_ok-opened.ensures.says.2.headed _ _ c.in_ok-peak.ensures.compiled _ _ _ _ refl c.put_card.ensures)
