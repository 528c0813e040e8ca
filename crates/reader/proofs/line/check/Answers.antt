-- `reader::line::check` meets its contract: 3 to 7 in their order.
use Rattle.std.proofs.Common.{◌≡◌, None, Some, Err, arith}
use Rattle.std.proofs.lemmas.Result.{err_from_is_err_and}
use Rattle.book.specs.declared.refusal.Refusal.TheVariants.{MalformedLine}
use Rattle.forms.specs.declared.Code.TheVariants.{Define}
use Rattle.reader.proofs.CheckLaws.{passed_few, stopped_tests, stopped_form, stopped_known, stopped_name, read_name, read_other, program_known}
use Rattle.reader.proofs.line.check.Goals as goal

pub returns-in_err-line_test : goal.returns-in_err-line_test
returns-in_err-line_test c =
    let p = err_from_is_err_and c.from_residual.result c.from_residual.ensures.1 in
    rw (p.1, p.2) (stopped_tests _ _ _ _ _ _ _ c.in_err-line_test.ensures)

pub form-requires-clause-line_bound : goal.form-requires-clause-line_bound
form-requires-clause-line_bound c = passed_few _ _ c.in_ok-line_test.ensures

pub returns-in_err-code : goal.returns-in_err-code
returns-in_err-code c =
    let p = err_from_is_err_and c.from_residual-in_err-code.result c.from_residual-in_err-code.ensures.1 in
    let n : c.form.result ≡ None = grind arith in
    let e : c.from_residual-in_err-code.result ≡ Err MalformedLine = grind arith in
    rw e (stopped_form _ _ _ _ _ _ c.in_ok-line_test.ensures (rw n at c.form.ensures).says)

pub returns-then-not-all_known : goal.returns-then-not-all_known
returns-then-not-all_known c =
    let s : c.form.result ≡ Some c.in_ok-code.code = grind arith in
    stopped_known _ _ _ _ _ _ c.in_ok-line_test.ensures _ (rw s at c.form.ensures) c.program_length-end.ensures c.all_known.ensures c.if-not-all_known.true

pub returns-then-has : goal.returns-then-has
returns-then-has c =
    let s : c.form.result ≡ Some (Define c.in-Define.name c.in-Define.length) = grind arith in
    stopped_name _ _ _ _ _ _ c.in_ok-line_test.ensures (rw s at c.form.ensures).says (program_known _ c.program_length-end.ensures c.in-Define.is c.all_known.ensures) c.if-not-all_known.false _ c.has.ensures c.if-has.true

pub returns-else-has : goal.returns-else-has
returns-else-has c =
    let s : c.form.result ≡ Some (Define c.in-Define.name c.in-Define.length) = grind arith in
    read_name _ _ _ _ _ _ c.in_ok-line_test.ensures (rw s at c.form.ensures).says (program_known _ c.program_length-end.ensures c.in-Define.is c.all_known.ensures) c.if-not-all_known.false _ c.has.ensures c.if-has.false

pub returns-in_default : goal.returns-in_default
returns-in_default c =
    let s : c.form.result ≡ Some c.in_ok-code.code = grind arith in
    read_other _ _ _ _ _ _ c.in_ok-line_test.ensures _ (rw s at c.form.ensures) c.program_length-end.ensures c.all_known.ensures c.if-not-all_known.false c.in_default.not-Define
