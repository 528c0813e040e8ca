-- `line::one_line` meets its contract: a line read, its program run, its machine kept.
use Rattle.std.proofs.Common.{sym}
use Rattle.std.proofs.lemmas.Result.{err_from_is_err_and}
use Rattle.line.proofs.RunLaws.{running, one_machine, never_stuck}
use Rattle.line.proofs.LineLaws.{told_off, told_runs, told_line, form_run, kept_asks}
use Rattle.line.proofs.one_line.Goals as goal

pub read_line-answer-requires : goal.read_line-answer-requires
read_line-answer-requires c =
    record { at_in_bounds = c.requires.at_in_bounds; text_in_bounds = c.requires.going.long }

pub returns-in_err-read-clause-line : goal.returns-in_err-read-clause-line
returns-in_err-read-clause-line c =
    let p = err_from_is_err_and c.from_residual.result c.from_residual.ensures.1 in
    rw (p.1, p.2) (told_off c.args.text.now c.args.letters.now c.args.book _ _ c.read_line-answer.ensures _ (sym c.in_err-read.ensures) c.args.low.now c.args.high.now c.args.registers.now _ _ _)

pub slice_bounds-run-end : goal.slice_bounds-run-end
slice_bounds-run-end c =
    (told_runs c.args.text.now c.args.letters.now c.args.book _ _ c.read_line-answer.ensures _ (sym c.in_ok-read.ensures) c.args.low.now c.args.high.now
    c.args.registers.now c.args.stack.now c.args.scratch.now c.args.code.now c.requires.going).0.program.fits

pub run-made-requires : goal.run-made-requires
run-made-requires c =
    let R = (told_runs c.args.text.now c.args.letters.now c.args.book _ _ c.read_line-answer.ensures _ (sym c.in_ok-read.ensures) c.args.low.now c.args.high.now
    c.args.registers.now c.args.stack.now c.args.scratch.now c.args.code.now c.requires.going).0 in
    record {
      running = running c.args.letters.now _ _ c.args.low.now c.args.high.now c.args.registers.now R;
      code_value = one_machine c.args.letters.now _ _ c.args.low.now c.args.high.now c.args.registers.now R;
    }

pub finish-requires : goal.finish-requires
finish-requires c =
    let R = (told_runs c.args.text.now c.args.letters.now c.args.book _ _ c.read_line-answer.ensures _ (sym c.in_ok-read.ensures) c.args.low.now c.args.high.now
    c.args.registers.now c.args.stack.now c.args.scratch.now c.args.code.now c.requires.going).0 in
    let k = kept_asks c.requires.going _ c.run-made.new.stack c.run-made.auto.registers c.run-made.auto.stack in
    record {
      right = (told_runs c.args.text.now c.args.letters.now c.args.book _ _ c.read_line-answer.ensures _ (sym c.in_ok-read.ensures) c.args.low.now c.args.high.now
          c.args.registers.now c.args.stack.now c.args.scratch.now c.args.code.now c.requires.going).1;
      in_bounds = k.0;
      shelves = k.1;
      stages = never_stuck c.args.letters.now _ _ c.args.low.now c.args.high.now c.args.registers.now _ _ _ c.run-made.ensures.made R.env R.kept R.form R.stored R.program;
    }

pub returns-clause-line : goal.returns-clause-line
returns-clause-line c =
    told_line c.args.text.now c.args.letters.now c.args.book _ _ c.read_line-answer.ensures _ (sym c.in_ok-read.ensures) c.args.low.now c.args.high.now
    c.args.registers.now _ _ _ _ (form_run c.args.letters.now c.args.book _ c.args.low.now c.args.high.now
    c.args.registers.now _ _ _ _ c.run-made.ensures.made c.requires.going.letters.1 _ _ _ _ c.finish.ensures)
