-- `lines::lines` meets its contract.
use Rattle.std.proofs.Common.{◌∙◌, refl, arith}
use Rattle.std.proofs.lemmas.Result.{err_from_is_err_and}
use Rattle.answers.specs.Scratch.{same_room, room_on}
use Rattle.lines.proofs.LinesLaws.{reached_start, reached_next, lines_off, lines_end, lent_begun, going}
use Rattle.lines.proofs.lines.Goals as goal

pub begin-requires : goal.begin-requires
begin-requires c =
    let r = c.requires.lent.room in
    record { m_bound = c.requires.placed.few; in_bounds = r.registers; in_bounds_2 = r.stack }

pub loop-book-init : goal.loop-book-init
loop-book-init c = (
  record { low≡ = refl; high≡ = refl; registers≡ = refl; stack≡ = refl; scratch≡ = same_room c.args.scratch.now; code≡ = refl },
  reached_start c.args.text.now c.args.letters.now c.args.next _ c.args.low.now c.args.high.now _ c.requires.placed c.begin.ensures c.start-book.ensures,
)

pub one_line-requires : goal.one_line-requires
one_line-requires c =
    record {
      going = going c.args.text.now c.args.letters.now c.args.next c.loop-book.book _ _ _ _ _ _ c.loop-book.low c.loop-book.high c.loop-book.registers
          c.loop-book.stack c.loop-book.scratch c.loop-book.code c.requires.placed (lent_begun c.requires.lent c.begin.auto.registers c.begin.auto.stack)
          c.loop-book.invariant.0 (c.loop-book.invariant.1, c.loop-book-test.true);
      at_in_bounds = c.loop-book-test.true;
    }

pub loop-book-smaller : goal.loop-book-smaller
loop-book-smaller c =
    let r = reached_next c.args.text.now c.args.letters.now c.args.next c.loop-book.book _ _ _ c.loop-book.invariant.1 _ _ _ _ c.in_ok-book.ensures.line c.loop-book-test.true _ refl in
    omega (arith, r.1, c.loop-book-test.true)

pub loop-book-preserved : goal.loop-book-preserved
loop-book-preserved c = (
  record {
    low≡ = c.one_line.auto.low ∙ c.loop-book.invariant.0.low≡;
    high≡ = c.one_line.auto.high ∙ c.loop-book.invariant.0.high≡;
    registers≡ = c.one_line.auto.registers ∙ c.loop-book.invariant.0.registers≡;
    stack≡ = c.one_line.auto.stack ∙ c.loop-book.invariant.0.stack≡;
    scratch≡ = room_on c.args.scratch.now c.loop-book.scratch c.one_line.new.scratch c.loop-book.invariant.0.scratch≡ c.one_line.ensures.room;
    code≡ = c.one_line.auto.code ∙ c.loop-book.invariant.0.code≡;
  },
  (reached_next c.args.text.now c.args.letters.now c.args.next c.loop-book.book _ _ _ c.loop-book.invariant.1 _ _ _ _ c.in_ok-book.ensures.line c.loop-book-test.true _ refl).0,
)

pub returns-in_err-book-clause-compiled : goal.returns-in_err-book-clause-compiled
returns-in_err-book-clause-compiled c =
    let p = err_from_is_err_and c.from_residual.result c.from_residual.ensures.1 in
    rw (p.1, p.2) (lines_off c.args.text.now c.args.letters.now c.args.next c.loop-book.book _ _ _ c.loop-book.invariant.1 _ _ _ _ c.in_err-book.ensures.line c.loop-book-test.true _ refl)

pub returns-clause-compiled : goal.returns-clause-compiled
returns-clause-compiled c =
    lines_end c.args.text.now c.args.letters.now c.args.next c.loop-book.book _ _ _ c.loop-book.invariant.1 (omega arith)

pub returns-clause-room : goal.returns-clause-room
returns-clause-room c =
    c.loop-book.invariant.0.scratch≡
