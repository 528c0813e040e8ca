-- `write` meets its contract: the length is the card's, and the parts, one behind the other, are the card.
use Rattle.std.proofs.Common.{arith}
use Rattle.writer.proofs.WriteLaws.{count_small, write_short, write_full}
use Rattle.writer.proofs.write.Goals as goal

pub overflow_mul-length : goal.overflow_mul-length
overflow_mul-length c = omega (arith, count_small _ c.args.letters.now _ _ _ _ (rw (← c.requires.letters_len) at c.number-reached.ensures.arranged) (omega (arith, c.requires.letters_len, c.requires.kept.letters_most)))

pub overflow_add-length-3 : goal.overflow_add-length-3
overflow_add-length-3 c =
    omega (
      arith,
      c.requires.letters_len,
      c.requires.kept.letters_most,
      c.number-reached.ensures.arranged.roll.within,
      count_small _ c.args.letters.now _ _ _ _ (rw (← c.requires.letters_len) at c.number-reached.ensures.arranged) (omega (arith, c.requires.letters_len, c.requires.kept.letters_most)),
    )

pub returns-then-card-length : goal.returns-then-card-length
returns-then-card-length c = write_short c.args.machine.now.states c.args.letters.now c.args.machine.now.bytes.now _ _ _ (rw (← c.requires.letters_len) at c.number-reached.ensures.arranged) _ c.if-card-length.true

pub put_marks-requires : goal.put_marks-requires
put_marks-requires c =
    record {
      kept = rw c.number-reached.ensures.same c.requires.kept;
      count_in_bounds = rw (c.number-reached.ensures.same, ← c.requires.letters_len) (omega (arith, c.if-card-length.false, c.put_contents.ensures.long, c.put_letters.ensures.long));
    }

pub put_moves-requires : goal.put_moves-requires
put_moves-requires c =
    rw (c.number-reached.ensures.same, ← c.requires.letters_len)
    (omega (arith, c.if-card-length.false, c.put_contents.ensures.long, c.put_letters.ensures.long, c.put_marks.ensures.long))

pub returns : goal.returns
returns c =
    write_full c.args.machine.now.states c.args.letters.now c.args.machine.now.bytes.now _ _ _ (rw (← c.requires.letters_len) at c.number-reached.ensures.arranged) _ _ _ _ _ c.if-card-length.false
    c.put_contents.ensures
    c.put_letters.ensures
    (rw (c.number-reached.ensures.same, ← c.requires.letters_len) at c.put_marks.ensures)
    (rw (c.number-reached.ensures.same, ← c.requires.letters_len) at c.put_moves.ensures)
