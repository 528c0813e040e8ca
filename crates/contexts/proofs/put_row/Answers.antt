-- `contexts::put_row` meets its contract: the row stands behind the code so far.
use Rattle.std.proofs.Common.{refl, rules, arith}
use Rattle.std.proofs.lemmas.Slice.{overwrites}
use Rattle.contexts.proofs.put_row.Goals as goal

pub returns : goal.returns
returns c = record {
  end_is = refl;
  code = search (rules, overwrites);
  grown = record { up = omega arith; before = search (rules, overwrites); past = search (rules, overwrites) };
}
