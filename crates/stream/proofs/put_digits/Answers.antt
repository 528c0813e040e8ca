-- `stream::put_digits` meets its contract: the library's digits.
use Rattle.std.proofs.Common.{◌≡◌, arith}
use Rattle.std.specs.Fmt as F
use Rattle.stream.proofs.DigitLaws.{few_of, number_put}
use Rattle.stream.proofs.put_digits.Goals as goal

pub put-requires : goal.put-requires
put-requires c = omega (arith, few_of _ _ c.format.ensures.text (omega (arith, c.ranges.number.fits)), c.requires)

pub returns : goal.returns
returns c =
    let e : c.as_bytes.result.now ≡ F.decimal c.args.number = grind arith in
    number_put _ _ _ _ _ _ c.ranges.number.fits e c.put.ensures
