-- `lower` meets its contract.
use Rattle.std.proofs.Common.{◌≡◌, map, get_or, arith}
use Rattle.std.proofs.lemmas.Grind.{common_steps}
use Rattle.std.proofs.lemmas.List.{map-set}
use Rattle.distance.proofs.SweepLaws.{lowered}
use Rattle.distance.proofs.lower.Goals as goal

pub returns-then-x-wide : goal.returns-then-x-wide
returns-then-x-wide g c =
    let e : c.wide.result ≡ get_or (map g.N.Number.value c.args.far.now) c.args.p 0 = grind (arith, common_steps) in
    rw (map-set g.N.Number.value c.args.far.now c.args.p c.narrow.result, c.narrow.ensures) (lowered _ _ c.requires.numbers.0 _ _ c.requires.numbers.1 c.nearest-x.ensures (omega (arith, e, c.if-x-wide.true)))
