-- `arrive` meets its contract: one that has a number, a new one, one too many.
use Rattle.std.proofs.lemmas.List.{length-map, map-set}
use Rattle.numbering.proofs.OrderLaws.{arrive_old, arrive_new, arrive_full}
use Rattle.numbering.proofs.order.arrive.Goals as goal

pub returns-in-Some-clause-arrived : goal.returns-in-Some-clause-arrived
returns-in-Some-clause-arrived g c = arrive_old c.requires.roll.0 _ _ c.in-Some.ensures.0 c.in-Some.ensures.1

pub returns-then-m-most-clause-arrived : goal.returns-then-m-most-clause-arrived
returns-then-m-most-clause-arrived g c =
    rw (
      map-set g.N.Number.value c.args.numbers.now c.args.d c.narrow-then-m-most.result,
      map-set g.N.Number.value c.args.order.now c.args.m c.narrow.result,
      c.narrow-then-m-most.ensures,
      c.narrow.ensures,
    ) (arrive_new c.requires.roll.0 _ c.in_default.ensures c.if-m-most.true (rw (length-map c.args.numbers.now g.N.Number.value) c.requires.roll.1))

pub returns-clause-arrived : goal.returns-clause-arrived
returns-clause-arrived g c = arrive_full c.requires.roll.0 _ c.in_default.ensures c.if-m-most.false
