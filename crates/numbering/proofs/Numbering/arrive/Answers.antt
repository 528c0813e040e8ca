-- `arrive` meets its contract: there is always room.
use Rattle.std.proofs.Common.{arith, ◌∙◌}
use Rattle.std.proofs.lemmas.List.{map-id}
use Rattle.numbering.proofs.ArrivalLaws.{arrived, arrive_fits}
use Rattle.numbering.proofs.Numbering.arrive.Goals as goal

pub invariant_of-self : goal.invariant_of-self
invariant_of-self c = record {
  roll = (arrived c.args.self.now.roll c.args.s _ _ _ (rw (map-id c.args.self.now.order, map-id c.arrive.new.numbers, map-id c.arrive.new.order) at c.in-Some.ensures.arrived)
      (c.in-Some.ensures.long.1 ∙ c.args.self.now.roll.order_long) (c.in-Some.ensures.long.0 ∙ c.args.self.now.roll.number_long) _ (omega (arith, c.max-self.ensures))).roll;
}

pub invariant_of-self-in_default : goal.invariant_of-self-in_default
invariant_of-self-in_default c = absurd (omega (arith, arrive_fits c.args.self.now.roll c.args.s c.requires, rw (map-id c.args.self.now.order) at c.in_default.ensures.arrived))

pub returns-in_default : goal.returns-in_default
returns-in_default c = absurd (omega (arith, arrive_fits c.args.self.now.roll c.args.s c.requires, rw (map-id c.args.self.now.order) at c.in_default.ensures.arrived))
