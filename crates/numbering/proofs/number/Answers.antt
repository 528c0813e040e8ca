-- `number` meets its contract: after i turns the order is the listing of i turns.
use Rattle.std.proofs.Common.{refl}
use Rattle.numbering.proofs.NumberLaws.{turns_start, turn_state, turns_next, turns_end}
use Rattle.numbering.proofs.number.Goals as goal

pub loop-i-init : goal.loop-i-init
loop-i-init c = turns_start _ _ _ _ _ _ c.new-numbering.ensures

pub row-requires : goal.row-requires
row-requires c = turn_state _ _ _ c.args.machine.now.closed _ _ _ _ c.loop-i.invariant c.loop-i-test.true _ refl

pub loop-i-preserved : goal.loop-i-preserved
loop-i-preserved c = turns_next _ _ _ c.args.machine.now.closed _ _ _ _ c.loop-i.invariant c.loop-i-test.true _ refl _ _ _ c.row.ensures

pub invariant_of-result : goal.invariant_of-result
invariant_of-result c = record { ordered = (turns_end _ _ _ c.args.machine.now.closed _ _ _ _ c.loop-i.invariant c.loop-i-test.false).ordered }
