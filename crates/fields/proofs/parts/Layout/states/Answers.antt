-- `states` meets its contract: the marks and moves are a table of moves.
use Rattle.fields.specs.CardTable.{card_table}
use Rattle.fields.proofs.parts.Layout.states.Goals as goal

pub invariant_of-result : goal.invariant_of-result
invariant_of-result c =
    record { table = card_table _ _ _ c.args.self.now.right _ c.marks.ensures _ c.moves.ensures c.requires }
