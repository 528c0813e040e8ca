-- `settle` meets its contract.
use Rattle.std.proofs.Common.{arith, ◌∙◌}
use Rattle.partition.proofs.ReducedLaws.{one_class, classed_first, classed_alone}
use Rattle.partition.proofs.settle.Goals as goal
use Rattle.partition.proofs.settle.Goals.{then-count-begun-via-then-count-begun, then-count-begun-via-else-count-begun+then-count-len}

pub split-begun-requires : goal.split-begun-requires
split-begun-requires c = rw c.requires.classes_value (omega (arith, c.len.ensures, c.args.states.table.states_most), omega arith, one_class _)

pub passes-count-requires-clause-classed : goal.passes-count-requires-clause-classed
passes-count-requires-clause-classed c =
    classed_first _ _ _ c.args.states.table _ _ _ c.accept_keys.ensures (rw (c.requires.classes_value, c.len.ensures) at c.split-begun.ensures)

pub returns-then-count-begun : goal.returns-then-count-begun
returns-then-count-begun c =
    elim c.then-count-begun.branch [
      | then-count-begun-via-then-count-begun w ↦ c.passes-count.ensures.done w.if-count-begun.true
      | then-count-begun-via-else-count-begun+then-count-len w ↦
          classed_alone _ _ _ c.args.states.table _ _ c.passes-count.ensures.classed (w.if-count-len.true ∙ w.len-else-count-begun.ensures)
    ]
