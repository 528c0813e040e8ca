-- `finish` meets its contract: each stretch but the last leaves more classes.
use Rattle.std.proofs.Common.{arith, ◌∙◌}
use Rattle.partition.proofs.ReducedLaws.{classed_low, classed_alone}
use Rattle.partition.proofs.+finish.Goals as goal
use Rattle.partition.proofs.+finish.Goals.{then-count-near-via-then-count-near, then-count-near-via-else-count-near+then-count-len}

pub returns-then-count-near : goal.returns-then-count-near
returns-then-count-near t c =
    elim c.then-count-near.branch [
      | then-count-near-via-then-count-near w ↦ (c.passes-count.ensures.done w.if-count-near.true, omega (arith, c.passes-count.ensures.more, c.apart-near.ensures.1))
      | then-count-near-via-else-count-near+then-count-len w ↦
          (classed_alone _ _ _ c.args.states.table _ _ c.passes-count.ensures.classed (w.if-count-len.true ∙ w.len.ensures), omega (arith, c.passes-count.ensures.more, c.apart-near.ensures.1))
    ]

pub finish-requires : goal.finish-requires
finish-requires t c = (
  omega (arith, c.decreases, c.passes-count.ensures.more, c.apart-near.ensures.1, c.if-count-near.false, classed_low _ _ _ _ _ c.passes-count.ensures.classed),
  (c.requires.letters, c.passes-count.ensures.classed),
)
