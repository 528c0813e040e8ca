-- `count` meets its contract: the row of arrivals has the sums of the answer.
use mathlib.Core.Path.{◌∙◌}
use Rattle.counting.proofs.EntryLaws.{startable, summable, counted}
use Rattle.run.specs.Cards.{ready_of}
use Rattle.counting.proofs.count.Goals as goal

pub arrive-requires : goal.arrive-requires
arrive-requires c =
    let s = c.states-states.ensures in
    startable _ _ _ _ _ _ (ready_of c.args.card.now) c.requires _ s.letters _ _ s.marks s.moves c.states-states.result.table

pub sums-requires : goal.sums-requires
sums-requires c =
    let s = c.states-states.ensures in
    summable _ _ _ _ _ _ (ready_of c.args.card.now) c.requires _ s.letters _ _ s.marks s.moves _ c.arrive.ensures

pub returns : goal.returns
returns c =
    let s = c.states-states.ensures in
    c.sums.ensures ∙ counted _ _ _ _ _ _ (ready_of c.args.card.now) c.requires _ s.letters _ _ s.marks s.moves _ c.arrive.ensures
