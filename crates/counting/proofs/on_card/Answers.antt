-- `on_card` meets its contract: 31 in its two cases, and else rows that are long enough.
use mathlib.Core.Path.{sym, ◌∙◌}
use lib.Seq.{length-take-le}
use Rattle.run.proofs.WalkLaws.{states_few}
use Rattle.counting.proofs.EntryLaws.{refused_long, refused_many, countable}
use Rattle.run.specs.Cards.{ready_of}
use Rattle.counting.proofs.on_card.Goals as goal

pub returns-then-k-gt-LONGEST : goal.returns-then-k-gt-LONGEST
returns-then-k-gt-LONGEST c =
    refused_long _ _ _ (ready_of c.args.card.now) _ c.if-k-gt-LONGEST.true

pub slice_bounds-here-end : goal.slice_bounds-here-end
slice_bounds-here-end c =
    states_few _ _ _ (ready_of c.args.card.now)

pub slice_bounds-count-end : goal.slice_bounds-count-end
slice_bounds-count-end c =
    sym (length-take-le _ _ (states_few _ _ _ (ready_of c.args.card.now)))

pub slice_bounds-next-end : goal.slice_bounds-next-end
slice_bounds-next-end c =
    states_few _ _ _ (ready_of c.args.card.now)

pub slice_bounds-count-end-2 : goal.slice_bounds-count-end-2
slice_bounds-count-end-2 c =
    sym (length-take-le _ _ (states_few _ _ _ (ready_of c.args.card.now)))

pub count-requires : goal.count-requires
count-requires c =
    let R = ready_of c.args.card.now in
    let few = states_few _ _ _ R in
    countable _ _ _ R _ _ _ c.if-k-gt-LONGEST.false (sym c.if-not-fits.false ∙ c.fits.ensures) (length-take-le _ _ few) (length-take-le _ _ few)

pub returns-then-not-fits : goal.returns-then-not-fits
returns-then-not-fits c =
    refused_many _ _ _ (ready_of c.args.card.now) _ (sym c.if-not-fits.true ∙ c.fits.ensures)
