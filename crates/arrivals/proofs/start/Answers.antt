-- `start` meets its contract.
use Rattle.arrivals.proofs.RoundLaws.{started, cleared}
use Rattle.arrivals.proofs.start.Goals as goal

pub returns : goal.returns
returns c =
    started _ _ (cleared _ _ (c.fill.ensures.after (λ y e. e))) c.requires
