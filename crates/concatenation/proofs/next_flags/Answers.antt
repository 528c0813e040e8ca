-- `next_flags` of a concatenation meets its contract.
use mathlib.Core.Path.{ap, ◌∙◌}
use Rattle.sets.specs.Fits.{with_zero}
use Rattle.concatenation.proofs.next_flags.Goals as goal

pub returns : goal.returns
returns c =
    (c.gain.ensures.0 ∙ ap (with_zero _) c.lead-poured.ensures.is, c.gain.ensures.1)
