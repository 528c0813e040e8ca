-- `first_flags` of a concatenation meets its contract.
use mathlib.Core.Path.{ap, ◌∙◌}
use native.Mathlib.Omega.{arith}
use lib.ListN.{length}
use Rattle.rows.proofs.SumLaws.{summed_none}
use Rattle.flags.proofs.TableLaws.{flag_in}
use Rattle.sets.specs.Fits.{with_zero}
use Rattle.concatenation.proofs.first_flags.Goals as goal

pub gain-requires : goal.gain-requires
gain-requires c =
    record { p_in_bounds = flag_in c.args.left.now 0 c.args.left.now.closed.some; flags_nonzero = omega (arith, c.fill.auto.self, c.requires.0); summed = summed_none 2 (length c.args.flags.now) _ (c.fill.ensures.after (λ y e. e)) (omega (arith, c.requires.1)) }

pub returns : goal.returns
returns c =
    (c.gain.ensures.0 ∙ ap (with_zero _) (c.fill.ensures.after (λ y e. e)), c.gain.ensures.1)
