-- `of` meets its contract.
use mathlib.Core.Path.{ap}
use native.Mathlib.Omega.{arith}
use lib.ListN.{length}
use Rattle.run.proofs.WalkLaws.{letters_many_lem, letters_few}
use Rattle.run.specs.Cards.{ready_of}
use Rattle.run.proofs.walker.Walker.of.Goals as goal

pub columns-requires : goal.columns-requires
columns-requires c =
    omega (arith, ap length c.letters.ensures, letters_many_lem _ _ _ (ready_of c.args.card.now), letters_few _ _ _ (ready_of c.args.card.now))

pub invariant_of-result : goal.invariant_of-result
invariant_of-result c =
    record { right = rw c.letters.ensures at c.columns.ensures }
