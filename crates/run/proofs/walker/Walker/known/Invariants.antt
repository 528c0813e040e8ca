-- `known` meets its contract: the letters passed are on the card.
use Rattle.automata.specs.Format.{narrow}
use Rattle.card.specs.Layout.{letters_of}
use Rattle.run.proofs.WalkLaws.{KnownUpto}
use Rattle.run.specs.Cards.{bytes_of}
use Rattle.run.proofs.walker.Walker.known.Given as goal

abbrev pub invariant-loop-k : goal.invariant-loop-k
invariant-loop-k l =
    KnownUpto (letters_of narrow (bytes_of l.self.card)) l.plan l.from l.k
