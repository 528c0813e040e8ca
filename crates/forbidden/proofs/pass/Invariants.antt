-- `pass` meets its contract.
use Rattle.forbidden.proofs.PassLaws.{Under}
use Rattle.run.specs.Cards.{bytes_of, letters_in, states_in}
use Rattle.forbidden.proofs.pass.Given as goal

abbrev pub invariant-loop-i : goal.invariant-loop-i
invariant-loop-i l =
    Under (bytes_of l.walker.card) (letters_in l.walker.card) (states_in l.walker.card) l.walker.columns l.plan l.dead l.never l.i l.before l.after l.best
