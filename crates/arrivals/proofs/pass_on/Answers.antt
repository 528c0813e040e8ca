-- `pass_on` meets its contract: the words are passed by the moves so far.
use native.Mathlib.Numerals.{add-one}
use native.Mathlib.Omega.{arith}
use Rattle.arrivals.proofs.RoundLaws.{passed_none, words_fit, passed_more}
use Rattle.arrivals.proofs.pass_on.Goals as goal

pub loop-t-init : goal.loop-t-init
loop-t-init c =
    passed_none _ _ _ c.requires

pub overflow_add-next : goal.overflow_add-next
overflow_add-next c =
    omega (arith, words_fit _ _ _ c.requires _ _ c.loop-t.invariant c.loop-t-test.true)

pub loop-t-preserved : goal.loop-t-preserved
loop-t-preserved c =
    rw add-one (passed_more _ _ _ c.requires _ _ c.loop-t.invariant c.loop-t-test.true)
