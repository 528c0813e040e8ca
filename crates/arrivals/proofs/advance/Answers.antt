-- `advance` meets its contract: the words of the first p states are passed on.
use mathlib.Core.Path.{◌≡◌}
use native.Mathlib.Numerals.{add-one}
use native.Mathlib.Omega.{arith}
use lib.ListN.{length}
use Rattle.arrivals.proofs.RoundLaws.{cleared, advanced_none, row_passable, advanced_more, advanced_idle, advanced_done}
use Rattle.arrivals.proofs.advance.Goals as goal
use Rattle.arrivals.proofs.advance.Goals.{then-words-ne0, else-words-ne0}

pub loop-p-init : goal.loop-p-init
loop-p-init c = advanced_none _ _ _ _ c.requires _ (cleared _ _ (c.fill.ensures.after (λ y e. e)))

pub returns : goal.returns
returns c =
    let z : c.loop-p.p ≡ length c.args.here.now = omega arith in
    advanced_done _ _ _ _ c.requires _ _ c.loop-p.invariant z

pub pass_on-requires : goal.pass_on-requires
pass_on-requires c = row_passable _ _ _ _ c.requires _ _ c.loop-p.invariant c.loop-p-test.true

pub loop-p-preserved : goal.loop-p-preserved
loop-p-preserved c =
    rw add-one (elim c.if-words-ne0.branch [
      | then-words-ne0 w ↦ rw w.next-is (advanced_more _ _ _ _ c.requires _ _ c.loop-p.invariant c.loop-p-test.true _ w.pass_on.ensures)
      | else-words-ne0 w ↦ rw w.next-is (advanced_idle _ _ _ _ c.requires _ _ c.loop-p.invariant c.loop-p-test.true w.if-words-ne0.false)
    ])
