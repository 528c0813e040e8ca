-- `scans::tests::line_test` meets its contract: along the line, what is left decides as the whole, and so many `_` were passed; each answer is one test.
use Rattle.std.proofs.Common.{refl, ap, ◌∙◌, arith}
use lib.Seq.{take_all}
use Rattle.automata.specs.Booleans.{choose}
use Rattle.book.specs.Kind.{kind_of}
use Rattle.scans.proofs.LineLaws.{along_start, along_over, along_next, shallow, gaps_next, gaps_counted, test_deep, test_contexts, test_end}
use Rattle.scans.proofs.tests.line_test.Goals as goal

pub loop-b-init : goal.loop-b-init
loop-b-init c = record { along = along_start _; passed = refl }

pub loop-b-preserved : goal.loop-b-preserved
loop-b-preserved c =
    record {
      along = along_next _ _ _ _ _ _ c.loop-b-test.true c.loop-b.invariant.along (λ e. grind arith) (λ e. grind arith) (λ e. grind arith) (λ e. grind arith) (λ e. grind arith);
      passed = gaps_next _ _ _ _ c.loop-b-test.true c.loop-b.invariant.passed (λ e. grind arith) (λ e. grind arith);
    }

pub returns-then-closes-opens : goal.returns-then-closes-opens
returns-then-closes-opens c = test_deep _ _ (along_over _ _ _ (omega arith) refl c.loop-b.invariant.along (ap kind_of c.if-b-eq40.true) (omega arith))

pub returns-then-gaps-gt4 : goal.returns-then-gaps-gt4
returns-then-gaps-gt4 c =
    let all = take_all c.loop-b.b-index c.args.line.now (omega arith) in
    test_contexts _ _ (shallow c.loop-b.invariant.along (omega arith)) (omega (arith, gaps_counted c.args.line.now, rw all at c.loop-b.invariant.passed))

pub returns-then-ended : goal.returns-then-ended
returns-then-ended c =
    let all = take_all c.loop-b.b-index c.args.line.now (omega arith) in
    test_end _ _ (shallow c.loop-b.invariant.along (omega arith)) (omega (arith, gaps_counted c.args.line.now, rw all at c.loop-b.invariant.passed)) ∙ ap (λ t. choose t (λ _. 0) (λ _. 5)) c.if-ended.true

pub returns-else-ended : goal.returns-else-ended
returns-else-ended c =
    let all = take_all c.loop-b.b-index c.args.line.now (omega arith) in
    test_end _ _ (shallow c.loop-b.invariant.along (omega arith)) (omega (arith, gaps_counted c.args.line.now, rw all at c.loop-b.invariant.passed)) ∙ ap (λ t. choose t (λ _. 0) (λ _. 5)) c.if-ended.false
