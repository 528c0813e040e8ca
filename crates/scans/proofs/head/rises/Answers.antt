-- `scans::head::rises` meets its contract: what is left rises above the last letter exactly when the whole rises.
use Rattle.std.proofs.Common.{sym, ◌∙◌, arith}
use Rattle.lexer.specs.declared.kinds.Kind.TheVariants.{Letter}
use Rattle.lexer.proofs.KindLaws.{unequal_true, unequal_false}
use Rattle.scans.proofs.LineLaws.{rises_not, rises_low, rises_on, rises_end}
use Rattle.scans.proofs.head.rises.Goals as goal

pub returns-then-ne : goal.returns-then-ne
returns-then-ne c = sym (rises_not c.args.letters.now c.loop-b.b-index _ (omega arith) c.of.ensures _ (unequal_true _ Letter c.ne.ensures c.if-ne.true)) ∙ c.loop-b.invariant

pub returns-then-b-low : goal.returns-then-b-low
returns-then-b-low c = sym (rises_low c.args.letters.now c.loop-b.b-index _ (omega arith) c.of.ensures _ (unequal_false _ Letter c.ne.ensures c.if-ne.false) c.if-b-low.true) ∙ c.loop-b.invariant

pub loop-b-preserved : goal.loop-b-preserved
loop-b-preserved c = rises_on c.args.letters.now c.loop-b.b-index _ (omega arith) c.of.ensures _ (unequal_false _ Letter c.ne.ensures c.if-ne.false) c.if-b-low.false ∙ c.loop-b.invariant

pub returns : goal.returns
returns c = sym (rises_end c.args.letters.now c.loop-b.b-index _ (omega arith)) ∙ c.loop-b.invariant
