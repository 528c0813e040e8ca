-- `accepting` meets its contract: the states below p are told.
use Rattle.std.proofs.Common.{inl, inr, ◌≡◌, ◌+◌, ◌<◌, ◌∙◌, ℕ, arith, sym, get_or, get_or-set_same, get_or-set_other}
use Rattle.automata.specs.Basics.{SameCases, same_cases, nat_test}
use Rattle.moves.proofs.StatesTo.accepting.Goals as goal

pub loop-p-init : goal.loop-p-init
loop-p-init g c = λ q h d. absurd (omega arith)

pub loop-p-preserved : goal.loop-p-preserved
loop-p-preserved g c = λ q h d. elim (same_cases nat_test q c.loop-p.p) [
  | inl x ↦ rw (x.0, get_or-set_same c.loop-p.of c.loop-p.p c.from.result d (omega arith), ← c.accepts.ensures) c.from.ensures
  | inr x ↦ rw (get_or-set_other c.loop-p.of c.loop-p.p q c.from.result d x.0) (c.loop-p.invariant q (omega (arith, x.0)) d)
]

pub returns-clause-told : goal.returns-clause-told
returns-clause-told g c = λ p h d. c.loop-p.invariant p (omega arith) d
