use Rattle.std.proofs.Common.{◌≡◌, ℕ, ◌<◌, length, get_or, eqb}
use Rattle.std.specs.List.{HoldsAt}
use Rattle.moves.proofs.StatesTo.accepting.Given as goal

abbrev pub invariant-loop-p : goal.invariant-loop-p
invariant-loop-p g l = (q : ℕ) → q < l.p → HoldsAt (g.T.From.from_gives (eqb 1 (get_or l.self.marks.now q 0))) l.of q
