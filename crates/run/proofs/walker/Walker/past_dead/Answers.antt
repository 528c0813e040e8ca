-- `past_dead` meets its contract.
use mathlib.Core.Path.{sym}
use native.Mathlib.Omega.{arith}
use Rattle.run.proofs.PieceLaws.{past_unknown, past_end, placed}
use Rattle.run.specs.Cards.{ready_of}
use Rattle.run.proofs.walker.Walker.past_dead.Goals as goal

pub known-k-requires : goal.known-k-requires
known-k-requires c =
    c.requires.from_in_bounds.0

pub overflow_sub-total : goal.overflow_sub-total
overflow_sub-total c =
    c.known-k.ensures.low

pub overflow_add-total : goal.overflow_add-total
overflow_add-total c =
    omega (arith, c.known-k.ensures.most, c.known-k.ensures.low, c.requires.from_in_bounds)

pub returns-then-k-plan : goal.returns-then-k-plan
returns-then-k-plan c =
    record {
      is = sym (past_unknown _ _ _ (ready_of c.args.self.now.card) _ _ _ _ _ _ c.known-k.ensures c.requires.state_lt_n.0 c.requires.state_lt_n.1 c.if-k-plan.true);
      underway = record { inside = c.requires.state_lt_n.0; dead = λ k e. c.requires.state_lt_n.1; alive = λ e. placed _ e };
    }

pub returns : goal.returns
returns c =
    record {
      is = sym (past_end _ _ _ (ready_of c.args.self.now.card) _ _ _ _ _ _ c.known-k.ensures c.requires.state_lt_n.0 c.requires.state_lt_n.1 c.if-k-plan.false);
      underway = record { inside = c.requires.state_lt_n.0; dead = λ k e. c.requires.state_lt_n.1; alive = λ e. placed _ e };
    }
