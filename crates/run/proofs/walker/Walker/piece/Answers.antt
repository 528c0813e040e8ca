-- `Walker::piece` meets its contract, case by case.
use native.Mathlib.Omega.{arith}
use borrow.Author.Rules.{rules}
use Rattle.run.proofs.PieceLaws.{runs_halted, runs_dead, runs_done, runs_unknown, runs_past, ends_dead, ends_unknown}
use Rattle.run.specs.Cards.{bytes_of, letters_in, states_in}
use Rattle.run.proofs.walker.Walker.piece.Goals as goal

pub returns-in-Some : goal.returns-in-Some
returns-in-Some c =
    runs_halted (bytes_of c.args.self.now.card) (letters_in c.args.self.now.card) (states_in c.args.self.now.card) c.args.plan.now c.args.run c.requires.0 _ c.in-Some.is

pub past_dead-requires : goal.past_dead-requires
past_dead-requires c =
    record { from_in_bounds = (search rules, omega (arith, c.requires.1)); state_lt_n = (c.requires.0.inside, c.requires.0.dead _ c.in-Some-dead.is) }

pub returns-in-Some-dead : goal.returns-in-Some-dead
returns-in-Some-dead c =
    runs_dead (bytes_of c.args.self.now.card) (letters_in c.args.self.now.card) _ c.args.plan.now c.args.run _ _ c.in_default.is c.in-Some-dead.is c.past_dead.ensures

pub walk_on-requires : goal.walk_on-requires
walk_on-requires c =
    (c.requires.0.inside, c.requires.0.alive c.in_default-dead.is)

pub overflow_add-result : goal.overflow_add-result
overflow_add-result c =
    omega (arith, c.requires.1)

pub overflow_add-letters : goal.overflow_add-letters
overflow_add-letters c =
    omega (arith, c.requires.1, ends_dead (bytes_of c.args.self.now.card) (letters_in c.args.self.now.card) (states_in c.args.self.now.card) c.args.plan.now c.args.run _ c.in_default.is c.in_default-dead.is c.walk_on.ensures _ _ c.in-Dead.is)

pub overflow_add-letters-in-Dead : goal.overflow_add-letters-in-Dead
overflow_add-letters-in-Dead c =
    omega (arith, c.requires.1, ends_dead (bytes_of c.args.self.now.card) (letters_in c.args.self.now.card) (states_in c.args.self.now.card) c.args.plan.now c.args.run _ c.in_default.is c.in_default-dead.is c.walk_on.ensures _ _ c.in-Dead.is)

pub past_dead-requires-in-Dead : goal.past_dead-requires-in-Dead
past_dead-requires-in-Dead c =
    let d = ends_dead (bytes_of c.args.self.now.card) (letters_in c.args.self.now.card) (states_in c.args.self.now.card) c.args.plan.now c.args.run _ c.in_default.is c.in_default-dead.is c.walk_on.ensures _ _ c.in-Dead.is in
    record { from_in_bounds = (d.2, omega (arith, c.requires.1, d.2)); state_lt_n = (d.0, d.1) }

pub overflow_add-result-in-Unknown : goal.overflow_add-result-in-Unknown
overflow_add-result-in-Unknown c =
    omega (arith, c.requires.1, ends_unknown (bytes_of c.args.self.now.card) (letters_in c.args.self.now.card) (states_in c.args.self.now.card) c.args.plan.now c.args.run _ c.in_default.is c.in_default-dead.is c.walk_on.ensures _ _ c.in-Unknown.is)

pub overflow_add-result-in-Unknown-2 : goal.overflow_add-result-in-Unknown-2
overflow_add-result-in-Unknown-2 c =
    omega (arith, c.requires.1, ends_unknown (bytes_of c.args.self.now.card) (letters_in c.args.self.now.card) (states_in c.args.self.now.card) c.args.plan.now c.args.run _ c.in_default.is c.in_default-dead.is c.walk_on.ensures _ _ c.in-Unknown.is)

pub returns-in-Done : goal.returns-in-Done
returns-in-Done c =
    runs_done (bytes_of c.args.self.now.card) (letters_in c.args.self.now.card) (states_in c.args.self.now.card) c.args.plan.now c.args.run _ c.in_default.is c.in_default-dead.is c.walk_on.ensures _ c.in-Done.is

pub returns-in-Dead : goal.returns-in-Dead
returns-in-Dead c =
    runs_past (bytes_of c.args.self.now.card) (letters_in c.args.self.now.card) (states_in c.args.self.now.card) c.args.plan.now c.args.run _ c.in_default.is c.in_default-dead.is c.walk_on.ensures _ _ _ c.in-Dead.is c.past_dead-in-Dead.ensures

pub returns-in-Unknown : goal.returns-in-Unknown
returns-in-Unknown c =
    runs_unknown (bytes_of c.args.self.now.card) (letters_in c.args.self.now.card) (states_in c.args.self.now.card) c.args.plan.now c.args.run _ c.in_default.is c.in_default-dead.is c.walk_on.ensures _ _ c.in-Unknown.is
