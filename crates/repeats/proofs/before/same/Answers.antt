-- `same` meets its contract: the listed members of a star's row, or of an erase's, lead alike.
use lib.ListN.{length}
use mathlib.Core.Path.{◌≡◌, sym}
use Rattle.std.proofs.Common.{rules}
use Rattle.sets.specs.Operations.{operation_of, star, erase}
use Rattle.repeats.proofs.BeforeLaws.{before_star, before_erase}
use Rattle.repeats.proofs.before.same.Goals as goal

pub returns-in-Star : goal.returns-in-Star
returns-in-Star c =
    let a = c.args in
    let is : operation_of a.operands.now.op ≡ star = search rules in
    λ e. before_star a.operands.now a.c a.from.now c.requires.looks (length a.members.now) a.members.now (rw is at c.requires.listed) (c.listed.ensures e) is

pub returns-then-operands-c : goal.returns-then-operands-c
returns-then-operands-c c =
    let a = c.args in
    let is : operation_of a.operands.now.op ≡ erase = search rules in
    λ e. before_erase a.operands.now a.c a.from.now c.requires.looks (length a.members.now) a.members.now (rw is at c.requires.listed) (c.listed-then-operands-c.ensures e) is (λ z. c.if-operands-c.true (sym z))
