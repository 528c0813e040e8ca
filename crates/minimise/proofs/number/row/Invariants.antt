-- `row` meets its contract. The loop: the columns below c are written, all that they lead to is in the order, and x is the number of the last one's.
use Rattle.minimise.specs.Number.{classes_of, Upto}
use Rattle.minimise.proofs.RowLaws.{Last}
use Rattle.minimise.proofs.number.row.Given as goal

abbrev pub invariant-loop-c : goal.invariant-loop-c
invariant-loop-c l =
    Upto (classes_of l.table l.classes) l.table.columns l.most l.i l.count l.initial.order l.initial.slot l.c l.m l.numbers l.order l.slot
    × Last l.table.states l.m l.last l.x l.classes l.order
