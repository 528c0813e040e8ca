-- `delivery::deliver` meets its contract: demand 3, from the contracts of the entries.
use Rattle.delivery.proofs.DeliveryLaws.{card_within, delivers}
use Rattle.delivery.proofs.deliver.Goals as goal

pub compile-answer-requires : goal.compile-answer-requires
compile-answer-requires c =
    tt

pub hand_over-requires : goal.hand_over-requires
hand_over-requires c =
    card_within _ _ _ _ _ c.compile-answer.ensures

pub shape_of-card : goal.shape_of-card
shape_of-card c =
    c.compile-answer.auto.card

pub shape_of-low : goal.shape_of-low
shape_of-low c =
    c.compile-answer.auto.low

pub shape_of-high : goal.shape_of-high
shape_of-high c =
    c.compile-answer.auto.high

pub shape_of-registers : goal.shape_of-registers
shape_of-registers c =
    c.compile-answer.auto.registers

pub shape_of-stack : goal.shape_of-stack
shape_of-stack c =
    c.compile-answer.auto.stack

pub shape_of-rows : goal.shape_of-rows
shape_of-rows c =
    c.compile-answer.auto.rows

pub shape_of-table : goal.shape_of-table
shape_of-table c =
    c.compile-answer.auto.table

pub shape_of-work : goal.shape_of-work
shape_of-work c =
    c.compile-answer.auto.work

pub shape_of-code : goal.shape_of-code
shape_of-code c =
    c.compile-answer.auto.code

pub returns : goal.returns
returns c =
    delivers _ _ _ _ _ _ c.hand_over.result c.compile-answer.ensures c.hand_over.ensures
