-- `capi::pier_compile` meets its contract.
use Rattle.capi.specs.Compiles.{compiled_as}
use Rattle.capi.proofs.pier_compile.Goals as goal

pub compile-answer-requires : goal.compile-answer-requires
compile-answer-requires c =
    tt

pub compiled-requires : goal.compiled-requires
compiled-requires c =
    tt

pub shape_of-card : goal.shape_of-card
shape_of-card c =
    c.compile-answer.auto.card

pub shape_of-low : goal.shape_of-low
shape_of-low c =
    c.compile-answer.auto.low

pub shape_of-high : goal.shape_of-high
shape_of-high c =
    c.compile-answer.auto.high

pub shape_of-registers : goal.shape_of-registers
shape_of-registers c =
    c.compile-answer.auto.registers

pub shape_of-stack : goal.shape_of-stack
shape_of-stack c =
    c.compile-answer.auto.stack

pub shape_of-rows : goal.shape_of-rows
shape_of-rows c =
    c.compile-answer.auto.rows

pub shape_of-table : goal.shape_of-table
shape_of-table c =
    c.compile-answer.auto.table

pub shape_of-work : goal.shape_of-work
shape_of-work c =
    c.compile-answer.auto.work

pub shape_of-code : goal.shape_of-code
shape_of-code c =
    c.compile-answer.auto.code

pub returns : goal.returns
returns c =
    compiled_as _ _ _ _ _ _ c.compile-answer.ensures c.compiled.ensures
