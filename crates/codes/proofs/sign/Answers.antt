use Rattle.codes.specs.Codes.{sorted_at, unknown_sorted, sorted_46, sorted_64, sorted_1, sorted_2, sorted_3, sorted_4, sorted_124, sorted_38, sorted_45, sorted_59, sorted_42, sorted_7, sorted_63, sorted_33, sorted_8, sorted_43, sorted_5, sorted_6}
use native.Mathlib.Omega.{arith}
use Rattle.codes.proofs.sign.Goals as goal

pub returns-in-46 : goal.returns-in-46
returns-in-46 c =
    sorted_at _ 46 c.in-46.is sorted_46

pub returns-in-64 : goal.returns-in-64
returns-in-64 c =
    sorted_at _ 64 c.in-64.is sorted_64

pub returns-in-1 : goal.returns-in-1
returns-in-1 c =
    sorted_at _ 1 c.in-1.is sorted_1

pub returns-in-2 : goal.returns-in-2
returns-in-2 c =
    sorted_at _ 2 c.in-2.is sorted_2

pub returns-in-3 : goal.returns-in-3
returns-in-3 c =
    sorted_at _ 3 c.in-3.is sorted_3

pub returns-in-4 : goal.returns-in-4
returns-in-4 c =
    sorted_at _ 4 c.in-4.is sorted_4

pub returns-in-124 : goal.returns-in-124
returns-in-124 c =
    sorted_at _ 124 c.in-124.is sorted_124

pub returns-in-38 : goal.returns-in-38
returns-in-38 c =
    sorted_at _ 38 c.in-38.is sorted_38

pub returns-in-45 : goal.returns-in-45
returns-in-45 c =
    sorted_at _ 45 c.in-45.is sorted_45

pub returns-in-59 : goal.returns-in-59
returns-in-59 c =
    sorted_at _ 59 c.in-59.is sorted_59

pub returns-in-42 : goal.returns-in-42
returns-in-42 c =
    sorted_at _ 42 c.in-42.is sorted_42

pub returns-in-7 : goal.returns-in-7
returns-in-7 c =
    sorted_at _ 7 c.in-7.is sorted_7

pub returns-in-63 : goal.returns-in-63
returns-in-63 c =
    sorted_at _ 63 c.in-63.is sorted_63

pub returns-in-33 : goal.returns-in-33
returns-in-33 c =
    sorted_at _ 33 c.in-33.is sorted_33

pub returns-in-8 : goal.returns-in-8
returns-in-8 c =
    sorted_at _ 8 c.in-8.is sorted_8

pub returns-in-43 : goal.returns-in-43
returns-in-43 c =
    sorted_at _ 43 c.in-43.is sorted_43

pub returns-in-5 : goal.returns-in-5
returns-in-5 c =
    sorted_at _ 5 c.in-5.is sorted_5

pub returns-in-6 : goal.returns-in-6
returns-in-6 c =
    sorted_at _ 6 c.in-6.is sorted_6

pub returns-in_default : goal.returns-in_default
returns-in_default c =
    unknown_sorted c.args.c c.requires (omega arith) (omega arith) (omega arith) (omega arith) (omega arith) (omega arith) (omega arith) (omega arith) (omega arith) (omega arith) (omega arith) (omega arith) (omega arith) (omega arith) (omega arith) (omega arith) (omega arith) (omega arith)
