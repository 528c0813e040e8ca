-- `column_keys` meets its contract.
use Rattle.splits.proofs.KeyLaws.{KeysUpto, column_key}
use Rattle.splits.proofs.column_keys.Given as goal

abbrev pub invariant-loop-p : goal.invariant-loop-p
invariant-loop-p l = KeysUpto 120 (column_key l.m l.moves l.c l.classes) l.keys l.p
