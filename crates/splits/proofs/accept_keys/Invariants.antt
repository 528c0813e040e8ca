-- `accept_keys` meets its contract: the states passed have their keys.
use Rattle.splits.proofs.KeyLaws.{KeysUpto, accept_key}
use Rattle.splits.proofs.accept_keys.Given as goal

abbrev pub invariant-loop-p : goal.invariant-loop-p
invariant-loop-p l = KeysUpto 120 (accept_key l.marks) l.keys l.p
