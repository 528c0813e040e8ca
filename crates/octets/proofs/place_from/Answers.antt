-- `place_from` meets its contract: the place in what is left is within it.
use Rattle.std.proofs.Common.{◌-◌, length, drop, length-drop}
use native.Mathlib.Omega.{arith}
use lib.Seq.{take_all}
use Rattle.automata.specs.Basics.{nat_test, find_le}
use Rattle.octets.proofs.place_from.Goals as goal

pub overflow_add-result : goal.overflow_add-result
overflow_add-result c =
    let s = c.args.bytes.now in
    let at = c.args.from in
    let e = rw (take_all (length s - at) (drop at s) (omega (arith, length-drop at s))) at c.place.ensures in
    omega (arith, e, find_le nat_test c.args.byte (drop at s), length-drop at s)
