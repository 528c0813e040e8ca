-- `frame::put_card` meets its contract: the writer's answer as the entry's.
use Rattle.std.proofs.Common.{◌≡◌, refl, None, Some, Err, arith}
use Rattle.std.proofs.lemmas.Result.{err_from_is_err_and}
use Rattle.compiler.specs.declared.Refusal.TheVariants.{OutputTooShort}
use Rattle.frame.proofs.FrameLaws.{slot_long, kept, puts_card, puts_none}
use Rattle.frame.proofs.put_card.Goals as goal

pub read-requires : goal.read-requires
read-requires c = omega (arith, slot_long c.requires)

pub slice_bounds-machine-count : goal.slice_bounds-machine-count
slice_bounds-machine-count c = omega (arith, slot_long c.requires)

pub slice_bounds-machine-start : goal.slice_bounds-machine-start
slice_bounds-machine-start c = omega (arith, slot_long c.requires)

pub invariant_of-machine : goal.invariant_of-machine
invariant_of-machine c = record { closed = (kept c.args.letters.now c.args.slot.now _ c.read.ensures c.requires).closed }

pub write-requires : goal.write-requires
write-requires c = record { kept = kept c.args.letters.now c.args.slot.now _ c.read.ensures c.requires; letters_len = refl }

pub returns-in_err-length : goal.returns-in_err-length
returns-in_err-length c =
    let p = err_from_is_err_and c.from_residual.result c.from_residual.ensures.1 in
    let n : c.write.result ≡ None = grind arith in
    let e : c.from_residual.result ≡ Err OutputTooShort = grind arith in
    rw e (puts_none c.args.letters.now c.args.slot.now _ c.read.ensures c.args.peak _ _ _ c.write.ensures n)

pub returns : goal.returns
returns c =
    let s : c.write.result ≡ Some c.in_ok-length.length = grind arith in
    puts_card c.args.letters.now c.args.slot.now _ c.read.ensures c.args.peak _ _ _ _ c.write.ensures s
