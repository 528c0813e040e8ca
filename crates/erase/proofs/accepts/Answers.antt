-- `accepts` of an erase meets its contract.
use Rattle.sets.proofs.EraseLaws.{erase_width, erase_accepts}
use mathlib.Core.Path.{◌∙◌}
use native.Mathlib.Omega.{arith}
use Rattle.erase.proofs.accepts.Goals as goal

pub some_accepting-requires : goal.some_accepting-requires
some_accepting-requires c =
    let args = c.args in
    omega (arith, args.operands.now.left.closed.long, args.operands.now.left.closed.flags, c.requires.source.long, erase_width args.operands.now c.requires.op_value)

pub returns : goal.returns
returns c =
    let args = c.args in
    let n = c.requires.source.long ∙ erase_width args.operands.now c.requires.op_value in
    erase_accepts args.operands.now c.requires.op_value args.from.now _ (rw n at c.some_accepting.ensures)
