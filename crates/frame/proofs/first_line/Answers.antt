-- `frame::first_line` meets its contract: line 1 is read, or refused.
use Rattle.frame.proofs.FrameLaws.{no_bytes, headed, head_stops}
use native.Mathlib.Omega.{arith}
use Rattle.frame.proofs.first_line.Goals as goal

pub returns-then-text-eq0 : goal.returns-then-text-eq0
returns-then-text-eq0 c =
    no_bytes c.args.text.now (omega arith)

pub returns-in-Ok : goal.returns-in-Ok
returns-in-Ok c =
    headed c.args.text.now _ c.line_end-end.ensures (omega arith) _ _ c.read_head.ensures c.in-Ok.is c.requires

pub returns-in-Err : goal.returns-in-Err
returns-in-Err c =
    head_stops c.args.text.now _ c.line_end-end.ensures (omega arith) _ _ c.read_head.ensures c.in-Err.is
