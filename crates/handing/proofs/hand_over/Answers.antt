-- `handing::hand_over` meets its contract: the board has just the card's bytes.
use Rattle.std.proofs.Common.{◌≡◌, Ok, arith}
use Rattle.handing.proofs.HandingLaws.{taken, hands_card}
use Rattle.handing.proofs.hand_over.Goals as goal

pub slice_bounds-load_and_judge-end : goal.slice_bounds-load_and_judge-end
slice_bounds-load_and_judge-end c =
    let s : c.args.answer ≡ Ok c.in_ok-compiled.compiled = grind arith in
    taken _ _ (rw s at c.requires)

pub returns : goal.returns
returns c =
    let s : c.args.answer ≡ Ok c.in_ok-compiled.compiled = grind arith in
    rw s (hands_card _ _ _ c.load_and_judge-board.result c.load_and_judge-board.ensures)
