-- From the board's answers to those of the whole way.
use mathlib.Core.Path.{◌≡◌, sym, ap}
use mathlib.Core.List.{List}
use Prim.Native.Nat.{ℕ, ◌≤◌}
use lib.ListN.{length, take}
use lib.Seq.{length-take-le}
use Rattle.automata.specs.Format.{narrow}
use Rattle.card.specs.Answer.{load}
use Rattle.card.specs.Judge.{judge}
use Rattle.compiler.specs.declared.Compiled.{Compiled}
use Rattle.std.specs.Prelude.{Result, Ok}
use Rattle.loading.specs.declared.Fault.{Fault}
use Rattle.handing.specs.declared.OnCard.{OnCard}
use Rattle.handing.specs.Answers.{on_board, board_says, delivery}
use Rattle.handing.specs.Answers as A
use Rattle.handing.specs.Handing.{handed}

-- ---- handing over

pub hands_card : (buffer plan : List ℕ) (c : Compiled) (b : Result OnCard Fault) → on_board b ≡ board_says (load narrow (take c.length buffer)) (judge narrow (take c.length buffer) plan)
    → delivery (Ok (record { compiled = c; board = b })) ≡ handed (Ok c) buffer plan
hands_card buffer plan c b h = ap (A.card c.length c.peak) h

pub taken : (n : ℕ) (s : List ℕ) → n ≤ length s → n ≡ length (take n s)
taken n s h = sym (length-take-le n s h)
