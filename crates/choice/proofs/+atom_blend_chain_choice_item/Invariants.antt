-- choice, blend, chain, item and atom: each call is at a later byte of the line, or of a smaller part. Each loop keeps what comes of the part ahead (`Ahead`).
use Rattle.std.proofs.Common.{◌+◌, ◌-◌, ◌*◌, length}
use Rattle.choice.specs.Reading.{a_choice, a_blend, a_chain, an_item, more_choices, more_blends, more_chains}
use Rattle.choice.proofs.ReadLaws.{Ahead}
use Rattle.choice.proofs.+atom_blend_chain_choice_item.Given as goal

abbrev pub decreases-atom : goal.decreases-atom
decreases-atom l = 6 * (length l.s.now - l.c.cursor.at) + 1

abbrev pub decreases-blend : goal.decreases-blend
decreases-blend l = 6 * (length l.s.now - l.c.cursor.at) + 4

abbrev pub decreases-chain : goal.decreases-chain
decreases-chain l = 6 * (length l.s.now - l.c.cursor.at) + 3

abbrev pub decreases-choice : goal.decreases-choice
decreases-choice l = 6 * (length l.s.now - l.c.cursor.at) + 5

abbrev pub decreases-item : goal.decreases-item
decreases-item l = 6 * (length l.s.now - l.c.cursor.at) + 2

abbrev pub invariant-blend-loop-n : goal.invariant-blend-loop-n
invariant-blend-loop-n l = Ahead a_blend a_chain more_blends l.operator l.s l.initial.out l.initial.here l.out l.here

abbrev pub decreases-blend-loop-n : goal.decreases-blend-loop-n
decreases-blend-loop-n l = length l.s - l.here.cursor.at

abbrev pub invariant-chain-loop-n : goal.invariant-chain-loop-n
invariant-chain-loop-n l = Ahead a_chain an_item more_chains l.join l.s l.initial.out l.initial.here l.out l.here

abbrev pub decreases-chain-loop-n : goal.decreases-chain-loop-n
decreases-chain-loop-n l = length l.s - l.here.cursor.at

abbrev pub invariant-choice-loop-n : goal.invariant-choice-loop-n
invariant-choice-loop-n l = Ahead a_choice a_blend more_choices l.bar l.s l.initial.out l.initial.here l.out l.here

abbrev pub decreases-choice-loop-n : goal.decreases-choice-loop-n
decreases-choice-loop-n l = length l.s - l.here.cursor.at
