-- `lead` meets its contract.
use Rattle.std.proofs.Common.{ℕ, ◌-◌, true, get_or, arith, refl}
use Rattle.rows.proofs.SumLaws.{summed_none}
use Rattle.flags.specs.Flags.{target_of}
use Rattle.flags.proofs.ClosureLaws.{gain_none, gain_in}
use Rattle.flags.proofs.TableLaws.{target_is}
use Rattle.flags.proofs.closure.lead.Goals as goal

pub loop-q-init : goal.loop-q-init
loop-q-init c =
    let T = c.args.table.now in
    record { gains = gain_none (target_of T (T.columns - 1)) T.states c.args.row.now c.requires.row_value; summed = summed_none 0 T.states c.args.row.now c.requires.row_value (omega (arith, c.requires.c_lt_columns.1)) }

pub target-to-requires : goal.target-to-requires
target-to-requires c =
    record { p_lt_states = c.requires.counted.state c.loop-q.q-index c.loop-q-test.true; c_lt_columns = c.requires.c_lt_columns.0 }

pub loop-q-preserved : goal.loop-q-preserved
loop-q-preserved c =
    let a = c.args in
    let i = c.loop-q.q-index in
    let to : ℕ → ℕ = λ i. target_of a.table.now a.c (get_or a.members.now i 0) in
    let is = target_is a.table.now (c.requires.counted.state i c.loop-q-test.true) c.requires.c_lt_columns.0 c.target-to.ensures in
    record { gains = gain_in (λ i. true) to i c.loop-q.invariant.gains c.target-to.result is refl c.chase-sum.ensures.0; summed = c.chase-sum.ensures.1 }
