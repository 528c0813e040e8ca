-- `pour` meets its contract.
use Rattle.std.proofs.Common.{ℕ, ◌≡◌, ◌+◌, true, length, get_or, arith, refl, sym, ◌∙◌}
use Rattle.rows.proofs.SumLaws.{summed_none}
use Rattle.flags.specs.Flags.{target_of}
use Rattle.flags.specs.Members.{led_by}
use Rattle.flags.proofs.FlagLaws.{Flags, flags_none, flags_row, lead_in}
use Rattle.flags.proofs.MemberLaws.{some_none, some_yes, some_no}
use Rattle.flags.proofs.TableLaws.{target_is}
use Rattle.flags.proofs.bits.pour.Goals as goal
use Rattle.flags.proofs.bits.pour.Goals.{then-accepts, else-accepts}

pub loop-q-init : goal.loop-q-init
loop-q-init c =
    let T = c.args.table.now in
    let F = flags_none c.requires.row_value in
    record { flags = F; summed = summed_none c.args.first (length c.args.row.now) c.args.row.now c.requires.row_value c.requires.pours.small; accepting = some_none T.cells.now T.states F c.requires.pours.room }

pub target-to-requires : goal.target-to-requires
target-to-requires c =
    record { p_lt_states = c.requires.pours.counted.state c.loop-q.q-index c.loop-q-test.true; c_lt_columns = c.requires.pours.column }

pub loop-q-preserved : goal.loop-q-preserved
loop-q-preserved c =
    let a = c.args in
    let T = a.table.now in
    let v = c.loop-q.invariant in
    let i = c.loop-q.q-index in
    let low = c.target-to.ensures.inside in
    let is = target_is T (c.requires.pours.counted.state i c.loop-q-test.true) c.requires.pours.column c.target-to.ensures in
    let next : ℕ → ℕ = λ i. target_of T a.c (get_or a.members.now i 0) in
    let flags : Flags (length a.row.now) (led_by a.members.now (target_of T a.c) (i + 1)) c.flag-sum.new.row = rw (c.flag-sum.ensures.0, is) (lead_in (λ i. true) next (length a.row.now) i v.flags refl (omega (arith, is, low, c.requires.pours.room))) in
    elim c.if-accepts.branch [
      | then-accepts w ↦ record { flags = flags; summed = c.flag-sum.ensures.1; accepting = w.accepting-is ∙ rw c.flag-sum.ensures.0 (some_yes c.loop-q.row T.cells.now T.states c.target-to.result low (omega (arith, low, c.requires.pours.room, v.flags.long)) (sym c.accepts.ensures ∙ w.if-accepts.true)) }
      | else-accepts w ↦ record { flags = flags; summed = c.flag-sum.ensures.1; accepting = w.accepting-is ∙ v.accepting ∙ rw c.flag-sum.ensures.0 (some_no c.loop-q.row T.cells.now T.states c.target-to.result (sym c.accepts.ensures ∙ w.if-accepts.false)) }
    ]

pub returns : goal.returns
returns c =
    let e : c.loop-q.q-index ≡ length c.args.members.now = omega arith in
    record { is = flags_row (rw e at c.loop-q.invariant.flags); summed = c.loop-q.invariant.summed; accepting = c.loop-q.invariant.accepting }
