-- What a closed row of flags has is what the definition of erase says.
use mathlib.Core.Path.{◌≡◌, refl, sym, ap, ◌∙◌, subst}
use mathlib.Core.Bool.{Bool, true, ◌&&◌}
use mathlib.Core.List.{List}
use Prim.Native.Nat.{ℕ, zero, suc, ◌<◌}
use native.Mathlib.Omega.{arith}
use lib.Dec.{eqb}
use borrow.Author.Tests.{eq-eqb}
use Rattle.automata.specs.Booleans.{bool_iff, and_left, and_right, and_both}
use Rattle.automata.specs.Basics.{nat_test}
use Rattle.automata.specs.Decide.{any_below, any_below_lem, below_any}
use Rattle.automata.specs.Machine.{automaton}
use Rattle.entries.specs.declared.table.Table.{Table}
use Rattle.entries.specs.Entries.{machine_of}
use Rattle.rows.specs.Rows.{bit, flag_at}
use Rattle.flags.specs.Closure.{times, Gains}
use Rattle.flags.specs.Flags.{flag_row, target_of}
use Rattle.flags.proofs.ClosureLaws.{short, flag_length}
use Rattle.flags.proofs.FlagLaws.{flags_row}
use Rattle.flags.proofs.TableLaws.{step_target}
use Rattle.sets.specs.Operations.{marks, gained}

module _ (T : Table) (m : ℕ) (b : m < T.columns) where
  marks_times : (i q : ℕ) → q < T.states → marks (automaton (machine_of T)) m i q ≡ times (target_of T m) i q
  marks_times zero q h = refl
  marks_times (suc i) q h = rw (step_target T q m h b) (marks_times i (target_of T m q) (T.closed.inside q m h b))

  pub gains_row : (row : List ℕ) (member : ℕ → Bool) → Gains (target_of T m) T.states member row → row ≡ flag_row (gained m T.states (automaton (machine_of T)) member) T.states
  gains_row row member G = flags_row {f = gained m T.states (automaton (machine_of T)) member} (record { long = G.long; entry = λ x h. G.bits x ∙ ap bit (same x h) })
    where
      next : ℕ → ℕ
      next = target_of T m

      walk : (i q : ℕ) → flag_at row q ≡ true → flag_at row (times next i q) ≡ true
      walk zero q f = f
      walk (suc i) q f = walk i (next q) (G.closed q f)

      there : (x : ℕ) → flag_at row x ≡ true → gained m T.states (automaton (machine_of T)) member x ≡ true
      there x f =
          let (q, i, g, y) = G.sound x f in
          let h : q < T.states = omega (arith, flag_length row q (G.keeps q g), G.long) in
          let (j, c, z) = short next T.states (λ p l. T.closed.inside p m l b) i q h in
          below_any (λ q. member q && any_below (λ i. eqb (marks (automaton (machine_of T)) m i q) x) T.states) T.states q h
          (and_both (member q) (any_below (λ i. eqb (marks (automaton (machine_of T)) m i q) x) T.states) g
          (below_any (λ i. eqb (marks (automaton (machine_of T)) m i q) x) T.states j c
          (eq-eqb (marks (automaton (machine_of T)) m j q) x (marks_times j q h ∙ z ∙ y))))

      back : (x : ℕ) → gained m T.states (automaton (machine_of T)) member x ≡ true → flag_at row x ≡ true
      back x f =
          let (q, h, g) = any_below_lem (λ q. member q && any_below (λ i. eqb (marks (automaton (machine_of T)) m i q) x) T.states) T.states f in
          let u = and_left (member q) (any_below (λ i. eqb (marks (automaton (machine_of T)) m i q) x) T.states) g in
          let v = and_right (member q) (any_below (λ i. eqb (marks (automaton (machine_of T)) m i q) x) T.states) g in
          let (j, c, z) = any_below_lem (λ i. eqb (marks (automaton (machine_of T)) m i q) x) T.states v in
          let y : times next j q ≡ x = sym (marks_times j q h) ∙ nat_test.sound (marks (automaton (machine_of T)) m j q) x z in
          subst (λ (p : ℕ). flag_at row p ≡ true) y (walk j q (G.keeps q u))

      same : (x : ℕ) → x < T.states → flag_at row x ≡ gained m T.states (automaton (machine_of T)) member x
      same x h = bool_iff (flag_at row x) (gained m T.states (automaton (machine_of T)) member x) (there x) (back x)
