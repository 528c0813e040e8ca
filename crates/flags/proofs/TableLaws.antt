-- Operands that are tables: what is read lies inside, and says what the machine does.
use mathlib.Core.Path.{◌≡◌, sym, ap, ap₂, ◌∙◌}
use mathlib.Core.Bool.{Bool, ◌&&◌}
use Prim.Native.Nat.{ℕ, ◌<◌}
use native.Mathlib.Omega.{arith}
use lib.ListN.{length}
use lib.Dec.{eqb}
use Rattle.automata.specs.Machine.{automaton}
use Rattle.automata.specs.Table.{table_step}
use Rattle.entries.specs.declared.table.Table.{Table}
use Rattle.entries.specs.Entries.{machine_of, Target}
use Rattle.entries.proofs.EntryLaws.{machine_accepting}
use Rattle.rows.specs.Rows.{flag_at}
use Rattle.flags.specs.Flags.{leads_to, some_accepting, target_of}
use Rattle.flags.proofs.FlagLaws.{any_ext}

module _ (T : Table) where
  pub flag_in : (p : ℕ) → p < T.states → p < length T.cells.now
  flag_in p h = omega (arith, T.closed.long, T.closed.flags)

  -- where the machine goes is what the cell says
  pub step_target : (p c : ℕ) → p < T.states → c < T.columns → (automaton (machine_of T)).step p c ≡ target_of T c p
  step_target p c h b = table_step T.base T.states T.columns T.cells.now T.closed p c h b

  pub target_is : {p c r : ℕ} → p < T.states → c < T.columns → Target T p c r → r ≡ target_of T c p
  target_is {p} {c} h b e = e.step ∙ step_target p c h b

  pub leads_step : (member : ℕ → Bool) (c : ℕ) → c < T.columns → (x : ℕ) → leads_to member (target_of T c) T.states x ≡ leads_to member (λ q. (automaton (machine_of T)).step q c) T.states x
  leads_step member c b x = any_ext (λ q. member q && eqb (target_of T c q) x) (λ q. member q && eqb ((automaton (machine_of T)).step q c) x) T.states
      (λ q h. ap (λ (y : ℕ). member q && eqb y x) (sym (step_target q c h b)))

  pub some_same : (f g : ℕ → Bool) → ((q : ℕ) → q < T.states → f q ≡ g q) → some_accepting f (flag_at T.cells.now) T.states ≡ some_accepting g (automaton (machine_of T)).accepting T.states
  some_same f g e = any_ext (λ q. f q && flag_at T.cells.now q) (λ q. g q && (automaton (machine_of T)).accepting q) T.states
      (λ q h. ap₂ ◌&&◌ (e q h) (sym (machine_accepting T q h)))
