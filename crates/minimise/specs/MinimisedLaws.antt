-- What each answer of minimising a table says, for callers.
use Rattle.std.specs.Prelude.{◌≡◌, List, ℕ, ◌≤◌, ◌<◌, Option, Some, None}
use Rattle.std.proofs.Common.{sym, ◌∙◌, inl, inr, arith}
use Rattle.automata.specs.Basics.{LtCases, lt_cases}
use Rattle.automata.specs.Machine.{Machine, size}
use Rattle.automata.specs.Smallest.{smallest}
use Rattle.automata.specs.Table.{table_machine, ClosedTable}
use Rattle.minimise.specs.Minimised.{Minimised}

-- The smallest machine has m states, so many at most, and the list holds it.
pub record Found (k most : ℕ) (M : Machine) (s : List ℕ) (m : ℕ) : Type 0 where
  pub states : size (smallest k M) ≡ m
  pub within : m ≤ most
  pub closed : ClosedTable most m k s
  pub table : table_machine most m k s ≡ smallest k M

module _ {k most : ℕ} {M : Machine} {s : List ℕ} {r : Option ℕ} (R : Minimised k most M s r) where
  pub kept_found : (m : ℕ) → r ≡ Some m → Found k most M s m
  kept_found m e = go (lt_cases most (size (smallest k M)))
    where
      go : LtCases most (size (smallest k M)) → Found k most M s m
      go (inl x) = let z : None ≡ Some m = sym (rw x.1 at R.answer) ∙ e in let y : ◌≡◌ {A = ℕ} 0 1 = cc in absurd (omega arith)
      go (inr x) =
          let z : Some (size (smallest k M)) ≡ Some m = sym (rw x.1 at R.answer) ∙ e in
          let i : size (smallest k M) ≡ m = cc in
          let h = R.holds x.0 in
          record { states = i; within = rw (← i) x.0; closed = rw i at h.closed; table = rw (← i) h.table }

  pub kept_many : r ≡ None → most < size (smallest k M)
  kept_many e = go (lt_cases most (size (smallest k M)))
    where
      go : LtCases most (size (smallest k M)) → most < size (smallest k M)
      go (inl x) = x.0
      go (inr x) = let z : Some (size (smallest k M)) ≡ None = sym (rw x.1 at R.answer) ∙ e in let y : ◌≡◌ {A = ℕ} 0 1 = cc in absurd (omega arith)
