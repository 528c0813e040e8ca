-- That the states which a reachable row names are states.
use mathlib.Core.Path.{◌≡◌}
use mathlib.Core.List.{List, [], ◌∷◌}
use Prim.Native.Nat.{ℕ, ◌+◌, ◌*◌, ◌-◌, ◌/◌, ◌%◌, ◌≤◌, ◌<◌}
use native.Mathlib.Omega.{arith}
use lib.ListN.{length, take, drop}
use Rattle.automata.specs.Automaton.{Automaton, Over, run, Reachable}
use Rattle.rows.specs.Rows.{number_at, row_at}
use Rattle.rows.proofs.RowLaws.{row_part, row_length}
use Rattle.flags.proofs.MemberLaws.{lists_taken}
use Rattle.flags.proofs.TableLaws.{step_target}
use Rattle.sets.specs.Fits.{left_of, right_of, rows_for, RowFits, Source, Listed}
use Rattle.sets.specs.Operations.{Operation, pairing, concatenation, star, erase, operation_of, rows_of, pair_rows, concat_rows, star_rows, erase_rows}
use Rattle.sets.specs.declared.operands.Operands.{Operands}

-- a column of the left operand is one of the right
pub right_column : (s : Operands) (c : ℕ) → c < s.left.columns → c < s.right.columns
right_column s c h = rw s.fits.same h

number_bytes_lem : (p : ℕ) → p % 256 + 256 * (p / 256) ≡ p
number_bytes_lem p = omega arith

module _ (k m na nb : ℕ) (A B : Automaton ℕ) (sa : 1 ≤ na) (sb : 1 ≤ nb) (ia : (p c : ℕ) → p < na → c < k → A.step p c < na) (ib : (p c : ℕ) → p < nb → c < k → B.step p c < nb) where
  start_fits : (o : Operation) → RowFits o na nb (rows_of o m na A nb B).start
  unfolding pair_rows concat_rows star_rows erase_rows
  start_fits (pairing o) = (sa, sb)
  start_fits concatenation = sa
  start_fits star = tt
  start_fits erase = tt

  step_fits : (o : Operation) (r : List ℕ) (c : ℕ) → c < k → RowFits o na nb r → RowFits o na nb ((rows_of o m na A nb B).step r c)
  unfolding pair_rows concat_rows star_rows erase_rows
  step_fits (pairing o) r c b (h, g) = (omega (arith, number_bytes_lem (A.step (number_at r 0) c), ia (number_at r 0) c h b), omega (arith, number_bytes_lem (B.step (number_at r 2) c), ib (number_at r 2) c g b))
  step_fits concatenation r c b h = omega (arith, number_bytes_lem (A.step (number_at r 0) c), ia (number_at r 0) c h b)
  step_fits star r c b h = tt
  step_fits erase r c b h = tt

  run_fits : (o : Operation) (r : List ℕ) (w : List ℕ) → Over k w → RowFits o na nb r → RowFits o na nb (run (rows_of o m na A nb B) r w)
  run_fits o r [] v h = h
  run_fits o r (c ∷ w) v h = run_fits o ((rows_of o m na A nb B).step r c) w v.1 (step_fits o r c v.0 h)

pub reach_fits : (s : Operands) → (r : List ℕ) → Reachable s.left.columns (rows_for s) r → RowFits (operation_of s.op) s.left.states s.right.states r
reach_fits s r (w, o, e) =
    rw e at (run_fits s.left.columns (s.left.columns - 1) s.left.states s.right.states (left_of s) (right_of s) s.left.closed.some s.right.closed.some
    (λ p c h b. rw (step_target s.left p c h b) (s.left.closed.inside p c h b))
    (λ p c h v. rw (step_target s.right p c h (right_column s c v)) (s.right.closed.inside p c h (right_column s c v)))
    (operation_of s.op) (rows_for s).start w o
    (start_fits s.left.columns (s.left.columns - 1) s.left.states s.right.states (left_of s) (right_of s) s.left.closed.some s.right.closed.some
    (λ p c h b. rw (step_target s.left p c h b) (s.left.closed.inside p c h b))
    (λ p c h v. rw (step_target s.right p c h (right_column s c v)) (s.right.closed.inside p c h (right_column s c v)))
    (operation_of s.op)))

-- a row in the buffer is one from which the next is made
pub row_source : (s : Operands) (rows : List ℕ) (p : ℕ) → p * s.width + s.width ≤ length rows → RowFits (operation_of s.op) s.left.states s.right.states (row_at s.width p rows)
    → Source s (take (p * s.width + s.width - p * s.width) (drop (p * s.width) rows))
row_source s rows p h f = rw (row_part s.width p rows) (record { long = row_length s.width p rows h; fits = f })

-- the listed states alone, without what stands behind them
pub listed_taken : (o : Operation) (na nb : ℕ) (r : List ℕ) (held : ℕ) (members : List ℕ) → Listed o na nb r held members → Listed o na nb r (length (take held members)) (take held members)
listed_taken (pairing o) na nb r held members L = tt
listed_taken concatenation na nb r held members L = lists_taken L
listed_taken star na nb r held members L = lists_taken L
listed_taken erase na nb r held members L = lists_taken L
