-- A machine laid out in a list of numbers, as code keeps it in a lent buffer: a flag per state (0: not accepting), and from place `base` on the moves,
-- state by state, column by column. What lies between and behind is free.
use Rattle.std.specs.Prelude.{◌≡◌, Bool, not, List, map, ℕ, ◌+◌, ◌*◌, ◌≤◌, ◌<◌, length, get_or, take, drop, eqb}
use Rattle.std.proofs.Math.Path.{sym, ap}
use Rattle.std.proofs.Common.{◌∙◌, arith, length-drop}
use Rattle.std.proofs.Math.Bool.{false}
use Rattle.std.proofs.Math.ListN.{length-map}
use Rattle.std.proofs.Math.Seq.{length-take-le, get_or-take, get_or-drop}
use Rattle.automata.specs.Machine.{Machine, size, automaton, WellFormed}
use Rattle.automata.specs.Partition.{get_d_map}
use Rattle.automata.specs.Rows.{rows, rows_length, rows_wide, rows_at, cell_below}

-- a flag of a buffer: any number but 0 says yes
abbrev pub flag_of : ℕ → Bool
flag_of x = not (eqb x 0)

-- the machine of n states over k columns that the list holds
unfoldable pub table_machine : ℕ → ℕ → ℕ → List ℕ → Machine
table_machine base n k t = record { accepting = map flag_of (take n t); moves = rows n k (take (n * k) (drop base t)) }

-- The list is long enough, has a state, and its moves lead to states.
pub record ClosedTable (base n k : ℕ) (t : List ℕ) : Type 0 where
  pub some : 1 ≤ n
  pub flags : n ≤ base
  pub long : base + n * k ≤ length t
  pub inside : (p c : ℕ) → p < n → c < k → get_or t (base + (p * k + c)) 0 < n

module _ (base n k : ℕ) (t : List ℕ) (C : ClosedTable base n k t) where
  cells : length (take (n * k) (drop base t)) ≡ n * k
  cells = length-take-le (n * k) (drop base t) (omega (arith, C.long, length-drop base t))

  pub table_size : size (table_machine base n k t) ≡ n
  unfolding table_machine
  table_size = length-map (take n t) flag_of ∙ length-take-le n t (omega (arith, C.long, C.flags))

  pub table_accepting : (p : ℕ) → p < n → (automaton (table_machine base n k t)).accepting p ≡ flag_of (get_or t p 0)
  unfolding table_machine
  table_accepting p h =
      get_d_map flag_of (take n t) p 0 false (rw (length-take-le n t (omega (arith, C.long, C.flags))) h) ∙ ap flag_of (get_or-take n t p 0 h)

  pub table_step : (p c : ℕ) → p < n → c < k → (automaton (table_machine base n k t)).step p c ≡ get_or t (base + (p * k + c)) 0
  unfolding table_machine
  table_step p c h b =
      rows_at n k (take (n * k) (drop base t)) p c h b ∙ get_or-take (n * k) (drop base t) (p * k + c) 0 (cell_below n k p c h b) ∙ get_or-drop base t (p * k + c) 0

  pub table_formed : WellFormed k (table_machine base n k t)
  unfolding table_machine
  table_formed = record {
    some = rw table_size C.some;
    rows = rows_length n k (take (n * k) (drop base t)) ∙ sym table_size;
    wide = λ p b. rows_wide n k (take (n * k) (drop base t)) p cells (rw table_size at b);
    inside = λ p c b v. rw (table_size, table_step p c (rw table_size at b) v) (C.inside p c (rw table_size at b) v);
  }
