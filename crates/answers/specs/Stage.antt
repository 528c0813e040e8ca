-- A stage over lent buffers: what it asks of them, and that its answer is the operation's stage on the machines in the slots.
use Rattle.std.specs.Prelude.{◌≡◌, List, [], ◌∷◌, ℕ, suc, ◌+◌, ◌*◌, ◌-◌, ◌≤◌, ◌<◌, length, drop, Option, Result, Ok, Err}
use Rattle.std.proofs.Common.{sym, ap, arith}
use Rattle.automata.specs.Automaton.{Automaton}
use Rattle.automata.specs.Machine.{automaton}
use Rattle.automata.specs.Table.{ClosedTable, table_machine}
use Rattle.automata.specs.Format.{Format}
use Rattle.automata.specs.Stages.{Pairing}
use Rattle.automata.specs.Stage.{Made as Answer, made, refused}
use Rattle.rows.specs.Rows.{number_at}
use Rattle.sets.specs.Operations.{Operation, pairing, concatenation, star, erase, operation_of, row_width, rows_of}
use Rattle.sets.specs.declared.Operation.{Operation as Code}
use Rattle.turns.specs.Exploring.{Answers}
use Rattle.slots.specs.declared.slot.Sizes.{Sizes}
use Rattle.answers.specs.declared.Limits.{Limits}
use Rattle.answers.specs.declared.Made.{Made}
use Rattle.answers.specs.declared.TooMany.{TooMany}
use Rattle.answers.specs.Refusal.{refusal_of}
use Rattle.slots.specs.Slot.{Slot, slot_machine}
use Rattle.slots.specs.Aside.{Aside}
use Rattle.answers.specs.Operate.{operate}

-- ---- the row's width

-- A row has room for two bytes more than states, and for a pair.
pub width_most : (o : Operation) (na nb most : ℕ) → na ≤ most → nb ≤ most → 2 ≤ most → row_width o na nb ≤ most + 2
width_most (pairing o) na nb most a b c = omega arith
width_most concatenation na nb most a b c = omega arith
width_most star na nb most a b c = omega arith
width_most erase na nb most a b c = omega arith

-- A pair takes four bytes, and an erase's row one for each state.
pub width_pairs : (op : Code) (o : Pairing) (na nb : ℕ) → operation_of op ≡ pairing o → 4 ≡ row_width (operation_of op) na nb
width_pairs op o na nb e = ap (λ q. row_width q na nb) (sym e)

pub width_erase : (op : Code) (na nb : ℕ) → operation_of op ≡ erase → na ≡ row_width (operation_of op) na nb
width_erase op na nb e = ap (λ q. row_width q na nb) (sym e)

-- ---- reaching the sets

-- the rows of the operation on the two tables of a list
abbrev pub table_rows : Code → ℕ → ℕ → Sizes → List ℕ → Automaton (List ℕ)
table_rows op k most r t =
    rows_of (operation_of op) (k - 1) r.left (automaton (table_machine most r.left k t)) r.right (automaton (table_machine most r.right k (drop (most + most * k) t)))

-- Two tables in one list, the second half behind the first; room for the rows and for their table.
pub record Reaches (k : ℕ) (l : Limits) (r : Sizes) (t rows table : List ℕ) : Type 0 where
  pub left : ClosedTable l.states r.left k t
  pub right : ClosedTable l.states r.right k (drop (l.states + l.states * k) t)
  pub columns : 1 ≤ k
  pub states : (2 ≤ l.states) × (l.states ≤ 256)
  pub sets : (1 ≤ l.sets) × (l.sets < 65536)
  pub rows_long : l.sets * (l.states + 2) ≤ length rows
  pub table_long : l.sets + l.sets * k ≤ length table

pub record Reached (op : Code) (k : ℕ) (l : Limits) (r : Sizes) (t rows table : List ℕ) (x : Option ℕ) : Type 0 where
  pub w : ℕ
  pub answers : Answers (table_rows op k l.states r t) k w l.sets rows table x

-- ---- a stage

-- Slots with the two machines, with room for the first to be replaced; room for the operands and in their place the classes, for the rows, and for their
-- table.
pub record Ready (m : ℕ) (l : Limits) (left right : ℕ) (slots operands rows table : List ℕ) : Type 0 where
  pub left_slot : Slot l.states (suc m) (drop left slots)
  pub right_slot : Slot l.states (suc m) (drop right slots)
  pub states : (2 ≤ l.states) × (l.states ≤ 256)
  pub sets : (1 ≤ l.sets) × (l.sets < 65536)
  pub room : left + 2 + (l.states + l.states * suc m) ≤ length slots
  pub operands_long : (l.states + l.states * suc m) + (l.states + l.states * suc m) ≤ length operands
  pub classes_long : (l.sets + (l.sets + l.sets) ≤ length operands) × (l.sets + l.sets + l.states ≤ length operands)
  pub rows_long : l.sets * (l.states + 2) ≤ length rows
  pub table_long : l.sets + l.sets * suc m ≤ length table

-- What an answer says: a count with the machine that the slot holds, or the number of a refusal.
abbrev pub answer_of : ℕ → ℕ → List ℕ → Result Made TooMany → Answer
answer_of most k s (Ok r) = made (r.sets ∷ []) (slot_machine most k s)
answer_of most k s (Err e) = refused (refusal_of e)

-- A machine that is made stands in the slot.
abbrev pub InSlot : ℕ → ℕ → List ℕ → Result Made TooMany → Type 0
InSlot most k s (Ok r) = Slot most k s × (number_at s 0 ≡ r.states)
InSlot most k s (Err e) = Unit {0}

-- The answer is the operation's stage on the machines of the slots, for every format with these limits; nothing outside the first slot is changed.
pub record StageDone (op : Code) (m : ℕ) (l : Limits) (left right : ℕ) (s t : List ℕ) (r : Result Made TooMany) : Type 0 where
  pub answer : (fmt : Format) → fmt.most_sets ≡ l.sets → fmt.most_states ≡ l.states
      → operate fmt m (operation_of op) (slot_machine l.states (suc m) (drop left s)) (slot_machine l.states (suc m) (drop right s)) ≡ answer_of l.states (suc m) (drop left t) r
  pub slot : InSlot l.states (suc m) (drop left t) r
  pub aside : Aside left (2 + (l.states + l.states * suc m)) s t
