-- The sets of a stage as rows of bytes: for each operation an automaton whose states are rows. An operand is the number of its states with an
-- automaton of numbered states, 0 the start. Nothing is assumed of the operands.
use Rattle.std.specs.Prelude.{Bool, true, false, ◌&&◌, ◌||◌, List, ℕ, zero, suc, ◌+◌, eqb}
use Rattle.automata.specs.Booleans.{choose}
use Rattle.automata.specs.Automaton.{Automaton}
use Rattle.automata.specs.Decide.{any_below}
use Rattle.rows.specs.Rows.{flag_at, number_at, number_bytes, pair_row}
use Rattle.flags.specs.Flags.{flag_row, leads_to, some_accepting}
use Rattle.automata.specs.Stages.{Pairing, either, both, without, combine}
use Rattle.sets.specs.declared.Operation.{Operation as Code}
use Rattle.sets.specs.declared.Operation.TheVariants.{Either, Both, Without, Join, Star, Erase}

-- ---- `|`, `&`, `-`: "a set is a pair reached from (0, 0)". Four bytes, the two states.

unfoldable pub pair_rows : Pairing → Automaton ℕ → Automaton ℕ → Automaton (List ℕ)
pair_rows o A B = record {
  start = pair_row 0 0;
  step = λ r c. pair_row (A.step (number_at r 0) c) (B.step (number_at r 2) c);
  accepting = λ r. combine o (A.accepting (number_at r 0)) (B.accepting (number_at r 2));
}

-- ---- concatenation: the one state p of A in two bytes, then n flags, the states of B. "A set with an accepting state of A gains B's 0."

abbrev pub concat_row : Automaton ℕ → ℕ → ℕ → (ℕ → Bool) → List ℕ
concat_row A n p member = number_bytes p (flag_row (λ t. member t || (A.accepting p && eqb t 0)) n)

unfoldable pub concat_rows : Automaton ℕ → ℕ → Automaton ℕ → Automaton (List ℕ)
concat_rows A n B = record {
  start = concat_row A n 0 (λ t. false);
  step = λ r c. concat_row A n (A.step (number_at r 0) c) (leads_to (λ q. flag_at r (2 + q)) (λ q. B.step q c) n);
  accepting = λ r. some_accepting (λ q. flag_at r (2 + q)) B.accepting n;
}

-- ---- star: n flags, the states of A, and the flag n, the extra e. "Start with e and 0; a set with an accepting state of A gains e and 0."

abbrev pub ends : ℕ → ℕ → Bool
ends n t = eqb t 0 || eqb t n

abbrev pub star_row : ℕ → Automaton ℕ → (ℕ → Bool) → List ℕ
star_row n A member = flag_row (λ t. member t || (some_accepting member A.accepting n && ends n t)) (suc n)

unfoldable pub star_rows : ℕ → Automaton ℕ → Automaton (List ℕ)
star_rows n A = record {
  start = flag_row (ends n) (suc n);
  step = λ r c. star_row n A (leads_to (flag_at r) (λ q. A.step q c) n);
  accepting = λ r. flag_at r n;
}

-- ---- erase the column m: n flags, the states of A. "A set gains whatever its members reach by one mark or more. A mark leads to the empty set."

-- where i marks lead to
abbrev pub marks : Automaton ℕ → ℕ → ℕ → ℕ → ℕ
marks A m zero q = q
marks A m (suc i) q = marks A m i (A.step q m)

-- some member leads to t by fewer than n marks: n states are all met by then
abbrev pub gained : ℕ → ℕ → Automaton ℕ → (ℕ → Bool) → ℕ → Bool
gained m n A member t = any_below (λ q. member q && any_below (λ i. eqb (marks A m i q) t) n) n

abbrev pub erase_row : ℕ → ℕ → Automaton ℕ → (ℕ → Bool) → List ℕ
erase_row m n A member = flag_row (gained m n A member) n

unfoldable pub erase_rows : ℕ → ℕ → Automaton ℕ → Automaton (List ℕ)
erase_rows m n A = record {
  start = erase_row m n A (λ t. eqb t 0);
  step = λ r c. choose (eqb c m) (λ _. flag_row (λ t. false) n) (λ _. erase_row m n A (leads_to (flag_at r) (λ q. A.step q c) n));
  accepting = λ r. some_accepting (flag_at r) A.accepting n;
}

-- ---- all operations

pub data Operation : Type 0 where
  pairing : Pairing → Operation
  concatenation star erase : Operation

abbrev pub operation_of : Code → Operation
operation_of Either = pairing either
operation_of Both = pairing both
operation_of Without = pairing without
operation_of Join = concatenation
operation_of Star = star
operation_of Erase = erase

-- by their numbers: 0 `|`, 1 `&`, 2 `-`, 3 concatenation, 4 star, 5 and above erase
abbrev pub numbered : ℕ → Code
numbered zero = Either
numbered (suc zero) = Both
numbered (suc (suc zero)) = Without
numbered (suc (suc (suc zero))) = Join
numbered (suc (suc (suc (suc zero)))) = Star
numbered (suc (suc (suc (suc (suc x))))) = Erase

-- how many machines an operation is of
abbrev pub operands_of : Code → ℕ
operands_of Either = 2
operands_of Both = 2
operands_of Without = 2
operands_of Join = 2
operands_of Star = 1
operands_of Erase = 1

-- the sets are pairs of states
abbrev pub is_pairing : Operation → Bool
is_pairing (pairing o) = true
is_pairing concatenation = false
is_pairing star = false
is_pairing erase = false

-- the bytes of a row, for operands of na and nb states
abbrev pub row_width : Operation → ℕ → ℕ → ℕ
row_width (pairing o) na nb = 4
row_width concatenation na nb = 2 + nb
row_width star na nb = suc na
row_width erase na nb = na

-- the rows of an operation; m is the column that is erased, if one is
abbrev pub rows_of : Operation → ℕ → ℕ → Automaton ℕ → ℕ → Automaton ℕ → Automaton (List ℕ)
rows_of (pairing o) m na A nb B = pair_rows o A B
rows_of concatenation m na A nb B = concat_rows A nb B
rows_of star m na A nb B = star_rows na A
rows_of erase m na A nb B = erase_rows m na A
