-- A state's marks byte by what the table says of the state alone: in a canonical machine a state is dead just when it does not accept and every letter stays.
use Rattle.std.specs.Prelude.{◌≡◌, true, false, ◌≢◌, List, ℕ, suc, ◌+◌, ◌*◌, ◌<◌, get_or}
use Rattle.automata.specs.Table.{flag_of}

-- where the moves of state s begin
abbrev pub row_of : ℕ → ℕ → ℕ
row_of m s = 120 + s * suc m

pub data StateMark (m : ℕ) (t : List ℕ) (s : ℕ) : ℕ → Type 0 where
  accepts : flag_of (get_or t s 0) ≡ true → StateMark m t s 1
  stays : flag_of (get_or t s 0) ≡ false → ((c : ℕ) → c < m → get_or t (row_of m s + c) 0 ≡ s) → StateMark m t s 2
  leaves : flag_of (get_or t s 0) ≡ false → (c : ℕ) → c < m → get_or t (row_of m s + c) 0 ≢ s → StateMark m t s 0
