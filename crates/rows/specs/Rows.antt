-- Rows of bytes: rows of one width end to end in a list, and in a row a flag a byte, a state's number in two.
use Rattle.std.specs.Prelude.{Bool, true, false, List, [], ◌∷◌, ℕ, ◌*◌, ◌/◌, ◌%◌, get_or, take, drop}
use Rattle.automata.specs.Table.{flag_of}
-- a state's number in two bytes, low byte first
pub use Rattle.octets.specs.Numbers.{number_at}

-- the row i of rows of w bytes, end to end
abbrev pub row_at : ℕ → ℕ → List ℕ → List ℕ
row_at w i s = take w (drop (i * w) s)

-- a Boolean as a byte
abbrev pub bit : Bool → ℕ
bit true = 1
bit false = 0

-- whether byte i of a row is a set flag
abbrev pub flag_at : List ℕ → ℕ → Bool
flag_at r i = flag_of (get_or r i 0)

abbrev pub number_bytes : ℕ → List ℕ → List ℕ
number_bytes p r = p % 256 ∷ p / 256 ∷ r

abbrev pub pair_row : ℕ → ℕ → List ℕ
pair_row p q = number_bytes p (number_bytes q [])
