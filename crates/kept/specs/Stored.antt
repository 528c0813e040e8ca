-- The machines of a book in the making, as they lie in the lent buffers: a slot of 3,362 bytes for each name, and one for the book so far.
use Rattle.std.specs.Prelude.{◌≡◌, true, List, ◌∷◌, ℕ, suc, ◌-◌, ◌*◌, ◌≤◌, ◌<◌, leb, length, drop}
use Rattle.automata.specs.Booleans.{choose}
use Rattle.automata.specs.Machine.{Machine}
use Rattle.automata.specs.Given.{empty_machine, all_machine}
use Rattle.language.specs.Expression.{member}
use Rattle.language.specs.Environment.{lookup, names_of}
use Rattle.book.specs.Kind.{is_name}
use Rattle.slots.specs.Slot.{Slot, Holds}
use Rattle.kept.specs.declared.Place.{Place}
use Rattle.kept.specs.declared.Place.TheVariants.{Name, Book}

-- The slot holds the machine, of at most 120 states over m letters and the mark.
abbrev pub InSlot : ℕ → List ℕ → Machine → Type 0
InSlot m s M = Holds 120 (suc m) s M

-- the slots of the names: A to M in the first buffer, N to Z in the second
abbrev pub name_slot : ℕ → List ℕ → List ℕ → List ℕ
name_slot x low high = choose (leb x 77) (λ _. drop ((x - 65) * 3362) low) (λ _. drop ((x - 78) * 3362) high)

-- The first of three registers holds the book so far; the others hold machines.
pub record Registers (m : ℕ) (kept : Machine) (s : List ℕ) : Type 0 where
  pub book : InSlot m s kept
  pub held : (i : ℕ) → i < 3 → Slot 120 (suc m) (drop (i * 3362) s)

-- Each name's slot holds its machine, and the registers the book so far.
pub record Stored (m : ℕ) (env : List (ℕ × Machine)) (kept : Machine) (low high s : List ℕ) : Type 0 where
  pub names : (x : ℕ) → is_name x ≡ true → member x (names_of env) ≡ true → InSlot m (name_slot x low high) (lookup x (empty_machine m) env)
  pub registers : Registers m kept s

-- A name more, whose machine is that of the slot s.
pub record StoresName (x : ℕ) (s low high low' high' : List ℕ) : Type 0 where
  pub low_long : length low' ≡ length low
  pub high_long : length high' ≡ length high
  pub more : (m : ℕ) (env : List (ℕ × Machine)) (kept M : Machine) (registers : List ℕ) → m ≤ 26 → InSlot m s M → Stored m env kept low high registers
      → Stored m ((x, M) ∷ env) kept low' high' registers

-- ---- a line's machine kept at its place

-- The buffers of the names and the registers are long enough.
pub record Shelves (lo hi re : List ℕ) : Type 0 where
  pub low : 43706 ≤ length lo
  pub high : 43706 ≤ length hi
  pub registers : 10086 ≤ length re

-- The place's byte is a name.
abbrev pub Right : Place → Type 0
Right (Name x) = is_name x ≡ true
Right Book = Unit {0}

-- the names' machines, and the book so far, with the machine M kept at a place
abbrev pub env_with : Place → Machine → List (ℕ × Machine) → List (ℕ × Machine)
env_with (Name x) M env = (x, M) ∷ env
env_with Book M env = env

abbrev pub book_with : Place → Machine → Machine → Machine
book_with (Name x) M kept = kept
book_with Book M kept = M

pub record Keeps (p : Place) (s low high registers low' high' registers' : List ℕ) : Type 0 where
  pub stored : (m : ℕ) (env : List (ℕ × Machine)) (kept M : Machine) → m ≤ 26 → InSlot m s M → Stored m env kept low high registers
      → Stored m (env_with p M env) (book_with p M kept) low' high' registers'

-- The registers at the start: each holds `.*`.
pub record Begins (m : ℕ) (s : List ℕ) : Type 0 where
  pub registers : Registers m (all_machine m) s
