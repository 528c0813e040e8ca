-- The names that a value of flags stands for.
use Rattle.std.specs.Prelude.{◌≡◌, true, false, List, ◌∷◌, ℕ, ◌-◌, get_or}
use Rattle.language.specs.Expression.{member}
use Rattle.book.specs.Kind.{is_name}
use Rattle.reader.specs.declared.names.Names.{Names}

-- The flags say of each name whether it stands in the list.
pub record Holds (f : Names) (names : List ℕ) : Type 0 where
  pub says : (x : ℕ) → is_name x ≡ true → member x names ≡ get_or f.defined (x - 65) false

-- the same names and one more
pub record More (f : Names) (x : ℕ) (r : Names) : Type 0 where
  pub more : (names : List ℕ) → Holds f names → Holds r (x ∷ names)
