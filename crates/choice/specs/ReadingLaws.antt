-- The promise of `choice`, as its callers use it: with the definitions' reader of a choice.
use Rattle.std.specs.Prelude.{◌≡◌, Option, None, Some, List, ℕ, ◌+◌, ◌*◌, length}
use Rattle.std.proofs.Common.{le_refl}
use Rattle.book.specs.Reader.{got, bad, read_choice}
use Rattle.signs.specs.Spots.{left}
use Rattle.signs.specs.declared.Spot.{Spot}
use Rattle.choice.specs.Reading.{Part, a_choice, To, Not, Reads}

module _ {p : Part} {s o : List ℕ} {c : Spot} {o' : List ℕ} {r : Option Spot} (d : Reads p s o c o' r) where
  pub read_to : {n : Spot} → r ≡ Some n → To p s o c o' n
  read_to e = rw e at d.says

  pub read_not : r ≡ None → Not p s o c o'
  read_not e = rw e at d.says

-- "A choice is blends separated by `|`": what was read
pub choice_got : {s o : List ℕ} {c : Spot} {o' : List ℕ} {n : Spot} (t : To a_choice s o c o' n) → read_choice (left s c) ≡ got t.expr (left s n)
choice_got {s} {o} {c} t = t.reads.run (6 * length (left s c) + 5) (le_refl (6 * length (left s c) + 5))

pub choice_bad : {s o : List ℕ} {c : Spot} {o' : List ℕ} {r : Option Spot} → Reads a_choice s o c o' r → r ≡ None → read_choice (left s c) ≡ bad
choice_bad {s} {o} {c} d e = (read_not d e).reads.run (6 * length (left s c) + 5) (le_refl (6 * length (left s c) + 5))
