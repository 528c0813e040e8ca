-- What is written for a text.
use mathlib.Core.Path.{◌≡◌, subst}
use mathlib.Core.List.{List}
use Prim.Native.Nat.{ℕ}
use lib.ListN.{length}
use Rattle.std.specs.Prelude.{Result}
use Rattle.compiler.specs.declared.Compiled.{Compiled}
use Rattle.compiler.specs.declared.Refusal.{Refusal}
use Rattle.automata.specs.Format.{narrow}
use Rattle.compiler.specs.Outcome.{outcome}
use Rattle.driver.specs.Entry.{documented, Answers}
use Rattle.report.specs.Shown.{Shows}
use Rattle.compile.specs.Prints.{Prints}

-- the lent buffers have the documented lengths
pub prints_with : (text old out : List ℕ) (r : ℕ) (a : Result Compiled Refusal) (card lent : List ℕ) → Answers (outcome narrow documented text lent (length old)) old card a → lent ≡ documented
    → Shows a card out r → Prints text old out r
prints_with text old out r a card lent w e p = record { answer = a; card = card; answers = subst (λ x. Answers (outcome narrow documented text x (length old)) old card a) e w; shows = p }
