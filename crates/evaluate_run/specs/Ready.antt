-- The program of a line that was read.
use Rattle.std.specs.Prelude.{◌≡◌, List, ℕ}
use Rattle.book.specs.Text.{Form}
use Rattle.book.specs.Program.{program}
use Rattle.book.specs.StackLaws.{FormHeld}
use Rattle.evaluate.specs.Evaluated.{Formed}

-- The codes are the program of a line that was read.
pub record Coded (code : List ℕ) : Type 0 where
  pub form : Form
  pub formed : Formed form
  pub held : FormHeld 17 form
  pub code_is : code ≡ program form
