-- What the loop over the lines promises: the definitions' draft behind the last line, or the first refusal with its line.
use Rattle.std.specs.Prelude.{◌≡◌, List, Result, Ok, Err, ℕ, ◌≤◌, length}
use Rattle.automata.specs.Format.{narrow}
use Rattle.compiler.specs.Book.{Draft, done, stopped}
use Rattle.compiler.specs.Outcome.{most}
use Rattle.kept.specs.Stored.{InSlot}
use Rattle.line.specs.Line.{Room}
use Rattle.compiler.specs.Rest.{lines_from}
use Rattle.answers.specs.declared.Scratch.{Scratch}
use Rattle.compiler.specs.Refusals.{reason_number}
use Rattle.compiler.specs.declared.LineRefusal.{LineRefusal}

-- The lent buffers have their documented lengths.
pub record Lent (low high registers stack : List ℕ) (scratch : Scratch) (code : List ℕ) : Type 0 where
  pub room : Room low high registers stack scratch
  pub long : 32832 ≤ length code

-- The machine of the book is in its register, with the most sets that a stage made; or the number of a refusal with its line.
abbrev pub LinesSay : List ℕ → List ℕ → ℕ → List ℕ → Result ℕ LineRefusal → Type 0
LinesSay text ls next registers (Ok p) = (d : Draft) × (lines_from narrow text ls next ≡ done ls d) × (p ≡ most d.counts) × InSlot (length ls) registers d.kept
LinesSay text ls next registers (Err r) = lines_from narrow text ls next ≡ stopped (reason_number r.reason) r.line

pub record CompilesLines (text ls : List ℕ) (next : ℕ) (registers : List ℕ) (r : Result ℕ LineRefusal) : Type 0 where
  pub says : LinesSay text ls next registers r
