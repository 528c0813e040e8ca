-- A book's lines behind line 1: where they begin in the text, and what the definitions make of them.
use Rattle.std.specs.Prelude.{List, ℕ, suc, ◌≤◌, length, drop}
use Rattle.automata.specs.Format.{Format}
use Rattle.book.specs.Text.{lines_of}
use Rattle.compiler.specs.Book.{BookResult, compile_lines, start_draft}

-- the lines of a text from a place on, where line 2 starts
abbrev pub lines_from : Format → List ℕ → List ℕ → ℕ → BookResult
lines_from fmt text ls next = compile_lines fmt ls (lines_of (drop next text)) 2 (start_draft (length ls))

-- The place of line 2, in a text that is not too long, with the letters of line 1; a text of no bytes has neither.
pub record Placed (text ls : List ℕ) (next : ℕ) : Type 0 where
  pub some : 1 ≤ length text → 1 ≤ length ls
  pub few : length ls ≤ 26
  pub short : length text ≤ 16384
  pub at : next ≤ suc (length text)
