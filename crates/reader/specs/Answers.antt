-- What the answers on a later line say: the reading of the definitions, with the program of the line in the lent buffer, which was o and is o'.
use Rattle.std.specs.Prelude.{◌≡◌, true, Result, Ok, Err, List, ℕ, suc, ◌≤◌, length, take, drop}
use Rattle.language.specs.Restriction.{RuleKind}
use Rattle.language.specs.Expression.{Expr}
use Rattle.book.specs.Kind.{is_name}
use Rattle.book.specs.Text as Book
use Rattle.book.specs.Text.{Form, define, rule}
use Rattle.book.specs.Refusals.{refusal_number}
use Rattle.book.specs.declared.refusal.Refusal.{Refusal}
use Rattle.book.specs.Line.{LineRead, reads, stops, read_line}
use Rattle.book.specs.Program.{program}
use Rattle.book.specs.StackLaws.{FormHeld}
use Rattle.scans.specs.Lines.{line_at, Ends}
use Rattle.forms.specs.declared.Code as code
use Rattle.forms.specs.declared.Code.{Code}
use Rattle.reader.specs.Names.{Holds}
use Rattle.reader.specs.declared.names.Names.{Names}
use Rattle.reader.specs.declared.line.Line.{Line}

-- how many bytes of the buffer are the program of a form
abbrev pub program_length : Code → ℕ
program_length (code.TheVariants.Define x len) = len
program_length (code.TheVariants.Rule len) = len

-- the line reads as X, with the letters of line 1 and the names above
pub record Reads (l : Book.Line) (letters : List ℕ) (f : Names) (X : LineRead) : Type 0 where
  pub is : (names : List ℕ) → Holds f names → read_line letters names l ≡ X

-- The line reads as the form F, whose program is the buffer's first bytes; the others are as they were. Its choices fit the stack.
pub record Written (l : Book.Line) (letters : List ℕ) (f : Names) (o o' : List ℕ) (len : ℕ) (F : Form) : Type 0 where
  pub reads_as : Reads l letters f (reads F)
  pub code : take len o' ≡ program F
  pub past : drop len o' ≡ drop len o
  pub fits : len ≤ length o'
  pub held : FormHeld 17 F
  pub whole : l.ended ≡ true

pub record WrittenName (l : Book.Line) (letters : List ℕ) (f : Names) (o o' : List ℕ) (x len : ℕ) : Type 0 where
  pub body : Expr
  pub named : is_name x ≡ true
  pub written : Written l letters f o o' len (define x body)

pub record WrittenRule (l : Book.Line) (letters : List ℕ) (f : Names) (o o' : List ℕ) (len : ℕ) : Type 0 where
  pub kind : RuleKind
  pub pattern : Expr
  pub contexts : List (Expr × Expr)
  pub written : Written l letters f o o' len (rule kind pattern contexts)

abbrev pub LineSays : Book.Line → List ℕ → Names → List ℕ → List ℕ → Result Code Refusal → Type 0
LineSays l letters f o o' (Ok (code.TheVariants.Define x len)) = WrittenName l letters f o o' x len
LineSays l letters f o o' (Ok (code.TheVariants.Rule len)) = WrittenRule l letters f o o' len
LineSays l letters f o o' (Err r) = Reads l letters f (stops (refusal_number r))

pub record ReadsLine (l : Book.Line) (letters : List ℕ) (f : Names) (o o' : List ℕ) (r : Result Code Refusal) : Type 0 where
  pub says : LineSays l letters f o o' r

-- The line that starts at `at`, and where the next one starts.
abbrev pub NextSays : Book.Line → ℕ → List ℕ → Names → List ℕ → List ℕ → Result Line Refusal → Type 0
NextSays l end letters f o o' (Ok n) = LineSays l letters f o o' (Ok n.code) × (n.next ≡ suc end)
NextSays l end letters f o o' (Err r) = Reads l letters f (stops (refusal_number r))

pub record ReadsNext (s : List ℕ) (at : ℕ) (letters : List ℕ) (f : Names) (o o' : List ℕ) (r : Result Line Refusal) : Type 0 where
  pub end : ℕ
  pub ends : Ends s at end
  pub says : NextSays (line_at s at end) end letters f o o' r
