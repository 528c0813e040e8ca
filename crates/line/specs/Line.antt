-- What the functions on one line promise: the definitions' draft is what the buffers and the book by value hold.
use Rattle.std.specs.Prelude.{◌≡◌, ◌≢◌, Result, Ok, Err, List, ℕ, suc, ◌+◌, ◌*◌, ◌≤◌, ◌<◌, length, take}
use Rattle.automata.specs.Format.{narrow}
use Rattle.automata.specs.Machine.{Machine}
use Rattle.language.specs.Restriction.{RuleKind}
use Rattle.language.specs.Expression.{Expr}
use Rattle.language.specs.Environment.{names_of}
use Rattle.book.specs.Text.{Form, define, rule}
use Rattle.book.specs.Program.{program}
use Rattle.book.specs.StackLaws.{FormHeld}
use Rattle.book.specs.LineLaws.{KnownForm}
use Rattle.compiler.specs.Book.{Draft, on, off, compile_form, compile_line}
use Rattle.compiler.specs.Outcome.{most}
use Rattle.reader.specs.Names.{Holds}
use Rattle.scans.specs.Lines.{line_at, Ends}
use Rattle.evaluate.specs.Steps.{number_of}
use Rattle.evaluate.specs.declared.run.Failure.{Failure}
use Rattle.evaluate.specs.declared.run.Failure.TheVariants.{Stuck}
use Rattle.kept.specs.Stored.{Stored, Keeps}
use Rattle.kept.specs.declared.Place.{Place}
use Rattle.kept.specs.declared.Place.TheVariants as place
use Rattle.progress.specs.Progress.{Behind}
use Rattle.progress.specs.declared.Book.{Book}
use Rattle.progress.specs.declared.Read.{Read}
use Rattle.answers.specs.declared.Scratch.{Scratch}
use Rattle.compiler.specs.Refusals.{reason_number}
use Rattle.compiler.specs.declared.LineRefusal.{LineRefusal}

-- ---- the lent buffers

-- The buffers that hold machines, and those that the stages work in, are long enough.
pub record Room (lo hi re st : List ℕ) (scratch : Scratch) : Type 0 where
  pub low : 43706 ≤ length lo
  pub high : 43706 ≤ length hi
  pub registers : 10086 ≤ length re
  pub stack : 63878 ≤ length st
  pub rows : 62464 ≤ length scratch.rows.now
  pub table : 14336 ≤ length scratch.table.now
  pub work : 6720 ≤ length scratch.work.now

-- ---- the stages of a line

-- The code is the program of a line that was read.
pub record Program (ls names : List ℕ) (len : ℕ) (o : List ℕ) (F : Form) : Type 0 where
  pub code : take len o ≡ program F
  pub fits : len ≤ length o
  pub held : FormHeld 17 F
  pub known : KnownForm ls names F

-- A line's program over machines in their places, with room to run.
pub record Runs (ls : List ℕ) (len : ℕ) (code low high registers stack : List ℕ) (scratch : Scratch) : Type 0 where
  pub env : List (ℕ × Machine)
  pub kept : Machine
  pub form : Form
  pub stored : Stored (length ls) env kept low high registers
  pub program : Program ls (names_of env) len code form
  pub letters : (1 ≤ length ls) × (length ls ≤ 26)
  pub room : Room low high registers stack scratch

-- ---- drafts

-- The draft of the definitions is what the buffers and the book by value hold.
pub record Drafted (ls : List ℕ) (d : Draft) (b : Book) (low high registers : List ℕ) : Type 0 where
  pub stored : Stored (length ls) d.env d.kept low high registers
  pub names : Holds b.names (names_of d.env)
  pub peak : b.peak ≡ most d.counts

-- A form compiled, with the draft d so far: the book goes on with a new draft, whose next line starts at `next`; or it stops.
abbrev pub FormSays : List ℕ → Draft → Form → Book → ℕ → List ℕ → List ℕ → List ℕ → Result Book LineRefusal → Type 0
FormSays ls d F b next low high registers (Ok r) =
    (d' : Draft) × (compile_form narrow ls d F ≡ on d') × Drafted ls d' r low high registers × (r.at ≡ next) × (r.line ≡ suc b.line)
FormSays ls d F b next low high registers (Err r) = (compile_form narrow ls d F ≡ off (reason_number r.reason)) × (r.line ≡ b.line)

pub record CompilesForm (ls : List ℕ) (b : Book) (next len : ℕ) (code low high registers low' high' registers' : List ℕ) (Is : Form → Type 0) (r : Result Book LineRefusal) : Type 0 where
  pub says : (d : Draft) (F : Form) → Is F → Drafted ls d b low high registers → Program ls (names_of d.env) len code F → FormSays ls d F b next low' high' registers' r

-- A definition's machine is kept in its name's slot, a rule's is the book so far.
abbrev pub IsForm : Place → Form → Type 0
IsForm (place.Name x) F = (e : Expr) × (F ≡ define x e)
IsForm place.Book F = (kind : RuleKind) × (p : Expr) × (cs : List (Expr × Expr)) × (F ≡ rule kind p cs)

-- The program of a line that was read runs to its end, unless a stage stops it.
abbrev pub NotStuck : Result ℕ Failure → Type 0
NotStuck (Ok p) = Unit {0}
NotStuck (Err e) = e ≢ Stuck

-- The machine in front of the stack is kept at its place, and the book goes on behind the line; or it stops with the number of a refusal.
abbrev pub Finishes : Read → Book → List ℕ → List ℕ → List ℕ → List ℕ → List ℕ → List ℕ → List ℕ → Result Book LineRefusal → Result ℕ Failure → Type 0
Finishes t b stack low high registers low' high' registers' r (Ok p) =
    Keeps t.place stack low high registers low' high' registers' × (n : Book) × (r ≡ Ok n) × Behind t.place b t.next p n
Finishes t b stack low high registers low' high' registers' r (Err e) = (n : LineRefusal) × (r ≡ Err n) × (reason_number n.reason ≡ number_of e) × (n.line ≡ b.line)

-- ---- lines

-- A book with a draft, in buffers that are long enough, at a place in the text.
pub record Going (text ls : List ℕ) (b : Book) (low high registers stack : List ℕ) (scratch : Scratch) (code : List ℕ) : Type 0 where
  pub draft : Draft
  pub drafted : Drafted ls draft b low high registers
  pub letters : (1 ≤ length ls) × (length ls ≤ 26)
  pub line : b.line < 65536
  pub room : Room low high registers stack scratch
  pub long : 2 * length text + 64 ≤ length code

-- The line that starts at the book's place: it goes on behind the line's end with a new draft, or stops.
abbrev pub LineSays : List ℕ → List ℕ → Draft → Book → ℕ → List ℕ → List ℕ → List ℕ → Result Book LineRefusal → Type 0
LineSays text ls d b end low high registers (Ok r) =
    (d' : Draft) × (compile_line narrow ls d (line_at text b.at end) ≡ on d') × Drafted ls d' r low high registers × (r.at ≡ suc end) × (r.line ≡ suc b.line) × (end < length text)
LineSays text ls d b end low high registers (Err r) = (compile_line narrow ls d (line_at text b.at end) ≡ off (reason_number r.reason)) × (r.line ≡ b.line)

pub record CompilesLine (text ls : List ℕ) (b : Book) (low high registers low' high' registers' : List ℕ) (r : Result Book LineRefusal) : Type 0 where
  pub end : ℕ
  pub ends : Ends text b.at end
  pub says : (d : Draft) → Drafted ls d b low high registers → LineSays text ls d b end low' high' registers' r
