-- The lines in their order: each line compiled brings the draft that the definitions have behind it.
use mathlib.Core.Path.{◌≡◌, sym, ap, ap₂, ◌∙◌, subst}
use mathlib.Core.Bool.{false≢true}
use mathlib.Core.List.{List}
use Prim.Native.Nat.{ℕ, suc, ◌+◌, ◌-◌, ◌≤◌, ◌<◌}
use native.Mathlib.Omega.{arith}
use lib.ListN.{length, drop, drop_of_length-le}
use Rattle.automata.specs.Format.{narrow}
use Rattle.book.specs.Text.{lines_of}
use Rattle.compiler.specs.Book.{Draft, LineResult, on, off, after_line, compile_line, compile_lines, done, stopped, start_draft}
use Rattle.scans.specs.Lines.{line_at}
use Rattle.kept.specs.Stored.{Begins}
use Rattle.progress.specs.Progress.{Starts}
use Rattle.line.specs.Line.{Drafted, Going, LineSays, CompilesLine}
use Rattle.progress.specs.declared.Book.{Book}
use Rattle.compiler.specs.Refusals.{reason_number}
use Rattle.compiler.specs.declared.LineRefusal.{LineRefusal}
use Rattle.std.specs.Prelude.{Result, Ok, Err}
use Rattle.compiler.specs.Rest.{lines_from, Placed}
use Rattle.lines.specs.Lines.{Lent, CompilesLines}
use Rattle.answers.specs.declared.Scratch.{Scratch}
use Rattle.answers.specs.Scratch.{SameRoom}

-- The lines before the book's place are compiled: what is left of the lines, with the draft that the buffers hold, gives what all the lines give.
pub record Reached (text ls : List ℕ) (next : ℕ) (b : Book) (low high registers : List ℕ) : Type 0 where
  pub draft : Draft
  pub drafted : Drafted ls draft b low high registers
  pub says : lines_from narrow text ls next ≡ compile_lines narrow ls (lines_of (drop b.at text)) b.line draft
  pub at : b.at ≤ suc (length text)
  pub line : b.line ≤ b.at + 2

-- the lengths of the buffers stay
pub record Lengths (low₀ high₀ registers₀ stack₀ : List ℕ) (scratch₀ : Scratch) (code₀ low high registers stack : List ℕ) (scratch : Scratch) (code : List ℕ) : Type 0 where
  pub low≡ : length low ≡ length low₀
  pub high≡ : length high ≡ length high₀
  pub registers≡ : length registers ≡ length registers₀
  pub stack≡ : length stack ≡ length stack₀
  pub scratch≡ : SameRoom scratch₀ scratch
  pub code≡ : length code ≡ length code₀

-- The book starts as `.*`, without a name.
pub reached_start : (text ls : List ℕ) (next : ℕ) (b : Book) (low high registers : List ℕ) → Placed text ls next → Begins (length ls) registers → Starts next b
    → Reached text ls next b low high registers
reached_start text ls next b low high registers P H S = record {
  draft = start_draft (length ls);
  drafted = record { stored = record { names = λ x i m. absurd (false≢true m); registers = H.registers }; names = S.names; peak = S.peak };
  says = sym (ap₂ (λ a l. compile_lines narrow ls (lines_of (drop a text)) l (start_draft (length ls))) S.at S.line);
  at = omega (arith, S.at, P.at);
  line = omega (arith, S.line);
}

module _ (text ls : List ℕ) (next : ℕ) (b : Book) (low high registers : List ℕ) (R : Reached text ls next b low high registers) where
  module _ (low' high' registers' : List ℕ) (r : Result Book LineRefusal) (C : CompilesLine text ls b low high registers low' high' registers' r) (h : b.at < length text) where
    -- the next line in front
    first : (x : LineResult) → compile_line narrow ls R.draft (line_at text b.at C.end) ≡ x
        → lines_from narrow text ls next ≡ after_line x (λ d. compile_lines narrow ls (lines_of (drop (suc C.end) text)) (suc b.line) d) (λ r. stopped r b.line)
    unfolding compile_lines
    first x e =
        R.says ∙ ap (λ l. compile_lines narrow ls l b.line R.draft) (C.ends.lines h)
        ∙ ap (λ x. after_line x (λ d. compile_lines narrow ls (lines_of (drop (suc C.end) text)) (suc b.line) d) (λ r. stopped r b.line)) e

    said : (q : Result Book LineRefusal) → r ≡ q → LineSays text ls R.draft b C.end low' high' registers' q
    said q e = subst (LineSays text ls R.draft b C.end low' high' registers') e (C.says R.draft R.drafted)

    -- the next line's place is further on
    pub reached_next : (n : Book) → r ≡ Ok n → Reached text ls next n low' high' registers' × (b.at < n.at)
    reached_next n q =
        let (d, f, D, at, ln, w) = said (Ok n) q in
        let g : b.at ≤ C.end = C.ends.from in (
          record {
            draft = d;
            drafted = D;
            says = first (on d) f ∙ sym (ap₂ (λ a l. compile_lines narrow ls (lines_of (drop a text)) l d) at ln);
            at = omega (arith, at, w);
            line = omega (arith, at, ln, g, R.line);
          },
          omega (arith, at, g),
        )

    pub lines_off : (n : LineRefusal) → r ≡ Err n → CompilesLines text ls next registers' (Err n)
    lines_off n q = let (f, l) = said (Err n) q in record { says = first (off (reason_number n.reason)) f ∙ ap (stopped (reason_number n.reason)) (sym l) }

  module _ (h : length text ≤ b.at) where
    at_end : lines_from narrow text ls next ≡ done ls R.draft
    unfolding compile_lines
    at_end = R.says ∙ ap (λ s. compile_lines narrow ls (lines_of s) b.line R.draft) (drop_of_length-le text {i = b.at} h)

    pub lines_end : CompilesLines text ls next registers (Ok b.peak)
    lines_end = record { says = (R.draft, at_end, R.drafted.peak, R.drafted.stored.registers.book) }

-- the buffers behind the start
pub lent_begun : {low high registers registers' stack stack' : List ℕ} {scratch : Scratch} {code : List ℕ} → Lent low high registers stack scratch code → length registers' ≡ length registers
    → length stack' ≡ length stack → Lent low high registers' stack' scratch code
lent_begun L e f = record {
  room = record {
    low = L.room.low;
    high = L.room.high;
    registers = omega (arith, L.room.registers, e);
    stack = omega (arith, L.room.stack, f);
    rows = L.room.rows;
    table = L.room.table;
    work = L.room.work;
  };
  long = L.long;
}

-- The book and the buffers are ready for the line at the book's place.
pub going : (text ls : List ℕ) (next : ℕ) (b : Book) (low₀ high₀ registers₀ stack₀ : List ℕ) (scratch₀ : Scratch) (code₀ low high registers stack : List ℕ) (scratch : Scratch) (code : List ℕ)
    → Placed text ls next → Lent low₀ high₀ registers₀ stack₀ scratch₀ code₀ → Lengths low₀ high₀ registers₀ stack₀ scratch₀ code₀ low high registers stack scratch code
    → Reached text ls next b low high registers × (b.at < length text) → Going text ls b low high registers stack scratch code
going text ls next b low₀ high₀ registers₀ stack₀ scratch₀ code₀ low high registers stack scratch code P G L (R, h) = record {
  draft = R.draft;
  drafted = R.drafted;
  letters = (P.some (omega (arith, h)), P.few);
  line = omega (arith, R.line, R.at, P.short);
  room = record {
    low = omega (arith, G.room.low, L.low≡);
    high = omega (arith, G.room.high, L.high≡);
    registers = omega (arith, G.room.registers, L.registers≡);
    stack = omega (arith, G.room.stack, L.stack≡);
    rows = omega (arith, G.room.rows, L.scratch≡.0);
    table = omega (arith, G.room.table, L.scratch≡.1);
    work = omega (arith, G.room.work, L.scratch≡.2);
  };
  long = omega (arith, G.long, L.code≡, P.short);
}
