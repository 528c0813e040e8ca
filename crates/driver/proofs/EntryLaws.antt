-- The entry: the lines behind line 1, and what the lengths say.
use mathlib.Core.Path.{◌≡◌, sym, ◌∙◌, subst}
use mathlib.Core.Bool.{true}
use mathlib.Core.List.{List}
use Prim.Native.Nat.{ℕ}
use lib.Dec.{leb}
use lib.ListN.{length}
use Rattle.automata.specs.Format.{narrow}
use Rattle.automata.specs.Booleans.{and_left, and_right}
use borrow.Author.Tests.{leb-true}
use Rattle.automata.specs.Basics.{ltb_false}
use Rattle.language.specs.ExpressionLaws.{Right}
use Rattle.compiler.specs.Allows.{allows}
use Rattle.compiler.specs.Book.{done, stopped, compile_book}
use Rattle.compiler.proofs.BookLaws.{accepted_right}
use Rattle.compiler.specs.Outcome.{stop, written, outcome, enough}
use Rattle.lines.specs.Lines.{Lent, LinesSay, CompilesLines}
use Rattle.answers.specs.declared.Scratch.{Scratch}
use Rattle.compiler.specs.declared.Refusal.{Refusal}
use Rattle.std.specs.Prelude.{Result, Ok, Err}
use Rattle.driver.specs.Entry.{documented, lent_lengths, Answers}
use Rattle.frame.proofs.FrameLaws.{stops}
use Rattle.frame.specs.Frame.{Writable, card_or_stop, PutsCard, Headed, Opens}
use Rattle.compiler.specs.declared.Compiled.{Compiled}
use Rattle.compiler.specs.Refusals.{reason_number, refused_number, refused_line}
use Rattle.compiler.specs.declared.LineRefusal.{LineRefusal}
use Rattle.compiler.specs.declared.Refusal.TheVariants.{Line as OnLine}
use Rattle.frame.specs.declared.Opened.{Opened}

-- ---- the lines

module _ (text ls : List ℕ) (next : ℕ) (T : Headed text ls next) (registers : List ℕ) (r : Result ℕ LineRefusal) (C : CompilesLines text ls next registers r) where
  said : (q : Result ℕ LineRefusal) → r ≡ q → LinesSay text ls next registers q
  said q e = subst (LinesSay text ls next registers) e C.says

  -- the machine of a book that was compiled
  pub writable : (p : ℕ) → r ≡ Ok p → Writable ls registers
  writable p q =
      let (d, e, _, H) = said (Ok p) q in
      let R : Right (length ls) d.kept (allows text) = accepted_right narrow text ls d (T.is ∙ e) in
      record {
        machine = d.kept;
        held = H;
        few = T.placed.few;
        canonical = R.recognizes.canonical;
        unmarked = λ w o t. R.letters w (sym (R.recognizes.exact w o) ∙ t);
      }

  -- what the lines say, with the card, is the book's outcome
  pub lines_put : (p : ℕ) (old new : List ℕ) (x : Result Compiled Refusal) → r ≡ Ok p → PutsCard ls registers p old new x
      → Answers (written narrow (length old) (compile_book narrow text)) old new x
  lines_put p old new x q P =
      let (d, e, m, H) = said (Ok p) q in
      let z : compile_book narrow text ≡ done ls d = T.is ∙ e in
      rw z (subst (λ p. Answers (card_or_stop ls d.kept p (length old)) old new x) m (P.says d.kept H))

  pub lines_stop : (n : LineRefusal) (old : List ℕ) → r ≡ Err n → Answers (written narrow (length old) (compile_book narrow text)) old old (Err (OnLine n))
  lines_stop n old q =
      let z : compile_book narrow text ≡ stopped (reason_number n.reason) n.line = T.is ∙ said (Err n) q in
      rw z (stops (OnLine n) old)

-- ---- 1 and 2

module _ (text lent : List ℕ) where
  pub opened_stops : (r : Refusal) (old : List ℕ) → Opens text lent (Err r) → Answers (outcome narrow documented text lent (length old)) old old (Err r)
  opened_stops r old O =
      let f : (room : ℕ) → outcome narrow documented text lent room ≡ stop (refused_number r) (refused_line r) = O.says in
      rw (f (length old)) (stops r old)

  pub opened_compiled : (o : Opened) → Opens text lent (Ok o) → (old new : List ℕ) (x : Result Compiled Refusal)
      → Answers (written narrow (length old) (compile_book narrow text)) old new x → Answers (outcome narrow documented text lent (length old)) old new x
  unfolding outcome
  opened_compiled o O old new x A =
      let (h, e, _) = O.says in
      rw (ltb_false 16384 (length text) h, e) A

-- ---- the lengths of the lent buffers

-- what the test of the lengths says of the buffers
pub lent : (low high registers stack : List ℕ) (scratch : Scratch) (code : List ℕ) → enough documented (lent_lengths low high registers stack scratch.rows.now scratch.table.now scratch.work.now code) ≡ true
    → Lent low high registers stack scratch code
lent low high registers stack scratch code e =
    let e₁ = and_right (leb 43706 (length low)) _ e in
    let e₂ = and_right (leb 43706 (length high)) _ e₁ in
    let e₃ = and_right (leb 10086 (length registers)) _ e₂ in
    let e₄ = and_right (leb 63878 (length stack)) _ e₃ in
    let e₅ = and_right (leb 62464 (length scratch.rows.now)) _ e₄ in
    let e₆ = and_right (leb 14336 (length scratch.table.now)) _ e₅ in
    let e₇ = and_right (leb 6720 (length scratch.work.now)) _ e₆ in
    record {
      room = record {
        low = leb-true 43706 (length low) (and_left (leb 43706 (length low)) _ e);
        high = leb-true 43706 (length high) (and_left (leb 43706 (length high)) _ e₁);
        registers = leb-true 10086 (length registers) (and_left (leb 10086 (length registers)) _ e₂);
        stack = leb-true 63878 (length stack) (and_left (leb 63878 (length stack)) _ e₃);
        rows = leb-true 62464 (length scratch.rows.now) (and_left (leb 62464 (length scratch.rows.now)) _ e₄);
        table = leb-true 14336 (length scratch.table.now) (and_left (leb 14336 (length scratch.table.now)) _ e₅);
        work = leb-true 6720 (length scratch.work.now) (and_left (leb 6720 (length scratch.work.now)) _ e₆);
      };
      long = leb-true 32832 (length code) (and_left (leb 32832 (length code)) _ e₇);
    }
