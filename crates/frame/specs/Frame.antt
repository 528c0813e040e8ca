-- What line 1 says, and what the card is.
use Rattle.std.specs.Prelude.{◌≡◌, true, List, Result, Ok, Err, ℕ, suc, ◌+◌, ◌-◌, ◌≤◌, ltb, length, drop, take}
use Rattle.automata.specs.Booleans.{choose}
use Rattle.automata.specs.Format.{narrow}
use Rattle.automata.specs.Machine.{Machine, Canonical}
use Rattle.automata.specs.Restrict.{Unmarked}
use Rattle.card.specs.Same.{card_of}
use Rattle.compiler.specs.Book.{compile_book, stopped}
use Rattle.compiler.specs.Outcome.{Outcome, card, stop, enough, outcome}
use Rattle.compiler.specs.Reading.{Answers}
use Rattle.compiler.specs.Rest.{lines_from, Placed}
use Rattle.compiler.specs.Refusals.{reason_number, refused_number, refused_line}
use Rattle.compiler.specs.declared.Compiled.{Compiled}
use Rattle.compiler.specs.declared.LineRefusal.{LineRefusal}
use Rattle.compiler.specs.declared.Refusal.{Refusal}
use Rattle.compiler.specs.Lent.{documented}
use Rattle.kept.specs.Stored.{InSlot}
use Rattle.frame.specs.declared.Opened.{Opened}

-- ---- the card

-- The slot holds the book's machine: smallest, and without an accepted word that has a mark.
pub record Writable (ls slot : List ℕ) : Type 0 where
  pub machine : Machine
  pub held : InSlot (length ls) slot machine
  pub few : length ls ≤ 26
  pub canonical : Canonical (suc (length ls)) machine
  pub unmarked : Unmarked (length ls) machine

-- the card with the peak, or 11
abbrev pub card_or_stop : List ℕ → Machine → ℕ → ℕ → Outcome
card_or_stop ls M peak room = choose (ltb room (length (card_of narrow ls M))) (λ _. stop 11 0) (λ _. card (card_of narrow ls M) peak)

pub record PutsCard (ls slot : List ℕ) (peak : ℕ) (old new : List ℕ) (r : Result Compiled Refusal) : Type 0 where
  pub says : (M : Machine) → InSlot (length ls) slot M → Answers (card_or_stop ls M peak (length old)) old new r

-- ---- the text

-- Line 1 was read, or there is none, and the other lines start at a place.
pub record Headed (text ls : List ℕ) (next : ℕ) : Type 0 where
  pub is : compile_book narrow text ≡ lines_from narrow text ls next
  pub placed : Placed text ls next

-- The letters of line 1 stand from one place up to its end.
pub record FirstLine (text : List ℕ) (from end : ℕ) : Type 0 where
  pub headed : Headed text (take (end - from) (drop from text)) (end + 1)
  pub some : from ≤ end
  pub within : end ≤ length text

abbrev pub HeadsSay : List ℕ → Result Opened LineRefusal → Type 0
HeadsSay text (Ok o) = FirstLine text o.start o.end
HeadsSay text (Err s) = compile_book narrow text ≡ stopped (reason_number s.reason) s.line

pub record Heads (text : List ℕ) (r : Result Opened LineRefusal) : Type 0 where
  pub says : HeadsSay text r

-- The text is not too long, the lent buffers are long enough, and line 1 was read; or the outcome is a refusal, whatever the card buffer's length.
abbrev pub OpensSay : List ℕ → List ℕ → Result Opened Refusal → Type 0
OpensSay text lent (Ok o) = (length text ≤ 16384) × (enough documented lent ≡ true) × FirstLine text o.start o.end
OpensSay text lent (Err r) = (room : ℕ) → outcome narrow documented text lent room ≡ stop (refused_number r) (refused_line r)

pub record Opens (text lent : List ℕ) (r : Result Opened Refusal) : Type 0 where
  pub says : OpensSay text lent r
