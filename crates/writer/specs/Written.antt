-- What the card writer is given and what it answers.
use Rattle.std.specs.Prelude.{◌≡◌, List, ◌++◌, ℕ, length, drop, ltb, Option, Some, None}
use Rattle.automata.specs.Booleans.{choose}
use Rattle.automata.specs.Format.{narrow}
use Rattle.card.specs.Same.{card_of}
use Rattle.numbering.specs.Arrival.{kept_machine}
pub use Rattle.sections.specs.Kept.{Kept}

-- The card's length, or none: "buffer shorter than the card".
abbrev pub answer : List ℕ → ℕ → Option ℕ
answer c room = choose (ltb room (length c)) (λ _. None) (λ _. Some (length c))

-- "the card buffer unchanged" where it is too short; else the card, and "bytes past that length are unchanged"
abbrev pub buffer_after : List ℕ → List ℕ → List ℕ
buffer_after c old = choose (ltb (length old) (length c)) (λ _. old) (λ _. c ++ drop (length c) old)

-- The card c is written over the buffer `old`, or the answer is that it does not fit.
pub record Written (c old new : List ℕ) (r : Option ℕ) : Type 0 where
  pub result : r ≡ answer c (length old)
  pub buffer : new ≡ buffer_after c old

-- The card of the kept machine.
abbrev pub kept_card : ℕ → List ℕ → List ℕ → List ℕ
kept_card n ls t = card_of narrow ls (kept_machine n (length ls) t)
