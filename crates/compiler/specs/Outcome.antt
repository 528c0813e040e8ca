-- What compiling a text answers: the card and the peak, or the number of a refusal with its line; and what the card buffer holds afterwards.
use Rattle.std.specs.Prelude.{ℕ, max, Bool, true, false, ◌&&◌, List, [], ◌∷◌, ◌++◌, leb, ltb, ◌≡◌, refl, length, take, drop}
use Rattle.std.proofs.Common.{take_at, drop_at}
use Rattle.automata.specs.Format.{Format}
use Rattle.automata.specs.Booleans.{choose}
use Rattle.card.specs.Same.{card_of}
use Rattle.book.specs.Text.{unless}
use Rattle.compiler.specs.Book.{BookResult, done, stopped, compile_book}

pub data Outcome : Type 0 where
  card : List ℕ → ℕ → Outcome
  stop : ℕ → ℕ → Outcome

-- the greatest of the numbers, 0 if there is none
abbrev pub most : List ℕ → ℕ
most [] = 0
most (c ∷ cs) = max c (most cs)

-- every lent buffer has its documented length at least (`enough_iff`). As many are lent as are documented, eight: the entry's parameters say it, so that
-- the two answers for lists that are not alike in length are never given.
abbrev pub enough : List ℕ → List ℕ → Bool
enough [] [] = true
enough [] (l ∷ ls) = false
enough (n ∷ ns) [] = false
enough (n ∷ ns) (l ∷ ls) = leb n l && enough ns ls

-- 11: "buffer shorter than the card". "The peak, carried in the result, is the most sets that one stage of this book made."
abbrev pub written : Format → ℕ → BookResult → Outcome
written fmt room (stopped r at) = stop r at
written fmt room (done ls d) =
    choose (ltb room (length (card_of fmt ls d.kept))) (λ _. stop 11 0) λ _.
    card (card_of fmt ls d.kept) (most d.counts)

-- "1 and 2 come first; then line by line 3 to 9 ..; then .. 11." 1: "text over 16,384 bytes"; 2: "a lent work buffer is below its documented length".
-- The documented lengths, the text, the lengths of the lent buffers, and the length of the card buffer.
unfoldable pub outcome : Format → List ℕ → List ℕ → List ℕ → ℕ → Outcome
outcome fmt needs text lent room =
    choose (ltb 16384 (length text)) (λ _. stop 1 0) λ _.
    unless (enough needs lent) (λ _. stop 2 0) λ _.
    written fmt room (compile_book fmt text)

-- "A book's refusal returns the number, its line (1 first; 0 for 1, 2, .. 11), length 0, peak 0"; "Success returns the card's length and the peak", and
-- no number.
pub record Answer : Type 0 where
  pub number : ℕ
  pub line : ℕ
  pub length : ℕ
  pub peak : ℕ

abbrev pub answer : Outcome → Answer
answer (card c peak) = record { number = 0; line = 0; length = length c; peak = peak }
answer (stop r at) = record { number = r; line = at; length = 0; peak = 0 }

-- "and the card buffer unchanged"; "bytes past that length are unchanged"
abbrev pub buffer_after : Outcome → List ℕ → List ℕ
buffer_after (card c peak) old = c ++ drop (length c) old
buffer_after (stop r at) old = old

-- ---- the card buffer

-- A refusal leaves it as it was,
pub refusal_keeps : (r at : ℕ) (old : List ℕ) → buffer_after (stop r at) old ≡ old
refusal_keeps r at old = refl

-- and a card stands in front, with the old bytes behind it.
pub card_stands : (c : List ℕ) (peak : ℕ) (old : List ℕ) → take (length c) (buffer_after (card c peak) old) ≡ c
card_stands c peak old = take_at c (drop (length c) old) (length c) refl

pub rest_keeps : (c : List ℕ) (peak : ℕ) (old : List ℕ) → drop (length c) (buffer_after (card c peak) old) ≡ drop (length c) old
rest_keeps c peak old = drop_at c (drop (length c) old) (length c) refl
