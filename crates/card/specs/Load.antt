-- The load test, 21 to 26 in their order, and what each answer means (`Tested`); LoadLaws.antt shows that the test gives the one right answer.
use Rattle.std.specs.Prelude.{Bool, ◌≢◌, List, ℕ, ◌≤◌, ◌<◌, get_or, ltb, eqb}
use Rattle.automata.specs.Machine.{Numbered, Equivalent, Reduced}
use Rattle.automata.specs.Decide.{unless, all_below}
use Rattle.automata.specs.NumberingTest.{numbered_test}
use Rattle.automata.specs.ReducedTest.{reduced_test}
use Rattle.automata.specs.Format.{Format}
use Rattle.card.specs.Mark.{marks, Mark}
use Rattle.card.specs.Layout.{letter_count, state_count, mark_at, move_at, letters_of, machine_of, Contents, contents_test}
use Rattle.card.specs.Alphabet.{Alphabet, alphabet_test}

-- ---- the tests

-- 23, "a move to n or above"
unfoldable pub row_inside : Format → List ℕ → ℕ → Bool
row_inside fmt c p = let n = state_count fmt c in all_below (λ i. ltb (move_at fmt c p i) n) (letter_count fmt c)

unfoldable pub inside_test : Format → List ℕ → Bool
inside_test fmt c = all_below (row_inside fmt c) (state_count fmt c)

-- 25, "not 0, 1, 2 as defined"
unfoldable pub marks_test : Format → List ℕ → Bool
marks_test fmt c = let ms = marks (letter_count fmt c) (machine_of fmt c) in all_below (λ p. eqb (mark_at fmt c p) (get_or ms p 0)) (state_count fmt c)

-- "A card is tested 21 to 26." The first that fails, or 0.
unfoldable pub load_test : Format → List ℕ → ℕ
load_test fmt c =
    let m = letter_count fmt c in
    let M = machine_of fmt c in
    unless 21 (contents_test fmt c) λ _.
    unless 22 (alphabet_test (letters_of fmt c)) λ _.
    unless 23 (inside_test fmt c) λ _.
    unless 24 (numbered_test m M) λ _.
    unless 25 (marks_test fmt c) λ _.
    unless 26 (reduced_test m M) λ _.
    0

-- ---- what each answer means

-- Not 23: no move is "to n or above".
abbrev pub CardInside : Format → List ℕ → Type 0
CardInside fmt c = (p i : ℕ) → p < state_count fmt c → i < letter_count fmt c → move_at fmt c p i < state_count fmt c

-- Not 25: each marks byte is "0, 1, 2 as defined".
abbrev pub CardMarked : Format → List ℕ → Type 0
CardMarked fmt c = (p : ℕ) → p < state_count fmt c → Mark (letter_count fmt c) (machine_of fmt c) p (mark_at fmt c p)

-- Not 24: the states are numbered "by first arrival", and each is reached.
abbrev pub CardNumbered : Format → List ℕ → Type 0
CardNumbered fmt c = Numbered (letter_count fmt c) (machine_of fmt c)

-- Not 26: no two states "allow the same continuations".
abbrev pub CardReduced : Format → List ℕ → Type 0
CardReduced fmt c = Reduced (letter_count fmt c) (machine_of fmt c)

-- The table's lines 21 to 26, each where those before it do not stop the card.
pub data Tested (fmt : Format) (c : List ℕ) : ℕ → Type 0 where
  bad_contents : ¬ Contents fmt c → Tested fmt c 21
  bad_alphabet : Contents fmt c → ¬ Alphabet (letters_of fmt c) → Tested fmt c 22
  transition_out_of_range : Contents fmt c → Alphabet (letters_of fmt c) → (p i : ℕ) → p < state_count fmt c → i < letter_count fmt c → state_count fmt c ≤ move_at fmt c p i → Tested fmt c 23
  not_numbered : Contents fmt c → Alphabet (letters_of fmt c) → CardInside fmt c → ¬ CardNumbered fmt c → Tested fmt c 24
  wrong_marks : Contents fmt c → Alphabet (letters_of fmt c) → CardInside fmt c → CardNumbered fmt c
      → (p : ℕ) → p < state_count fmt c → ¬ Mark (letter_count fmt c) (machine_of fmt c) p (mark_at fmt c p) → Tested fmt c 25
  equivalent_states : Contents fmt c → Alphabet (letters_of fmt c) → CardInside fmt c → CardNumbered fmt c → CardMarked fmt c
      → (p q : ℕ) → p < state_count fmt c → q < state_count fmt c → p ≢ q → Equivalent (letter_count fmt c) (machine_of fmt c) p q → Tested fmt c 26
  loaded : Contents fmt c → Alphabet (letters_of fmt c) → CardInside fmt c → CardNumbered fmt c → CardMarked fmt c → CardReduced fmt c → Tested fmt c 0
