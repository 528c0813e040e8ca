-- A reply about a plan: an answer or a refusal. The tests that come before every answer about a plan, once for all of them, and what each reply means.
use Rattle.std.specs.Prelude.{◌≡◌, ◌≢◌, List, ℕ, ◌≤◌, ◌<◌, length, get_or}
use Rattle.std.proofs.Math.Dec.{eqb}
use Rattle.automata.specs.Decide.{unless}
use Rattle.automata.specs.Format.{Format}
use Rattle.card.specs.Layout.{letters_of}
use Rattle.card.specs.Alphabet.{column, Known, known_count}
use Rattle.card.specs.Load.{load_test, Tested}

-- "The reply is a refusal or a verdict": a refusal is its number, and "27 in judging adds how many letters precede the first foreign one", which
-- is 0 for the other numbers.
pub data Reply (A : Type 0) : Type 0 where
  answered : A → Reply A
  refused : (number before : ℕ) → Reply A

-- "To judge a plan, the board tests the card, then all letters, then the plan."
unfoldable pub asked : {A : Type 0} → Format → List ℕ → List ℕ → A → Reply A
asked fmt c plan a =
    let r = load_test fmt c in
    let k = known_count (letters_of fmt c) plan in
    unless (refused r 0) (eqb r 0) λ _.
    unless (refused 27 k) (eqb k (length plan)) λ _.
    answered a

-- What each reply means, where `Right` says which answers are right.
pub data Replies {A : Type 0} (fmt : Format) (c plan : List ℕ) (Right : A → Type 0) : Reply A → Type 0 where
  no_card : (r : ℕ) → r ≢ 0 → Tested fmt c r → Replies fmt c plan Right (refused r 0)
  unknown_letter : load_test fmt c ≡ 0 → (j : ℕ) → j < length plan → ((i : ℕ) → i < j → column (letters_of fmt c) (get_or plan i 0) < length (letters_of fmt c))
      → length (letters_of fmt c) ≤ column (letters_of fmt c) (get_or plan j 0) → Replies fmt c plan Right (refused 27 j)
  is_answered : load_test fmt c ≡ 0 → Known (letters_of fmt c) plan → (a : A) → Right a → Replies fmt c plan Right (answered a)

-- another answer in its place
abbrev pub map_reply : {A B : Type 0} → (A → B) → Reply A → Reply B
map_reply f (answered a) = answered (f a)
map_reply f (refused number before) = refused number before
