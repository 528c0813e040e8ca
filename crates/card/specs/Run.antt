-- Judging in parts, for a plan that comes in pieces: what is kept between two pieces, the start, one letter, a piece, and the reply at the end.
use Rattle.std.specs.Prelude.{List, [], ◌∷◌, ℕ, suc, length, ltb}
use Rattle.automata.specs.Booleans.{choose}
use Rattle.automata.specs.Format.{Format}
use Rattle.card.specs.Layout.{move_at, letters_of}
use Rattle.card.specs.Alphabet.{column}
use Rattle.card.specs.Verdict.{Verdict, hopeless}
use Rattle.card.specs.Reply.{Reply, answered, refused}
use Rattle.card.specs.Judge.{Place, none, found, by_place, dead_at, verdict_at}

-- ---- what is kept

-- the state; how many letters were taken; the least number of letters after which the state is dead; how many letters precede the first that is not on
-- the card, after which nothing changes
pub record Run : Type 0 where
  pub state : ℕ
  pub letters : ℕ
  pub dead : Place
  pub unknown : Place

-- ---- start, letter, piece, reply

-- state p after k letters, all of them on the card
abbrev pub going : ℕ → ℕ → Place → Run
going p k d = record { state = p; letters = k; dead = d; unknown = none }

-- the same where the letter after j letters is not on the card
abbrev pub halted : ℕ → ℕ → Place → ℕ → Run
halted p k d j = record { state = p; letters = k; dead = d; unknown = found j }

abbrev pub run_start : Format → List ℕ → Run
run_start fmt c = going 0 0 (dead_at fmt c 0 0)

-- one letter more, which leads to q
abbrev pub taken : Format → List ℕ → Run → ℕ → Run
taken fmt c r q = going q (suc r.letters) (by_place r.dead found (λ _. dead_at fmt c q (suc r.letters)))

abbrev pub run_letter : Format → List ℕ → Run → ℕ → Run
run_letter fmt c r l =
    by_place r.unknown (λ _. r) λ _.
    choose (ltb (column (letters_of fmt c) l) (length (letters_of fmt c)))
    (λ _. taken fmt c r (move_at fmt c r.state (column (letters_of fmt c) l)))
    (λ _. halted r.state r.letters r.dead r.letters)

abbrev pub run_on : Format → List ℕ → Run → List ℕ → Run
run_on fmt c r [] = r
run_on fmt c r (l ∷ plan) = run_on fmt c (run_letter fmt c r l) plan

abbrev pub run_verdict : Format → List ℕ → Run → Verdict
run_verdict fmt c r = by_place r.dead hopeless (λ _. verdict_at fmt c r.state)

abbrev pub run_reply : Format → List ℕ → Run → Reply Verdict
run_reply fmt c r = by_place r.unknown (refused 27) (λ _. answered (run_verdict fmt c r))
