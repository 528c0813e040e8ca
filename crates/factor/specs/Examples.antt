-- The definitions, computed on the first card of "Ten days on paper", on which b stands only right behind a, on a card that allows nothing, and on the
-- cards without letters.
use Rattle.std.specs.Prelude.{◌≡◌, refl, List, [], ◌∷◌, map, ℕ}
use Rattle.automata.specs.Decide.{unless}
use Rattle.automata.specs.Format.{narrow}
use Rattle.automata.specs.Live.{live, live_round, live_next}
use Rattle.automata.specs.Numbering.{across, seen}
use Rattle.automata.specs.NumberingTest.{numbered_test, row_numbered}
use Rattle.automata.specs.Partition.{classes, settle, rounds, refine, firsts}
use Rattle.automata.specs.ReducedTest.{reduced_test}
use Rattle.card.specs.Mark.{marks}
use Rattle.card.specs.Layout.{letters_of, marks_of, moves_of, machine_of, contents_test}
use Rattle.card.specs.Alphabet.{alphabet_test}
use Rattle.card.specs.Load.{load_test, row_inside, inside_test, marks_test}
use Rattle.card.specs.NoLetters.{no_letters}
use Rattle.card.specs.Reply.{answered, refused, asked}
use Rattle.factor.specs.Factor.{none, at}
use Rattle.factor.specs.Shortest.{leftmost, least, shortest_by, lies_inside, shortest}

abbrev first : List ℕ
first = 0x0C ∷ 0 ∷ 2 ∷ 0 ∷ 0x0E ∷ 0 ∷ 3 ∷ 0 ∷ 0x11 ∷ 0 ∷ 6 ∷ 0 ∷ 0x61 ∷ 0x62 ∷ 1 ∷ 1 ∷ 2 ∷ 1 ∷ 2 ∷ 1 ∷ 0 ∷ 2 ∷ 2 ∷ []

-- one letter, one state, which is dead
abbrev nothing : List ℕ
nothing = 0x0C ∷ 0 ∷ 1 ∷ 0 ∷ 0x0D ∷ 0 ∷ 1 ∷ 0 ∷ 0x0E ∷ 0 ∷ 1 ∷ 0 ∷ 0x61 ∷ 2 ∷ 0 ∷ []

-- `abb`, `babbabb`, the hopeless `bab` which lies inside `abab`, the empty plan, `abc`
pub factors : map (shortest narrow first) ((97 ∷ 98 ∷ 98 ∷ []) ∷ (98 ∷ 97 ∷ 98 ∷ 98 ∷ 97 ∷ 98 ∷ 98 ∷ []) ∷ (98 ∷ 97 ∷ 98 ∷ []) ∷ [] ∷ (97 ∷ 98 ∷ 99 ∷ []) ∷ [])
    ≡ answered (at 1 2) ∷ answered (at 2 2) ∷ answered none ∷ answered none ∷ refused 27 2 ∷ []
unfolding shortest asked shortest_by least leftmost lies_inside load_test unless contents_test alphabet_test letters_of inside_test row_inside numbered_test row_numbered across seen machine_of marks_of moves_of marks_test marks live live_round live_next reduced_test classes settle rounds refine firsts
factors = refl

pub empty_factors : map (shortest narrow nothing) ((97 ∷ 97 ∷ []) ∷ [] ∷ (98 ∷ []) ∷ []) ≡ answered (at 0 0) ∷ answered (at 0 0) ∷ refused 27 0 ∷ []
unfolding shortest asked shortest_by least leftmost lies_inside load_test unless contents_test alphabet_test letters_of inside_test row_inside numbered_test row_numbered across seen machine_of marks_of moves_of marks_test marks live live_round live_next reduced_test classes settle rounds refine firsts
empty_factors = refl

-- no card
pub no_bytes : shortest narrow [] (97 ∷ []) ≡ refused 21 0
unfolding shortest asked load_test unless contents_test
no_bytes = refl

-- no letters: the empty plan lies inside itself, or inside nothing; a letter is not on the card
pub no_letters_lem : map (shortest narrow (no_letters 1)) ([] ∷ (97 ∷ []) ∷ []) ≡ answered none ∷ refused 27 0 ∷ []
unfolding shortest asked shortest_by least leftmost lies_inside load_test unless contents_test alphabet_test letters_of inside_test row_inside numbered_test row_numbered across seen machine_of marks_of moves_of marks_test marks live live_round live_next reduced_test classes settle rounds refine firsts
no_letters_lem = refl

pub no_letters_nothing : map (shortest narrow (no_letters 2)) ([] ∷ (97 ∷ []) ∷ []) ≡ answered (at 0 0) ∷ refused 27 0 ∷ []
unfolding shortest asked shortest_by least leftmost lies_inside load_test unless contents_test alphabet_test letters_of inside_test row_inside numbered_test row_numbered across seen machine_of marks_of moves_of marks_test marks live live_round live_next reduced_test classes settle rounds refine firsts
no_letters_nothing = refl
