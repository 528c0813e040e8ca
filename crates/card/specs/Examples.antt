-- The definitions, computed: the first card of "Ten days on paper", its verdicts, a card that each test stops, how much is owed, each answer of a step; a
-- card of another format, and one without letters.
use Rattle.std.specs.Prelude.{◌≡◌, refl, true, false, List, [], ◌∷◌, map, ℕ}
use Rattle.std.proofs.Common.{arith}
use Rattle.automata.specs.Decide.{unless}
use Rattle.automata.specs.Distance.{distance}
use Rattle.automata.specs.Format.{Format, narrow}
use Rattle.automata.specs.Listing.{listing, turn, add_to, add}
use Rattle.automata.specs.Live.{live, live_round, live_next}
use Rattle.automata.specs.Machine.{Machine}
use Rattle.automata.specs.Numbering.{across, seen}
use Rattle.automata.specs.NumberingTest.{numbered_test, row_numbered}
use Rattle.automata.specs.Partition.{classes, settle, rounds, refine, firsts}
use Rattle.automata.specs.ReducedTest.{reduced_test}
use Rattle.automata.specs.Restrict.{restrict}
use Rattle.automata.specs.Smallest.{tabulated}
use Rattle.card.specs.Mark.{marks}
use Rattle.card.specs.Layout.{Sound, encode, letters_of, marks_of, moves_of, machine_of, contents_test}
use Rattle.card.specs.Alphabet.{alphabet_test}
use Rattle.card.specs.Load.{load_test, row_inside, inside_test, marks_test}
use Rattle.card.specs.Verdict.{allowed, unfinished, hopeless}
use Rattle.card.specs.Reply.{answered, refused, asked}
use Rattle.card.specs.Judge.{judge}
use Rattle.card.specs.Step.{step_on, moved, owing, stopped}
use Rattle.card.specs.Answer.{load, holds, rejected}
use Rattle.card.specs.Same.{card_of}

-- `:ab`, `>b / .*a _ .*`, over a, b and the mark: state 2 is dead, and the mark leads there
abbrev kept : Machine
kept = record { accepting = true ∷ true ∷ false ∷ []; moves = (1 ∷ 2 ∷ 2 ∷ []) ∷ (1 ∷ 0 ∷ 2 ∷ []) ∷ (2 ∷ 2 ∷ 2 ∷ []) ∷ [] }

abbrev first : List ℕ
first = 0x0C ∷ 0 ∷ 2 ∷ 0 ∷ 0x0E ∷ 0 ∷ 3 ∷ 0 ∷ 0x11 ∷ 0 ∷ 6 ∷ 0 ∷ 0x61 ∷ 0x62 ∷ 1 ∷ 1 ∷ 2 ∷ 1 ∷ 2 ∷ 1 ∷ 0 ∷ 2 ∷ 2 ∷ []

pub first_card_lem : card_of narrow (97 ∷ 98 ∷ []) kept ≡ first
unfolding card_of encode restrict tabulated listing turn add_to add marks live live_round live_next
first_card_lem = refl

pub first_loads : load narrow first ≡ holds 2 3
unfolding load load_test unless contents_test alphabet_test letters_of inside_test row_inside numbered_test row_numbered across seen machine_of marks_of moves_of marks_test marks live live_round live_next reduced_test classes settle rounds refine firsts
first_loads = refl

pub verdicts : map (judge narrow first) ((97 ∷ 98 ∷ []) ∷ (97 ∷ 98 ∷ 98 ∷ []) ∷ (98 ∷ []) ∷ [] ∷ (98 ∷ 98 ∷ 99 ∷ []) ∷ [])
    ≡ answered allowed ∷ answered (hopeless 3) ∷ answered (hopeless 1) ∷ answered allowed ∷ refused 27 2 ∷ []
unfolding judge asked load_test unless contents_test alphabet_test letters_of inside_test row_inside numbered_test row_numbered across seen machine_of marks_of moves_of marks_test marks live live_round live_next reduced_test classes settle rounds refine firsts
verdicts = refl

-- two letters, two states
abbrev two : ℕ → ℕ → ℕ → List ℕ → List ℕ
two a b offset rest = 12 ∷ 0 ∷ 2 ∷ 0 ∷ offset ∷ 0 ∷ 2 ∷ 0 ∷ 16 ∷ 0 ∷ 4 ∷ 0 ∷ a ∷ b ∷ rest

-- 21: an offset, a byte too many; 22: b before a; 23: a move to 2; 24: state 1 is not reached; 25: state 1 is dead; 26: both allow all
pub refusals : map (load narrow) (two 97 98 15 (1 ∷ 2 ∷ 1 ∷ 0 ∷ 1 ∷ 1 ∷ []) ∷ two 97 98 14 (1 ∷ 2 ∷ 1 ∷ 0 ∷ 1 ∷ 1 ∷ 0 ∷ []) ∷ two 98 97 14 (1 ∷ 2 ∷ 1 ∷ 0 ∷ 1 ∷ 1 ∷ [])
    ∷ two 97 98 14 (1 ∷ 2 ∷ 1 ∷ 0 ∷ 1 ∷ 2 ∷ []) ∷ two 97 98 14 (1 ∷ 2 ∷ 0 ∷ 0 ∷ 1 ∷ 1 ∷ []) ∷ two 97 98 14 (1 ∷ 0 ∷ 1 ∷ 0 ∷ 1 ∷ 1 ∷ []) ∷ two 97 98 14 (1 ∷ 1 ∷ 1 ∷ 0 ∷ 0 ∷ 1 ∷ [])
    ∷ two 97 98 14 (1 ∷ 2 ∷ 1 ∷ 0 ∷ 1 ∷ 1 ∷ []) ∷ [])
    ≡ rejected 21 ∷ rejected 21 ∷ rejected 22 ∷ rejected 23 ∷ rejected 24 ∷ rejected 25 ∷ rejected 26 ∷ holds 2 2 ∷ []
unfolding load load_test unless contents_test alphabet_test letters_of inside_test row_inside numbered_test row_numbered across seen machine_of marks_of moves_of marks_test marks live live_round live_next reduced_test classes settle rounds refine firsts
refusals = refl

-- ---- how much is owed, and steps

-- `:ab`, `>a / .* _ .*b.*`, each a has a b behind it: state 1 is that of a plan that still lacks one
abbrev behind : List ℕ
behind = two 97 98 14 (1 ∷ 0 ∷ 1 ∷ 0 ∷ 1 ∷ 0 ∷ [])

-- `:ab`, one state accepts, and three letters are owed at the start of a plan, two or one on the way
abbrev three : List ℕ
three = 12 ∷ 0 ∷ 2 ∷ 0 ∷ 14 ∷ 0 ∷ 4 ∷ 0 ∷ 18 ∷ 0 ∷ 8 ∷ 0 ∷ 97 ∷ 98 ∷ 0 ∷ 0 ∷ 0 ∷ 1 ∷ 1 ∷ 0 ∷ 1 ∷ 2 ∷ 3 ∷ 0 ∷ 3 ∷ 3 ∷ []

pub owing_replies : judge narrow behind (97 ∷ []) ∷ judge narrow behind (97 ∷ 98 ∷ []) ∷ map (judge narrow three) ([] ∷ (97 ∷ []) ∷ (97 ∷ 98 ∷ []) ∷ (98 ∷ 97 ∷ []) ∷ [])
    ≡ answered (unfinished 1) ∷ answered allowed ∷ answered (unfinished 3) ∷ answered (unfinished 2) ∷ answered (unfinished 1) ∷ answered (unfinished 2) ∷ []
unfolding judge asked distance load_test unless contents_test alphabet_test letters_of inside_test row_inside numbered_test row_numbered across seen machine_of marks_of moves_of marks_test marks live live_round live_next reduced_test classes settle rounds refine firsts
owing_replies = refl

-- on; to a state that is unfinished, with its number, and not that of the state left; no contents, a move to 2, twins, whatever the letter and the state
pub step_answers : step_on narrow first 0 97 ∷ step_on narrow behind 0 97 ∷ step_on narrow behind 1 98 ∷ step_on narrow three 0 97 ∷ step_on narrow three 1 98
    ∷ step_on narrow [] 3 99 ∷ step_on narrow (two 97 98 14 (1 ∷ 2 ∷ 1 ∷ 0 ∷ 1 ∷ 2 ∷ [])) 0 97 ∷ step_on narrow (two 97 98 14 (1 ∷ 1 ∷ 1 ∷ 0 ∷ 0 ∷ 1 ∷ [])) 3 99 ∷ []
    ≡ moved 1 1 ∷ owing 1 1 ∷ moved 0 1 ∷ owing 1 2 ∷ owing 2 1 ∷ stopped 21 ∷ stopped 23 ∷ stopped 26 ∷ []
unfolding step_on distance load_test unless contents_test alphabet_test letters_of inside_test row_inside numbered_test row_numbered across seen machine_of marks_of moves_of marks_test marks live live_round live_next reduced_test classes settle rounds refine firsts
step_answers = refl

-- a letter not on the card, though there is no such state either; no state
pub step_refusals : step_on narrow first 3 99 ∷ step_on narrow first 3 97 ∷ [] ≡ stopped 27 ∷ stopped 28 ∷ []
unfolding step_on distance load_test unless contents_test alphabet_test letters_of inside_test row_inside numbered_test row_numbered across seen machine_of marks_of moves_of marks_test marks live live_round live_next reduced_test classes settle rounds refine firsts
step_refusals = refl

-- ---- another format: no letters are enough, numbers of four bytes, moves of two

abbrev other : Format
other = record { least_letters = 0; most_letters = 26; most_states = 400; most_sets = 600; most_names = 286; number_bytes = 4; move_bytes = 2 }

pub other_sound : Sound other
other_sound = record { numbers = omega arith; moves = omega arith }

-- the first card in that format
abbrev widened : List ℕ
widened = 24 ∷ 0 ∷ 0 ∷ 0 ∷ 2 ∷ 0 ∷ 0 ∷ 0 ∷ 26 ∷ 0 ∷ 0 ∷ 0 ∷ 3 ∷ 0 ∷ 0 ∷ 0 ∷ 29 ∷ 0 ∷ 0 ∷ 0 ∷ 12 ∷ 0 ∷ 0 ∷ 0 ∷ 97 ∷ 98 ∷ 1 ∷ 1 ∷ 2 ∷ 1 ∷ 0 ∷ 2 ∷ 0 ∷ 1 ∷ 0 ∷ 0 ∷ 0 ∷ 2 ∷ 0 ∷ 2 ∷ 0 ∷ []

pub widened_card : card_of other (97 ∷ 98 ∷ []) kept ≡ widened
unfolding card_of encode restrict tabulated listing turn add_to add marks live live_round live_next
widened_card = refl

-- one state and no letters: the empty plan is allowed, and every letter is unknown
abbrev bare : List ℕ
bare = 24 ∷ 0 ∷ 0 ∷ 0 ∷ 0 ∷ 0 ∷ 0 ∷ 0 ∷ 24 ∷ 0 ∷ 0 ∷ 0 ∷ 1 ∷ 0 ∷ 0 ∷ 0 ∷ 25 ∷ 0 ∷ 0 ∷ 0 ∷ 0 ∷ 0 ∷ 0 ∷ 0 ∷ 1 ∷ []

pub bare_replies : map (judge other bare) ([] ∷ (97 ∷ []) ∷ []) ≡ answered allowed ∷ refused 27 0 ∷ []
unfolding judge asked load_test unless contents_test alphabet_test letters_of inside_test row_inside numbered_test row_numbered across seen machine_of marks_of moves_of marks_test marks live live_round live_next reduced_test classes settle rounds refine firsts
bare_replies = refl
