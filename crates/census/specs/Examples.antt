-- The definitions, computed on the first card of "Ten days on paper", on which b stands only right behind a, on a card on which an a waits for a b, on one that
-- allows nothing, and on the cards without letters.
use Rattle.std.specs.Prelude.{◌≡◌, refl, List, [], ◌∷◌, map, ℕ}
use Rattle.std.proofs.Common.{inl, inr, arith}
use Rattle.automata.specs.Decide.{unless}
use Rattle.automata.specs.Distance.{distance}
use Rattle.automata.specs.Format.{narrow}
use Rattle.automata.specs.Live.{live, live_round, live_next}
use Rattle.automata.specs.Numbering.{across, seen}
use Rattle.automata.specs.NumberingTest.{numbered_test, row_numbered}
use Rattle.automata.specs.Partition.{classes, settle, rounds, refine, firsts}
use Rattle.automata.specs.ReducedTest.{reduced_test}
use Rattle.card.specs.Mark.{marks}
use Rattle.card.specs.Layout.{letters_of, marks_of, moves_of, machine_of, contents_test}
use Rattle.card.specs.Alphabet.{alphabet_test}
use Rattle.card.specs.Load.{load_test, row_inside, inside_test, marks_test}
use Rattle.card.specs.NoLetters.{no_letters}
use Rattle.census.specs.Census.{Past, Within, counts, refused, census}

abbrev first : List ℕ
first = 0x0C ∷ 0 ∷ 2 ∷ 0 ∷ 0x0E ∷ 0 ∷ 3 ∷ 0 ∷ 0x11 ∷ 0 ∷ 6 ∷ 0 ∷ 0x61 ∷ 0x62 ∷ 1 ∷ 1 ∷ 2 ∷ 1 ∷ 2 ∷ 1 ∷ 0 ∷ 2 ∷ 2 ∷ []

-- `>a / .* _ .*b.*`: behind an a a b is still to come
abbrev waiting : List ℕ
waiting = 0x0C ∷ 0 ∷ 2 ∷ 0 ∷ 0x0E ∷ 0 ∷ 2 ∷ 0 ∷ 0x10 ∷ 0 ∷ 4 ∷ 0 ∷ 0x61 ∷ 0x62 ∷ 1 ∷ 0 ∷ 1 ∷ 0 ∷ 1 ∷ 0 ∷ []

-- one letter, one state, which is dead
abbrev nothing : List ℕ
nothing = 0x0C ∷ 0 ∷ 1 ∷ 0 ∷ 0x0D ∷ 0 ∷ 1 ∷ 0 ∷ 0x0E ∷ 0 ∷ 1 ∷ 0 ∷ 0x61 ∷ 2 ∷ 0 ∷ []

-- no letter, one, two, three
pub first_counts : map (census narrow first) (0 ∷ 1 ∷ 2 ∷ 3 ∷ []) ≡ counts 1 0 0 ∷ counts 1 0 1 ∷ counts 2 0 2 ∷ counts 3 0 5 ∷ []
unfolding census load_test unless contents_test alphabet_test letters_of inside_test row_inside numbered_test row_numbered across seen machine_of marks_of moves_of marks_test marks live live_round live_next reduced_test classes settle rounds refine firsts
first_counts = refl

-- 2 to the power 64, and more
pub first_past : map (census narrow first) (64 ∷ 4096 ∷ 4097 ∷ []) ≡ refused 31 ∷ refused 31 ∷ refused 31 ∷ []
unfolding census load_test unless contents_test alphabet_test letters_of inside_test row_inside numbered_test row_numbered across seen machine_of marks_of moves_of marks_test marks live live_round live_next reduced_test classes settle rounds refine firsts
first_past = refl

pub waiting_counts : map (census narrow waiting) (0 ∷ 1 ∷ 3 ∷ []) ≡ counts 1 0 0 ∷ counts 1 1 0 ∷ counts 4 4 0 ∷ []
unfolding census distance load_test unless contents_test alphabet_test letters_of inside_test row_inside numbered_test row_numbered across seen machine_of marks_of moves_of marks_test marks live live_round live_next reduced_test classes settle rounds refine firsts
waiting_counts = refl

pub nothing_counts : map (census narrow nothing) (0 ∷ 3 ∷ 4097 ∷ []) ≡ counts 0 0 1 ∷ counts 0 0 1 ∷ refused 31 ∷ []
unfolding census load_test unless contents_test alphabet_test letters_of inside_test row_inside numbered_test row_numbered across seen machine_of marks_of moves_of marks_test marks live live_round live_next reduced_test classes settle rounds refine firsts
nothing_counts = refl

-- "Length 0 has one plan, also where m = 0; for k from 1 to 4,096 and m = 0 all three are 0."
pub no_letters_lem : map (census narrow (no_letters 1)) (0 ∷ 1 ∷ 4096 ∷ 4097 ∷ []) ≡ counts 1 0 0 ∷ counts 0 0 0 ∷ counts 0 0 0 ∷ refused 31 ∷ []
unfolding census load_test unless contents_test alphabet_test letters_of inside_test row_inside numbered_test row_numbered across seen machine_of marks_of moves_of marks_test marks live live_round live_next reduced_test classes settle rounds refine firsts
no_letters_lem = refl

pub no_letters_nothing : map (census narrow (no_letters 2)) (0 ∷ 1 ∷ 4096 ∷ 4097 ∷ []) ≡ counts 0 0 1 ∷ counts 0 0 0 ∷ counts 0 0 0 ∷ refused 31 ∷ []
unfolding census load_test unless contents_test alphabet_test letters_of inside_test row_inside numbered_test row_numbered across seen machine_of marks_of moves_of marks_test marks live live_round live_next reduced_test classes settle rounds refine firsts
no_letters_nothing = refl

-- no card: its number comes before 31
pub no_bytes : map (census narrow []) (0 ∷ 4097 ∷ []) ≡ refused 21 ∷ refused 21 ∷ []
unfolding census load_test unless contents_test
no_bytes = refl

-- ---- the bounds

-- The longest plans that are counted: of one letter 4,096, of two 63, of three 40, of sixteen 15, of twenty-six 13.
pub last_counted : Within 1 4096 × Within 2 63 × Within 3 40 × Within 16 15 × Within 26 13
last_counted = ((omega arith, omega arith), (omega arith, omega arith), (omega arith, omega arith), (omega arith, omega arith), (omega arith, omega arith))

pub first_refused : Past 1 4097 × Past 2 64 × Past 3 41 × Past 16 16 × Past 26 14
first_refused = (inl (omega arith), inr (omega arith), inr (omega arith), inr (omega arith), inr (omega arith))
