-- Laws of what specs/NoLetters.antt defines.
use Rattle.std.specs.Prelude.{◌≡◌, refl, Bool, true, false, ◌⊎◌, List, [], ◌∷◌, map, ℕ, length, get_or}
use Rattle.std.proofs.Common.{ap, ◌∙◌, subst, inl, inr, not-suc-le-zero, zero-lt-suc, arith}
use Rattle.automata.specs.Basics.{LtCases, lt_cases}
use Rattle.automata.specs.Decide.{unless}
use Rattle.automata.specs.Automaton.{Reachable}
use Rattle.automata.specs.Format.{Format, narrow}
use Rattle.automata.specs.Live.{live, live_round, live_next}
use Rattle.automata.specs.Machine.{Machine, size, automaton, Canonical, access}
use Rattle.automata.specs.Numbering.{across, seen}
use Rattle.automata.specs.NumberingTest.{numbered_test, row_numbered}
use Rattle.automata.specs.Partition.{classes, settle, rounds, refine, firsts}
use Rattle.automata.specs.ReducedTest.{reduced_test}
use Rattle.card.specs.Number.{Bytes}
use Rattle.card.specs.Mark.{marks}
use Rattle.card.specs.Layout.{narrow_sound, encode, letter_count, letters_of, marks_of, moves_of, machine_of, Contents, contents_test}
use Rattle.card.proofs.LayoutLaws.{letters_length, encode_letter_count}
use Rattle.card.specs.Alphabet.{Alphabet, alphabet_test}
use Rattle.card.specs.Load.{load_test, row_inside, inside_test, marks_test}
use Rattle.card.specs.Loads.{Card}
use Rattle.card.proofs.Loads.{card_fits, load_loaded, loads_iff}
use Rattle.card.specs.Verdict.{allowed, hopeless}
use Rattle.card.specs.Reply.{answered, refused, asked, unknown_letter}
use Rattle.card.specs.Judge.{judge}
use Rattle.card.proofs.JudgeLaws.{replies_only}
use Rattle.card.specs.Step.{step_on, stopped, step_unknown}
use Rattle.card.proofs.Step.{steps_only}
use Rattle.card.specs.Answer.{load, holds, rejected}
use Rattle.card.proofs.Write.{encode_bytes}
use Rattle.card.specs.MountedStep as MountedStep
use Rattle.card.specs.MountedStep.{mounted_step}
use Rattle.card.proofs.MountedStep.{mounted_steps_only}
use Rattle.card.specs.Mounted.{mounted}
use Rattle.card.proofs.Mounted.{mounted_stops}
use Rattle.card.specs.NoLetters.{no_letters}

-- "so they load it, and its like with marks 02"
pub no_letters_load : (load narrow (no_letters 1) ≡ holds 0 1) × (load narrow (no_letters 2) ≡ holds 0 1)
unfolding load load_test unless contents_test alphabet_test letters_of inside_test row_inside numbered_test row_numbered across seen machine_of marks_of moves_of marks_test marks live live_round live_next reduced_test classes settle rounds refine firsts
no_letters_load = (refl, refl)

no_letters_tests : (load_test narrow (no_letters 1) ≡ 0) × (load_test narrow (no_letters 2) ≡ 0)
unfolding load_test unless contents_test alphabet_test letters_of inside_test row_inside numbered_test row_numbered across seen machine_of marks_of moves_of marks_test marks live live_round live_next reduced_test classes settle rounds refine firsts
no_letters_tests = (refl, refl)

-- marks 00 and 03; no state, two states
pub no_letters_refusals : map (load narrow) (no_letters 0 ∷ no_letters 3 ∷ (0x0C ∷ 0 ∷ 0 ∷ 0 ∷ 0x0C ∷ 0 ∷ 0 ∷ 0 ∷ 0x0C ∷ 0 ∷ 0 ∷ 0 ∷ []) ∷ (0x0C ∷ 0 ∷ 0 ∷ 0 ∷ 0x0C ∷ 0 ∷ 2 ∷ 0 ∷ 0x0E ∷ 0 ∷ 0 ∷ 0 ∷ 1 ∷ 2 ∷ []) ∷ [])
    ≡ rejected 25 ∷ rejected 25 ∷ rejected 21 ∷ rejected 24 ∷ []
unfolding load load_test unless contents_test alphabet_test letters_of inside_test row_inside numbered_test row_numbered across seen machine_of marks_of moves_of marks_test marks live live_round live_next
no_letters_refusals = refl

-- the empty plan, and a letter; where nothing is allowed the empty plan is hopeless 0
pub no_letters_judge : map (judge narrow (no_letters 1)) ([] ∷ (97 ∷ []) ∷ []) ≡ answered allowed ∷ refused 27 0 ∷ []
unfolding judge asked load_test unless contents_test alphabet_test letters_of inside_test row_inside numbered_test row_numbered across seen machine_of marks_of moves_of marks_test marks live live_round live_next reduced_test classes settle rounds refine firsts
no_letters_judge = refl

pub no_letters_hopeless : map (judge narrow (no_letters 2)) ([] ∷ (97 ∷ []) ∷ []) ≡ answered (hopeless 0) ∷ refused 27 0 ∷ []
unfolding judge asked load_test unless contents_test alphabet_test letters_of inside_test row_inside numbered_test row_numbered across seen machine_of marks_of moves_of marks_test marks live live_round live_next reduced_test classes settle rounds refine firsts
no_letters_hopeless = refl

-- "Only the empty plan can be judged there.": any other is 27, with no letter before the first foreign one.
pub only_empty : (fmt : Format) (c : List ℕ) → load_test fmt c ≡ 0 → letter_count fmt c ≡ 0 → (l : ℕ) (plan : List ℕ) → judge fmt c (l ∷ plan) ≡ refused 27 0
only_empty fmt c z e l plan =
    replies_only fmt c (l ∷ plan) (refused 27 0)
    (unknown_letter z 0 (zero-lt-suc (length plan)) (λ i h. absurd (not-suc-le-zero h)) (omega (arith, letters_length fmt c (load_loaded fmt c z).contents, e)))

-- A step there is 27, by every letter and from every state.
pub no_letters_steps : (fmt : Format) (c : List ℕ) → load_test fmt c ≡ 0 → letter_count fmt c ≡ 0 → (p l : ℕ) → step_on fmt c p l ≡ stopped 27
no_letters_steps fmt c z e p l = steps_only fmt c p l (stopped 27) (step_unknown z (λ i h. absurd (omega (arith, h, e))))

-- So it is on boards that were mounted after W2, on tested bytes or not.
pub no_letters_mounted_steps : (fmt : Format) (c : List ℕ) → Contents fmt c → letter_count fmt c ≡ 0 → (p l : ℕ) → mounted_step fmt c p l ≡ MountedStep.stopped 27
no_letters_mounted_steps fmt c r e p l = mounted_steps_only fmt c p l (MountedStep.stopped 27) (MountedStep.step_unknown r (λ i h. absurd (omega (arith, h, e))))

-- a step: today's boards know no such letter, those mounted before W2 no such card
pub no_letters_step : (step_on narrow (no_letters 1) 0 97 ≡ stopped 27) × (mounted_step mounted (no_letters 1) 0 97 ≡ MountedStep.stopped 21)
no_letters_step = (no_letters_steps narrow (no_letters 1) no_letters_tests.0 refl 0 97, mounted_stops (no_letters 1) refl 0 97)

-- ---- their machines

-- no letters rise strictly
pub no_alphabet : Alphabet []
no_alphabet = record { letter = λ i h. absurd (not-suc-le-zero h); rising = λ i j h b. absurd (not-suc-le-zero b) }

-- One state, without moves, that accepts or not: the two cards are those of its machines,
abbrev alone : Bool → Machine
alone accepts = record { accepting = accepts ∷ []; moves = [] ∷ [] }

alone_cards : (encode narrow [] (alone true) ≡ no_letters 1) × (encode narrow [] (alone false) ≡ no_letters 2)
unfolding encode marks live live_round live_next
alone_cards = (refl, refl)

-- so that both are bytes.
pub no_letters_bytes : Bytes (no_letters 1) × Bytes (no_letters 2)
no_letters_bytes = (subst Bytes alone_cards.0 (encode_bytes narrow [] (alone true) no_alphabet), subst Bytes alone_cards.1 (encode_bytes narrow [] (alone false) no_alphabet))

-- ---- there are no others

-- A machine without letters whose states are all reached has one state.
one_state : (M : Machine) → Canonical 0 M → size M ≡ 1
one_state M C = go (lt_cases 1 (size M))
  where
    start : Reachable 0 (automaton M) 1 → ⊥
    start ([], o, e) = omega (arith, e)
    start (c ∷ w, o, e) = not-suc-le-zero o.0

    go : LtCases 1 (size M) → size M ≡ 1
    go (inl p) = absurd (start (access 0 M C.numbered 1 p.0))
    go (inr p) = omega (arith, p.0, C.formed.some)

two_cards : (M : Machine) → size M ≡ 1 → length M.moves ≡ 1 → length (get_or M.moves 0 []) ≡ 0 → (encode narrow [] M ≡ no_letters 1) ⊎ (encode narrow [] M ≡ no_letters 2)
two_cards M = go M.accepting M.moves
  where
    go : (a : List Bool) (s : List (List ℕ)) → length a ≡ 1 → length s ≡ 1 → length (get_or s 0 []) ≡ 0
        → (encode narrow [] (record { accepting = a; moves = s }) ≡ no_letters 1) ⊎ (encode narrow [] (record { accepting = a; moves = s }) ≡ no_letters 2)
    go (true ∷ []) ([] ∷ []) e f g = inl alone_cards.0
    go (false ∷ []) ([] ∷ []) e f g = inr alone_cards.1
    go [] s e f g = absurd (omega arith)
    go (x ∷ y ∷ a) s e f g = absurd (omega arith)
    go (x ∷ []) [] e f g = absurd (omega arith)
    go (x ∷ []) ((m ∷ ms) ∷ []) e f g = absurd (omega arith)
    go (x ∷ []) (r ∷ t ∷ s) e f g = absurd (omega arith)

-- THE CARDS WITHOUT LETTERS that a board loads are those two.
pub no_letters_only : (c : List ℕ) → Bytes c → load_test narrow c ≡ 0 → letter_count narrow c ≡ 0 → (c ≡ no_letters 1) ⊎ (c ≡ no_letters 2)
no_letters_only c b z e =
    let (ls, M, d, q) = (loads_iff narrow narrow_sound c b).0 z in
    go ls M d q (ap (letter_count narrow) q ∙ encode_letter_count narrow narrow_sound ls M (card_fits narrow ls M d))
  where
    go : (ls : List ℕ) (M : Machine) → Card narrow ls M → c ≡ encode narrow ls M → letter_count narrow c ≡ length ls → (c ≡ no_letters 1) ⊎ (c ≡ no_letters 2)
    go (l ∷ ls) M d q n = absurd (omega (arith, e, n))
    go [] M d q n =
        let C : Canonical 0 M = d.canonical in
        let s : size M ≡ 1 = one_state M C in
        rw q (two_cards M s (C.formed.rows ∙ s) (C.formed.wide 0 C.formed.some))
