-- Laws of what specs/Cases.antt defines.
use Rattle.std.specs.Prelude.{ℕ, suc, ◌≡◌, refl, List, [], ◌∷◌, map, length}
use Prim.Native.String.{String}
use Rattle.std.proofs.Common.{arith}
use Rattle.automata.specs.Format.{narrow}
use Rattle.automata.specs.Automaton.{Automaton}
use Rattle.automata.specs.Basics.{nat_test}
use Rattle.automata.specs.Listing.{explore, explore_from, listing, turn, add_to, add}
use Rattle.automata.specs.Partition.{classes, settle, rounds, refine, firsts}
use Rattle.automata.specs.Smallest.{smallest, smallest_by, tabulated, smallest_of}
use Rattle.automata.specs.Subset.{subset, gains}
use Rattle.automata.specs.Operations.{pair_test}
use Rattle.automata.specs.Restrict.{restrict}
use Rattle.automata.specs.Live.{live, live_round, live_next}
use Rattle.automata.specs.Stage.{Made, made, refused, stage, keep, Counts, StageResult, kept_one, too_many_sets, too_many_states}
use Rattle.automata.specs.Given.{all_machine, mark_machine}
use Rattle.automata.specs.Stages.{pair_stage, concat_stage, star_stage, erase_stage}
use Rattle.language.specs.Evaluate.{evaluate, marked_stages, context_stages, contexts_by, union_contexts, marked_of, erase_and_exclude, evaluate_rule}
use Rattle.card.specs.Mark.{marks}
use Rattle.card.specs.Layout.{encode, contents_test, letters_of, marks_of, moves_of, machine_of}
use Rattle.card.specs.Load.{load_test, inside_test, row_inside, marks_test}
use Rattle.card.specs.Verdict.{Verdict, hopeless}
use Rattle.card.specs.Reply.{Reply, asked}
use Rattle.card.specs.Judge.{judge, plan_verdict}
use Rattle.automata.specs.Decide.{unless}
use Rattle.automata.specs.Distance.{distance}
use Rattle.automata.specs.Numbering.{seen, across}
use Rattle.automata.specs.NumberingTest.{numbered_test, row_numbered}
use Rattle.card.specs.Alphabet.{alphabet_test}
use Rattle.card.proofs.Allowed.{known_count_lem}
use Rattle.automata.specs.ReducedTest.{reduced_test}
use Rattle.card.specs.Same.{card_of}
use Rattle.book.specs.Text.{line_test, form_of}
use Rattle.language.proofs.Makes.{joins_exactly}
use Rattle.book.specs.Line.{read_head, read_line, check_form}
use Rattle.compiler.specs.Book.{compile_form, compile_line, compile_lines, compile_head, compile_text, compile_book}
use Rattle.compiler.specs.Outcome.{card, outcome}
use Rattle.compiler.specs.Lent.{documented}
use Rattle.cases.specs.Case.{bytes_of, answered, judged, joining, ample, Holds, AllHold, none, ◌and◌, compiles, judges}
use Rattle.cases.specs.Cases.{always_hopeless, cases, first_book, first_card, first_plans, mixed, mixed_book, mixed_plans, nothing, nothing_book, two_book, two_contexts, two_forbidden, two_obliged, two_plans}

-- ---- cards of several cases, and dear ones, each computed once

first_card_lem : Holds (compiles first_book (card first_card 9))
unfolding explore explore_from listing turn add_to add classes settle rounds refine firsts smallest smallest_by tabulated smallest_of subset gains pair_test stage keep pair_stage concat_stage star_stage erase_stage line_test form_of read_head read_line check_form evaluate marked_stages context_stages contexts_by union_contexts marked_of erase_and_exclude evaluate_rule compile_form compile_line compile_lines compile_head compile_text compile_book outcome card_of restrict encode marks live live_round live_next load_test contents_test inside_test row_inside marks_test numbered_test reduced_test judge asked distance letters_of marks_of moves_of machine_of unless alphabet_test row_numbered seen across
first_card_lem = refl

nothing_card : Holds (compiles nothing_book (card nothing 8))
unfolding explore explore_from listing turn add_to add classes settle rounds refine firsts smallest smallest_by tabulated smallest_of subset gains pair_test stage keep pair_stage concat_stage star_stage erase_stage line_test form_of read_head read_line check_form evaluate marked_stages context_stages contexts_by union_contexts marked_of erase_and_exclude evaluate_rule compile_form compile_line compile_lines compile_head compile_text compile_book outcome card_of restrict encode marks live live_round live_next load_test contents_test inside_test row_inside marks_test numbered_test reduced_test judge asked distance letters_of marks_of moves_of machine_of unless alphabet_test row_numbered seen across
nothing_card = refl

two_card : Holds (compiles two_book (card two_contexts 16))
unfolding explore explore_from listing turn add_to add classes settle rounds refine firsts smallest smallest_by tabulated smallest_of subset gains pair_test stage keep pair_stage concat_stage star_stage erase_stage line_test form_of read_head read_line check_form evaluate marked_stages context_stages contexts_by union_contexts marked_of erase_and_exclude evaluate_rule compile_form compile_line compile_lines compile_head compile_text compile_book outcome card_of restrict encode marks live live_round live_next load_test contents_test inside_test row_inside marks_test numbered_test reduced_test judge asked distance letters_of marks_of moves_of machine_of unless alphabet_test row_numbered seen across
two_card = refl

two_forbidden_lem : Holds (compiles ":ab\n<a/a_b/b_a\n" (card two_forbidden 12))
unfolding explore explore_from listing turn add_to add classes settle rounds refine firsts smallest smallest_by tabulated smallest_of subset gains pair_test stage keep pair_stage concat_stage star_stage erase_stage line_test form_of read_head read_line check_form evaluate marked_stages context_stages contexts_by union_contexts marked_of erase_and_exclude evaluate_rule compile_form compile_line compile_lines compile_head compile_text compile_book outcome card_of restrict encode marks live live_round live_next load_test contents_test inside_test row_inside marks_test numbered_test reduced_test judge asked distance letters_of marks_of moves_of machine_of unless alphabet_test row_numbered seen across
two_forbidden_lem = refl

two_obliged_lem : Holds (compiles ":ab\n^a/a_b/b_a\n" (card two_obliged 14))
unfolding explore explore_from listing turn add_to add classes settle rounds refine firsts smallest smallest_by tabulated smallest_of subset gains pair_test stage keep pair_stage concat_stage star_stage erase_stage line_test form_of read_head read_line check_form evaluate marked_stages context_stages contexts_by union_contexts marked_of erase_and_exclude evaluate_rule compile_form compile_line compile_lines compile_head compile_text compile_book outcome card_of restrict encode marks live live_round live_next load_test contents_test inside_test row_inside marks_test numbered_test reduced_test judge asked distance letters_of marks_of moves_of machine_of unless alphabet_test row_numbered seen across
two_obliged_lem = refl

mixed_card : Holds (compiles mixed_book (card mixed 9))
unfolding explore explore_from listing turn add_to add classes settle rounds refine firsts smallest smallest_by tabulated smallest_of subset gains pair_test stage keep pair_stage concat_stage star_stage erase_stage line_test form_of read_head read_line check_form evaluate marked_stages context_stages contexts_by union_contexts marked_of erase_and_exclude evaluate_rule compile_form compile_line compile_lines compile_head compile_text compile_book outcome card_of restrict encode marks live live_round live_next load_test contents_test inside_test row_inside marks_test numbered_test reduced_test judge asked distance letters_of marks_of moves_of machine_of unless alphabet_test row_numbered seen across
mixed_card = refl

by_card : (text c : List ℕ) (peak : ℕ) (plans : List (String × Reply Verdict)) → Holds (answered text documented ample (card c peak))
    → map (λ p. judge narrow c (bytes_of p.0)) plans ≡ map (λ p. p.1) plans → Holds (judged text plans)
by_card text c peak plans e h = rw e h

first_judged : Holds (judges first_book first_plans)
unfolding load_test contents_test inside_test row_inside marks_test numbered_test reduced_test row_numbered seen across alphabet_test letters_of marks_of moves_of machine_of unless marks live live_round live_next classes settle rounds refine firsts judge asked distance
first_judged = by_card (bytes_of first_book) first_card 9 first_plans first_card_lem refl

two_judged : Holds (judges two_book two_plans)
unfolding load_test contents_test inside_test row_inside marks_test numbered_test reduced_test row_numbered seen across alphabet_test letters_of marks_of moves_of machine_of unless marks live live_round live_next classes settle rounds refine firsts judge asked distance
two_judged = by_card (bytes_of two_book) two_contexts 16 two_plans two_card refl

mixed_judged : Holds (judges mixed_book mixed_plans)
unfolding load_test contents_test inside_test row_inside marks_test numbered_test reduced_test row_numbered seen across alphabet_test letters_of marks_of moves_of machine_of unless marks live live_round live_next classes settle rounds refine firsts judge asked distance
mixed_judged = by_card (bytes_of mixed_book) mixed 9 mixed_plans mixed_card refl

-- ---- "every plan hopeless 0"

nothing_loads : load_test narrow nothing ≡ 0
unfolding load_test contents_test inside_test row_inside marks_test numbered_test reduced_test row_numbered seen across alphabet_test letters_of marks_of moves_of machine_of unless marks live live_round live_next classes settle rounds refine firsts
nothing_loads = refl

dead_at_once : (plan : List ℕ) → plan_verdict narrow nothing plan ≡ hopeless 0
dead_at_once [] = refl
dead_at_once (l ∷ plan) = refl

always_hopeless_lem : Holds always_hopeless
unfolding judge asked unless letters_of
always_hopeless_lem plan k = rw (nothing_card, nothing_loads, known_count_lem (97 ∷ 98 ∷ []) plan k, nat_test.whole (length plan), dead_at_once plan)

-- ---- "makes 5 sets"

-- how many sets one stage made
abbrev count_of : Made → ℕ
count_of (made [] M) = 0
count_of (made (n ∷ ns) M) = n
count_of (refused r) = 0

counted : {S : Type 0} (k n : ℕ) (A : Automaton S) (r : Made) → StageResult narrow k A r → count_of r ≡ suc n → Counts k A (suc n)
counted k n A r (kept_one i N C h s b) e = rw e at C
counted k n A r (too_many_sets c) e = absurd (omega arith)
counted k n A r (too_many_states i N C h s b) e = absurd (omega arith)

five : count_of (concat_stage narrow 3 (all_machine 2) (mark_machine 2)) ≡ 5
unfolding explore explore_from listing turn add_to add classes settle rounds refine firsts smallest smallest_by tabulated smallest_of subset gains pair_test stage keep pair_stage concat_stage star_stage erase_stage line_test form_of read_head read_line check_form evaluate marked_stages context_stages contexts_by union_contexts marked_of erase_and_exclude evaluate_rule compile_form compile_line compile_lines compile_head compile_text compile_book outcome card_of restrict encode marks live live_round live_next load_test contents_test inside_test row_inside marks_test numbered_test reduced_test judge asked distance letters_of marks_of moves_of machine_of unless alphabet_test row_numbered seen across
five = refl

five_sets : Holds (joining 2 5)
five_sets = counted 3 4 _ (concat_stage narrow 3 (all_machine 2) (mark_machine 2)) (joins_exactly narrow 3 (all_machine 2) (mark_machine 2)).right five

-- THE CASES hold.
pub cases_hold : AllHold cases
unfolding explore explore_from listing turn add_to add classes settle rounds refine firsts smallest smallest_by tabulated smallest_of subset gains pair_test stage keep pair_stage concat_stage star_stage erase_stage line_test form_of read_head read_line check_form evaluate marked_stages context_stages contexts_by union_contexts marked_of erase_and_exclude evaluate_rule compile_form compile_line compile_lines compile_head compile_text compile_book outcome card_of restrict encode marks live live_round live_next load_test contents_test inside_test row_inside marks_test numbered_test reduced_test judge asked distance letters_of marks_of moves_of machine_of unless alphabet_test row_numbered seen across
cases_hold =
    first_card_lem and first_judged and refl and refl and nothing_card and always_hopeless_lem and refl and refl and two_judged and five_sets and refl and refl and
    two_card and refl and refl and refl and two_forbidden_lem and two_obliged_lem and refl and refl and refl and mixed_card and mixed_judged and refl and refl and
    refl and refl and refl and refl and refl and refl and refl and refl and refl and refl and refl and refl and refl and refl and refl and refl and refl and
    refl and refl and refl and refl and refl and refl and refl and refl and refl and refl and refl and refl and refl and refl and refl and refl and refl and
    refl and refl and refl and refl and refl and refl and refl and refl and refl and refl and refl and refl and refl and refl and refl and refl and refl and
    refl and refl and refl and refl and refl and refl and refl and refl and refl and refl and refl and refl and none
