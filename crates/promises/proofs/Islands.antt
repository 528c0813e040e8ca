-- "Two islands have no port rules and still mount a board.": a text of no bytes, a book without rules, and the boards that were mounted before.
use Rattle.std.specs.Prelude.{◌≡◌, true, false, ◌&&◌, ◌↔◌, List, [], ℕ, ◌≤◌, ◌<◌, length}
use Rattle.std.proofs.Math.Path.{refl}
use Rattle.std.proofs.Common.{sym, ap, ◌∙◌, subst, inl, inr, arith}
use Rattle.automata.specs.Booleans.{and_true}
use Rattle.automata.specs.Basics.{lt_ltb, ltb_false}
use Rattle.automata.specs.Format.{Format, narrow}
use Rattle.automata.specs.Given.{all_machine}
use Rattle.automata.specs.Listing.{listing, turn, add_to, add}
use Rattle.automata.specs.Live.{live, live_round, live_next}
use Rattle.automata.specs.Restrict.{restrict}
use Rattle.automata.specs.Partition.{classes, settle, rounds, refine, firsts}
use Rattle.automata.specs.Smallest.{smallest, smallest_by, smallest_of, tabulated}
use Rattle.language.specs.Language.{all_words, all_words_sound, all_words_whole}
use Rattle.language.specs.GivenLaws.{all_recognizes, all_size}
use Rattle.language.specs.Matches.{obeys}
use Rattle.card.specs.Number.{Bytes}
use Rattle.card.specs.Mark.{marks}
use Rattle.card.specs.Layout.{Sound, narrow_sound, encode}
use Rattle.card.specs.Alphabet.{columns, Known}
use Rattle.card.specs.Answer.{load, holds, rejected}
use Rattle.card.specs.Reply.{answered}
use Rattle.card.specs.Judge.{judge}
use Rattle.card.specs.Verdict.{allowed, is_allowed}
use Rattle.card.specs.Same.{card_of}
use Rattle.card.specs.Demand.{Demand3, Compiled}
use Rattle.card.proofs.Demand.{demand_3, card_bytes}
use Rattle.card.specs.MountedVerdict.{MountedDemand3}
use Rattle.card.proofs.MountedVerdict.{mounted_demand}
use Rattle.card.specs.Mounted.{mounted}
use Rattle.card.proofs.Mounted.{mounted_sound, mounted_rejects}
use Rattle.card.specs.NoLetters.{no_letters}
use Rattle.card.proofs.NoLetters.{no_letters_load, no_letters_bytes}
use Rattle.book.specs.Text.{lines_of}
use Rattle.compiler.specs.Allows.{book_letters, book_rules, allows}
use Rattle.compiler.specs.Book.{compile_text, compile_book}
use Rattle.compiler.specs.BookStages.{Stage, StageOf, Attained}
use Rattle.compiler.specs.Outcome.{card, stop, enough, outcome}
use Rattle.promises.proofs.Accepted.{accepted, compiled, alphabet, letters_most, letters_some, peak_of_stages}
use Rattle.promises.specs.Demands.{book_allows, SmallestCard}
use Rattle.promises.proofs.Demands.{demand_three, demand_two_board}
use Rattle.promises.proofs.Today.{board_loads}

-- ---- a text of no bytes

-- the card of `.*` over no letters
no_bytes_card : card_of narrow [] (all_machine 0) ≡ no_letters 1
unfolding card_of encode restrict smallest smallest_by smallest_of tabulated listing turn add_to add marks live live_round live_next classes settle rounds refine firsts
no_bytes_card = refl

module _ (needs lent : List ℕ) (room : ℕ) where
  -- "A text of no bytes gives the card with m = 0, one state, marks 01, no moves, with peak 0"; 2 and 11 come before it.
  pub empty_text : enough needs lent ≡ true → length (no_letters 1) ≤ room → outcome narrow needs [] lent room ≡ card (no_letters 1) 0
  unfolding outcome compile_book compile_text
  empty_text e h = rw (e, no_bytes_card, ltb_false room (length (no_letters 1)) h)

  pub empty_lent : enough needs lent ≡ false → outcome narrow needs [] lent room ≡ stop 2 0
  unfolding outcome
  empty_lent e = rw e

  pub empty_room : enough needs lent ≡ true → room < length (no_letters 1) → outcome narrow needs [] lent room ≡ stop 11 0
  unfolding outcome compile_book compile_text
  empty_room e h = rw (e, no_bytes_card, lt_ltb room (length (no_letters 1)) h)

-- "The guarantee about smallest cards includes both": each of the two cards without letters is that of the numbered smallest machine of some set of plans.
pub no_letters_smallest : SmallestCard narrow 0 1 (no_letters 1) × SmallestCard narrow 0 1 (no_letters 2)
no_letters_smallest = (
  (board_loads (no_letters 1) no_letters_bytes.0 0 1).0 no_letters_load.0,
  (board_loads (no_letters 2) no_letters_bytes.1 0 1).0 no_letters_load.1,
)

-- ---- a book without rules

module _ (fmt : Format) (s : Sound fmt) (two : 2 ≤ fmt.most_states) (needs text lent : List ℕ) (room : ℕ) (c : List ℕ) (peak : ℕ)
    (e : outcome fmt needs text lent room ≡ card c peak) (some : fmt.least_letters ≤ length (book_letters (lines_of text))) (none : book_rules (lines_of text) ≡ []) where
  abbrev ls : List ℕ
  ls = book_letters (lines_of text)

  D : Demand3 fmt ls (book_allows text) c
  D = demand_three fmt s two needs text lent room c peak e some

  -- it allows every plan of its letters, and no other row of bytes
  all_allowed : (plan : List ℕ) → book_allows text plan ≡ all_words (length ls) (columns ls plan)
  all_allowed plan = ap (λ rs. all_words (length ls) (columns ls plan) && obeys rs (columns ls plan)) none ∙ and_true (all_words (length ls) (columns ls plan))

  whole : Compiled fmt ls (all_words (length ls)) (all_machine (length ls))
  whole = record {
    alphabet = alphabet fmt needs text lent room c peak e;
    letters_least = some;
    letters_most = letters_most fmt needs text lent room c peak e;
    states_most = omega (arith, all_size (length ls), two);
    canonical = (all_recognizes (length ls)).canonical;
    exact = (all_recognizes (length ls)).exact;
    letters = all_words_sound (length ls);
  }

  W : Demand3 fmt ls (λ plan. all_words (length ls) (columns ls plan)) (card_of fmt ls (all_machine (length ls)))
  W = demand_3 fmt s ls (all_words (length ls)) (all_machine (length ls)) whole

  -- "A book of line 1 and definitions only now gives the card that allows everything": that of `.*` over its letters,
  pub no_rules_card : c ≡ card_of fmt ls (all_machine (length ls))
  no_rules_card = D.one (card_of fmt ls (all_machine (length ls))) (card_bytes fmt s ls (all_words (length ls)) (all_machine (length ls)) whole) W.loads W.letters
      (λ plan. W.plans plan ∙ sym (all_allowed plan))

  -- by which every plan of its letters is allowed.
  pub no_rules_allowed : (plan : List ℕ) → Known (book_letters (lines_of text)) plan → judge fmt c plan ≡ answered allowed
  no_rules_allowed plan k =
      let J = D.verdicts plan k in
      J.replied ∙ ap answered (sym (J.only allowed (is_allowed (all_allowed plan ∙ all_words_whole (length ls) (columns ls plan) k))))

-- "with the peak of its definitions, 0 if they made no set": the peak is that of the book's stages (`peak_of_stages`), which are those of its lines.
pub no_stage_peak : (fmt : Format) (needs text lent : List ℕ) (room : ℕ) (c : List ℕ) (peak : ℕ) → outcome fmt needs text lent room ≡ card c peak
    → ((s : Stage) → ¬ StageOf text s) → peak ≡ 0
no_stage_peak fmt needs text lent room c peak e f = go (peak_of_stages fmt needs text lent room c peak e).reached
  where
    go : Attained text peak → peak ≡ 0
    go (inl (s, x, r)) = absurd (f s x)
    go (inr (g, z)) = z

-- For today's cards nothing is left to assume but that compiling answered a card and the book has no rule.
module _ (needs text lent : List ℕ) (room : ℕ) (c : List ℕ) (peak : ℕ) (e : outcome narrow needs text lent room ≡ card c peak) (none : book_rules (lines_of text) ≡ []) where
  pub no_rules_card_today : c ≡ card_of narrow (book_letters (lines_of text)) (all_machine (length (book_letters (lines_of text))))
  no_rules_card_today = no_rules_card narrow narrow_sound (omega arith) needs text lent room c peak e (omega arith) none

  pub no_rules_allowed_today : (plan : List ℕ) → Known (book_letters (lines_of text)) plan → judge narrow c plan ≡ answered allowed
  no_rules_allowed_today = no_rules_allowed narrow narrow_sound (omega arith) needs text lent room c peak e (omega arith) none

-- ---- mounted boards

module _ (needs text lent : List ℕ) (room : ℕ) (c : List ℕ) (peak : ℕ) (e : outcome narrow needs text lent room ≡ card c peak) where
  -- "mounted ones refuse m = 0 by 21, so for such a card the third demand means a board from this year": every accepted text with a byte keeps demand 3 on the
  -- boards that were mounted before W2 too, whose verdicts have no number. Those mounted after them take every accepted text (Owed.antt, `mounted_since`).
  pub mounted_keeps_demand : 1 ≤ length text → MountedDemand3 mounted (book_letters (lines_of text)) (book_allows text) c
  mounted_keeps_demand h = mounted_demand mounted ls (book_allows text) c (subst (Demand3 mounted ls (book_allows text)) (same ∙ sym (accepted narrow needs text lent room c peak e).bytes)
      (demand_3 mounted mounted_sound ls (allows text) (accepted narrow needs text lent room c peak e).draft.kept as_before))
    where
      ls : List ℕ
      ls = book_letters (lines_of text)

      K : Compiled narrow ls (allows text) (accepted narrow needs text lent room c peak e).draft.kept
      K = compiled narrow needs text lent room c peak e (omega arith) (omega arith)

      as_before : Compiled mounted ls (allows text) (accepted narrow needs text lent room c peak e).draft.kept
      as_before = record {
        alphabet = K.alphabet;
        letters_least = letters_some narrow needs text lent room c peak e h;
        letters_most = K.letters_most;
        states_most = K.states_most;
        canonical = K.canonical;
        exact = K.exact;
        letters = K.letters;
      }

      same : card_of mounted ls (accepted narrow needs text lent room c peak e).draft.kept ≡ card_of narrow ls (accepted narrow needs text lent room c peak e).draft.kept
      same = unfold card_of encode in refl

-- "mounted ones refuse m = 0 by 21": the card of a text of no bytes.
pub mounted_refuses_empty : load mounted (no_letters 1) ≡ rejected 21
mounted_refuses_empty = mounted_rejects (no_letters 1) refl

-- Demand 2 of mounted boards: they load exactly the numbered smallest machines of 1 to 26 letters.
pub mounted_board_loads : (c : List ℕ) → Bytes c → (m n : ℕ) → (load mounted c ≡ holds m n) ↔ SmallestCard mounted m n c
mounted_board_loads c b = demand_two_board mounted mounted_sound c b
