-- Laws of what specs/Demands.antt defines.
use Rattle.std.specs.Prelude.{◌≡◌, refl, true, ◌↔◌, ◌⊎◌, ◌≢◌, List, ℕ, zero, suc, ◌≤◌, length}
use Rattle.std.proofs.Common.{sym, ap, ap₂, ◌∙◌, subst, inl, inr, arith}
use Rattle.automata.specs.Format.{Format}
use Rattle.automata.specs.Booleans.{bool_iff, and_left, and_right, and_both}
use Rattle.automata.specs.Machine.{size}
use Rattle.language.specs.Language.{all_words, all_words_whole, all_words_sound}
use Rattle.language.specs.Matches.{obeys, Obeys}
use Rattle.language.proofs.Matches.{obeys_sound, obeys_whole}
use Rattle.card.specs.Number.{Bytes}
use Rattle.card.specs.Layout.{Sound, letter_count, state_count}
use Rattle.card.proofs.LayoutLaws.{encode_letter_count, encode_state_count}
use Rattle.card.specs.Alphabet.{columns, Known}
use Rattle.card.specs.Load.{load_test}
use Rattle.card.specs.Loads.{Plans, CardOf}
use Rattle.card.proofs.Loads.{card_fits, card_of_card, loads_smallest}
use Rattle.card.specs.Answer.{Loading, holds, rejected, load, load_holds, load_rejected}
use Rattle.card.specs.Judge.{card_allows}
use Rattle.card.specs.Demand.{Demand3}
use Rattle.card.proofs.Demand.{demand_3, card_bytes}
use Rattle.book.specs.Text.{lines_of}
use Rattle.compiler.specs.Allows.{book_letters, book_rules, allows}
use Rattle.compiler.specs.Outcome.{Outcome, card, stop, outcome, buffer_after}
use Rattle.compiler.specs.Table.{Outcomes}
use Rattle.compiler.proofs.Table.{outcomes, outcomes_only}
use Rattle.promises.proofs.Accepted.{accepted, compiled}
use Rattle.promises.specs.PlanCuts.{EveryRule}
use Rattle.promises.proofs.PlanCuts.{every_rule}
use Rattle.promises.specs.Demands.{SmallestCard, book_allows}

nat_cases : (n : ℕ) → (n ≡ 0) ⊎ (n ≢ 0)
nat_cases zero = inl refl
nat_cases (suc n) = inr (λ e. omega arith)

-- ---- demand 1: compiling

-- "with a result or a numbered refusal from document 01; a refusal comes in exactly the case named there": the answer is the table's, and no other is.
pub compile_answers : (fmt : Format) (needs text lent : List ℕ) (room : ℕ) (o : Outcome) → (outcome fmt needs text lent room ≡ o) ↔ Outcomes fmt needs text lent room o
compile_answers fmt needs text lent room o = (
  λ e. subst (Outcomes fmt needs text lent room) e (outcomes fmt needs text lent room),
  λ s. outcomes_only fmt needs text lent room o s,
)

-- "and leaves the card buffer untouched"
pub refusal_untouched : (fmt : Format) (needs text lent : List ℕ) (room : ℕ) (r at : ℕ) → outcome fmt needs text lent room ≡ stop r at → (old : List ℕ) → buffer_after (outcome fmt needs text lent room) old ≡ old
refusal_untouched fmt needs text lent room r at e old = rw e

-- An accepted book, where the given `.*` fits and a card may have as few letters as the book: in today's format it may have none.
module _ (fmt : Format) (s : Sound fmt) (two : 2 ≤ fmt.most_states) (needs text lent : List ℕ) (room : ℕ) (c : List ℕ) (peak : ℕ)
    (e : outcome fmt needs text lent room ≡ card c peak) (some : fmt.least_letters ≤ length (book_letters (lines_of text))) where
  abbrev ls : List ℕ
  ls = book_letters (lines_of text)

  -- ---- demand 3

  -- DEMAND 3 for one book: the card loads; every plan of its letters is judged as the book says; no complete deterministic machine is smaller; every
  -- card of these letters that allows the same plans is this very card.
  pub demand_three : Demand3 fmt (book_letters (lines_of text)) (book_allows text) c
  demand_three = subst (Demand3 fmt ls (book_allows text)) (sym (accepted fmt needs text lent room c peak e).bytes)
      (demand_3 fmt s ls (allows text) (accepted fmt needs text lent room c peak e).draft.kept (compiled fmt needs text lent room c peak e two some))

  pub accepted_bytes : Bytes c
  accepted_bytes = subst Bytes (sym (accepted fmt needs text lent room c peak e).bytes)
      (card_bytes fmt s ls (allows text) (accepted fmt needs text lent room c peak e).draft.kept (compiled fmt needs text lent room c peak e two some))

  -- ---- demand 2

  -- DEMAND 2: "The card of an accepted book allows a plan of its letters exactly when, for every rule in the book and every cut of the plan into left,
  -- middle and right with the middle in the rule's pattern, one listed context has both that left and that right." Of the sister rules, what their kind
  -- demands of the cuts: "A book allows what all three kinds allow".
  pub demand_two : (plan : List ℕ) → Known (book_letters (lines_of text)) plan → (card_allows fmt c plan ≡ true) ↔ Obeys (book_rules (lines_of text)) (columns (book_letters (lines_of text)) plan)
  demand_two plan k = (
    λ t. obeys_sound (book_rules (lines_of text)) w (and_right (all_words (length ls) w) (obeys (book_rules (lines_of text)) w) (sym (demand_three.plans plan) ∙ t)),
    λ o. demand_three.plans plan ∙ and_both (all_words (length ls) w) (obeys (book_rules (lines_of text)) w) (all_words_whole (length ls) w k) (obeys_whole (book_rules (lines_of text)) w o),
  )
    where
      w : List ℕ
      w = columns (book_letters (lines_of text)) plan

  -- The same in the plan's own bytes: "every cut of the plan", v, x, y, and the sets asked of v, x and y.
  pub demand_two_cuts : (plan : List ℕ) → Known (book_letters (lines_of text)) plan → (card_allows fmt c plan ≡ true) ↔ EveryRule (book_letters (lines_of text)) (book_rules (lines_of text)) plan
  demand_two_cuts plan k =
      let d = demand_two plan k in
      let r = every_rule (book_letters (lines_of text)) (book_rules (lines_of text)) plan in
      (λ t. r.0 (d.0 t), λ o. d.1 (r.1 o))

-- ---- demand 2, the board

-- "A board loads exactly those bytes that are the numbered smallest machine, within 26 letters and 120 states, of some set of plans."
pub demand_two_board : (fmt : Format) → Sound fmt → (c : List ℕ) → Bytes c → (m n : ℕ) → (load fmt c ≡ holds m n) ↔ SmallestCard fmt m n c
demand_two_board fmt s c b m n = (to, back)
  where
    -- what the contents of such a card say
    letters : (P : Plans) (k : CardOf fmt P c) → letter_count fmt c ≡ length k.letters
    letters P k = ap (letter_count fmt) k.bytes ∙ encode_letter_count fmt s k.letters k.machine (card_fits fmt k.letters k.machine (card_of_card fmt P c k))

    states : (P : Plans) (k : CardOf fmt P c) → state_count fmt c ≡ size k.machine
    states P k = ap (state_count fmt) k.bytes ∙ encode_state_count fmt s k.letters k.machine (card_fits fmt k.letters k.machine (card_of_card fmt P c k))

    holding : Loading → ℕ × ℕ
    holding (holds m n) = (m, n)
    holding (rejected r) = (m, n)

    loaded : load_test fmt c ≡ 0 → load fmt c ≡ holds m n → SmallestCard fmt m n c
    loaded z e =
        let (P, k) = (loads_smallest fmt s c b).0 z in
        let h : ◌≡◌ {A = ℕ × ℕ} (letter_count fmt c, state_count fmt c) (m, n) = ap holding (sym (load_holds fmt c z) ∙ e) in
        (P, k, sym (letters P k) ∙ ap (λ q. q.0) h, sym (states P k) ∙ ap (λ q. q.1) h)

    to : load fmt c ≡ holds m n → SmallestCard fmt m n c
    to e = go (nat_cases (load_test fmt c))
      where
        go : (load_test fmt c ≡ 0) ⊎ (load_test fmt c ≢ 0) → SmallestCard fmt m n c
        go (inl z) = loaded z e
        go (inr f) = let z : ◌≡◌ {A = ℕ} 0 1 = cc (sym (load_rejected fmt c f) ∙ e) in absurd (omega arith)

    back : SmallestCard fmt m n c → load fmt c ≡ holds m n
    back (P, k, l, t) = load_holds fmt c ((loads_smallest fmt s c b).1 (P, k)) ∙ ap₂ holds (letters P k ∙ l) (states P k ∙ t)

-- ---- demand 3, two books

-- "Every accepted book with the same letters that allows the same plans, whatever its lent buffers held, gives this very card, byte for byte."
pub same_card : (fmt : Format) → Sound fmt → 2 ≤ fmt.most_states → (needs text lent : List ℕ) (room : ℕ) (c : List ℕ) (peak : ℕ) → outcome fmt needs text lent room ≡ card c peak
    → fmt.least_letters ≤ length (book_letters (lines_of text)) → (text' lent' : List ℕ) (room' : ℕ) (c' : List ℕ) (peak' : ℕ) → outcome fmt needs text' lent' room' ≡ card c' peak'
    → book_letters (lines_of text) ≡ book_letters (lines_of text') → ((plan : List ℕ) → Known (book_letters (lines_of text)) plan → book_allows text plan ≡ book_allows text' plan) → c ≡ c'
same_card fmt s two needs text lent room c peak e some text' lent' room' c' peak' e' letters plans =
    D.one c' (accepted_bytes fmt s two needs text' lent' room' c' peak' e' some') D'.loads (D'.letters ∙ sym letters) (λ plan. D'.plans plan ∙ sym (all plan))
  where
    D : Demand3 fmt (book_letters (lines_of text)) (book_allows text) c
    D = demand_three fmt s two needs text lent room c peak e some

    some' : fmt.least_letters ≤ length (book_letters (lines_of text'))
    some' = subst (λ l. fmt.least_letters ≤ length l) letters some

    D' : Demand3 fmt (book_letters (lines_of text')) (book_allows text') c'
    D' = demand_three fmt s two needs text' lent' room' c' peak' e' some'

    -- a plan that a book allows is of its letters
    own : (text plan : List ℕ) → book_allows text plan ≡ true → Known (book_letters (lines_of text)) plan
    own text plan t =
        let w = columns (book_letters (lines_of text)) plan in
        all_words_sound (length (book_letters (lines_of text))) w (and_left (all_words (length (book_letters (lines_of text))) w) (obeys (book_rules (lines_of text)) w) t)

    all : (plan : List ℕ) → book_allows text plan ≡ book_allows text' plan
    all plan = bool_iff (book_allows text plan) (book_allows text' plan) (λ t. sym (plans plan (own text plan t)) ∙ t)
        (λ t. plans plan (subst (λ l. Known l plan) (sym letters) (own text' plan t)) ∙ t)
