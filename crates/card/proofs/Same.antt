-- Laws of what specs/Same.antt defines.
use Rattle.std.specs.Prelude.{◌≡◌, true, ◌↔◌, List, ℕ, suc, ◌≤◌, length}
use Rattle.std.proofs.Math.Path.{sym}
use Rattle.std.proofs.Common.{ap, ap₂, ◌∙◌, le_trans}
use Rattle.automata.specs.Automaton.{Automaton, accepts}
use Rattle.automata.specs.Machine.{Machine, size, automaton, Canonical, unique, minimal_numbers}
use Rattle.automata.specs.Minimal.{Complete}
use Rattle.automata.specs.Restrict.{restrict, Unmarked}
use Rattle.automata.proofs.Restrict.{restrict_canonical, restrict_size, restrict_words}
use Rattle.automata.specs.Format.{Format}
use Rattle.card.specs.Number.{Bytes}
use Rattle.card.specs.Layout.{Sound, encode, letters_of, machine_of, state_count}
use Rattle.card.proofs.LayoutLaws.{size_is, decode_letters, decode_machine}
use Rattle.card.specs.Alphabet.{Alphabet, columns, Known, spell}
use Rattle.card.proofs.Alphabet.{columns_spell}
use Rattle.card.specs.Load.{load_test}
use Rattle.card.specs.Loads.{Card, Loaded}
use Rattle.card.proofs.Loads.{card_fits, load_loaded, loaded_card, loaded_encode, encode_loads}
use Rattle.card.proofs.Write.{encode_bytes}
use Rattle.card.specs.Allowed.{allows}
use Rattle.card.proofs.Allowed.{allows_known, allows_iff, allows_spell}
use Rattle.card.specs.Judge.{card_allows}
use Rattle.card.specs.Same.{card_of}

-- Machines over the same letters that allow the same plans are the same.
pub machine_one : (fmt : Format) (ls : List ℕ) (M N : Machine) → Card fmt ls M → Card fmt ls N → ((plan : List ℕ) → allows ls M plan ≡ allows ls N plan) → M ≡ N
machine_one fmt ls M N d e same = unique (length ls) M N d.canonical e.canonical
    λ w o. sym (allows_spell ls M d.alphabet w o) ∙ same (spell ls w) ∙ allows_spell ls N d.alphabet w o

-- "same plans and letters give the same bytes"
pub same_bytes : (fmt : Format) (c d : List ℕ) → Bytes c → Bytes d → load_test fmt c ≡ 0 → load_test fmt d ≡ 0 → letters_of fmt c ≡ letters_of fmt d
    → ((plan : List ℕ) → card_allows fmt c plan ≡ card_allows fmt d plan) → c ≡ d
same_bytes fmt c d bc bd zc zd e same = loaded_encode fmt c lc bc ∙ ap₂ (encode fmt) e (machine_one fmt (letters_of fmt d) (machine_of fmt c) (machine_of fmt d) kc (loaded_card fmt d ld) also) ∙ sym (loaded_encode fmt d ld bd)
  where
    lc : Loaded fmt c
    lc = load_loaded fmt c zc

    ld : Loaded fmt d
    ld = load_loaded fmt d zd

    kc : Card fmt (letters_of fmt d) (machine_of fmt c)
    kc = rw e at (loaded_card fmt c lc)

    also : (plan : List ℕ) → allows (letters_of fmt d) (machine_of fmt c) plan ≡ allows (letters_of fmt d) (machine_of fmt d) plan
    also plan = ap (λ ls. allows ls (machine_of fmt c) plan) (sym e) ∙ same plan

-- "every other complete deterministic machine over those letters that allows the same plans has at least as many states as the card":
-- B has the states below m, any start among them, and any moves between them.
pub card_least : (fmt : Format) (c : List ℕ) → load_test fmt c ≡ 0 → (B : Automaton ℕ) (m : ℕ) → Complete (length (letters_of fmt c)) m B
    → ((plan : List ℕ) → Known (letters_of fmt c) plan → accepts B (columns (letters_of fmt c) plan) ≡ card_allows fmt c plan) → state_count fmt c ≤ m
card_least fmt c z B m k same =
    rw (← size_is fmt c l.contents)
    (minimal_numbers (length ls) M d.canonical B m k.begins k.stays
    λ w o. sym (allows_spell ls M d.alphabet w o) ∙ sym (same (spell ls w) (rw (columns_spell ls d.alphabet w o) o)) ∙ ap (accepts B) (columns_spell ls d.alphabet w o))
  where
    l : Loaded fmt c
    l = load_loaded fmt c z

    ls : List ℕ
    ls = letters_of fmt c

    M : Machine
    M = machine_of fmt c

    d : Card fmt ls M
    d = loaded_card fmt c l

-- DEMAND 2, plans: the card of letters and a machine allows just the plans of these letters whose columns the machine accepts.
pub encode_allows : (fmt : Format) → Sound fmt → (ls : List ℕ) (M : Machine) → Card fmt ls M → (plan : List ℕ)
    → (card_allows fmt (encode fmt ls M) plan ≡ true) ↔ (Known ls plan × (accepts (automaton M) (columns ls plan) ≡ true))
encode_allows fmt s ls M d plan = rw (decode_letters fmt s ls M (card_fits fmt ls M d), decode_machine fmt s ls M (card_fits fmt ls M d)) (allows_iff ls M plan)

-- ---- the card of a kept machine

module _ (fmt : Format) (s : Sound fmt) (ls : List ℕ) (M : Machine) (a : Alphabet ls) (some : fmt.least_letters ≤ length ls) (most : length ls ≤ fmt.most_letters)
    (C : Canonical (suc (length ls)) M) (U : Unmarked (length ls) M) (n : size M ≤ fmt.most_states) where
  pub card_of_card_lem : Card fmt ls (restrict (length ls) M)
  card_of_card_lem = record {
    alphabet = a;
    canonical = restrict_canonical (length ls) M C U;
    letters_least = some;
    letters_most = most;
    states_most = le_trans (restrict_size (length ls) M C.formed) n;
  }

  -- The board loads it,
  pub card_of_loads : load_test fmt (card_of fmt ls M) ≡ 0
  unfolding card_of
  card_of_loads = encode_loads fmt s ls (restrict (length ls) M) card_of_card_lem

  -- it is bytes,
  pub card_of_bytes : Bytes (card_of fmt ls M)
  unfolding card_of
  card_of_bytes = encode_bytes fmt ls (restrict (length ls) M) a

  -- it has the letters,
  pub card_of_letters : letters_of fmt (card_of fmt ls M) ≡ ls
  unfolding card_of
  card_of_letters = decode_letters fmt s ls (restrict (length ls) M) (card_fits fmt ls (restrict (length ls) M) card_of_card_lem)

  -- and it allows the plans that the machine accepts.
  pub card_of_allows : (plan : List ℕ) → Known ls plan → card_allows fmt (card_of fmt ls M) plan ≡ accepts (automaton M) (columns ls plan)
  unfolding card_of
  card_of_allows plan o =
      rw (decode_letters fmt s ls (restrict (length ls) M) (card_fits fmt ls (restrict (length ls) M) card_of_card_lem), decode_machine fmt s ls (restrict (length ls) M) (card_fits fmt ls (restrict (length ls) M) card_of_card_lem))
      (allows_known ls (restrict (length ls) M) plan o ∙ sym (restrict_words (length ls) M C.formed (columns ls plan) o))
