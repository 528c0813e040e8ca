-- Laws of what specs/Loads.antt defines.
use Rattle.std.specs.Prelude.{◌≡◌, true, ◌↔◌, List, ◌++◌, ℕ, ◌<◌, length, get_or}
use Rattle.std.proofs.Math.Path.{sym}
use Rattle.std.proofs.Common.{ap, ◌∙◌, arith, ext_get_or}
use Rattle.automata.specs.Automaton.{accepts}
use Rattle.automata.specs.Machine.{Machine, size, automaton, WellFormed}
use Rattle.automata.specs.Minimal.{canonical_smallest, smallest_numbered}
use Rattle.automata.specs.Format.{Format}
use Rattle.card.specs.Mark.{marks, marks_length, marks_sound, marks_only}
use Rattle.automata.specs.Rows.{flat, flat_rows}
use Rattle.card.specs.Number.{Bytes, bytes_of}
use Rattle.card.specs.Layout.{Sound, encode, contents, letter_count, state_count, mark_at, letters_of, marks_of, moves_of, machine_of, Contents, Fits}
use Rattle.card.proofs.LayoutLaws.{letters_length, marks_of_length, moves_length, marks_at, size_is, step_at, card_parts, encode_letter_count, encode_state_count, encode_contents, decode_letters, decode_marks, decode_machine}
use Rattle.card.specs.Alphabet.{columns, spell}
use Rattle.card.proofs.Alphabet.{columns_spell}
use Rattle.card.specs.Load.{load_test, CardInside, Tested, bad_contents, bad_alphabet, transition_out_of_range, not_numbered, wrong_marks, equivalent_states, loaded}
use Rattle.card.proofs.LoadLaws.{tested, tested_only, machine_is_formed}
use Rattle.card.specs.Loads.{Card, CardOf, Loaded, Plans}

pub card_fits : (fmt : Format) (ls : List ℕ) (M : Machine) → Card fmt ls M → Fits fmt ls M
card_fits fmt ls M d = record { formed = d.canonical.formed; letters_least = d.letters_least; letters_most = d.letters_most; states_most = d.states_most }

pub load_loaded : (fmt : Format) (c : List ℕ) → load_test fmt c ≡ 0 → Loaded fmt c
load_loaded fmt c e = go (load_test fmt c) e (tested fmt c)
  where
    go : (v : ℕ) → v ≡ 0 → Tested fmt c v → Loaded fmt c
    go v z (bad_contents f) = absurd (omega arith)
    go v z (bad_alphabet r f) = absurd (omega arith)
    go v z (transition_out_of_range r a p i h b x) = absurd (omega arith)
    go v z (not_numbered r a i f) = absurd (omega arith)
    go v z (wrong_marks r a i n p h f) = absurd (omega arith)
    go v z (equivalent_states r a i n m p q hp hq d k) = absurd (omega arith)
    go v z (loaded r a i n m x) = record { contents = r; alphabet = a; inside = i; numbered = n; marked = m; apart = x }

pub loaded_load : (fmt : Format) (c : List ℕ) → Loaded fmt c → load_test fmt c ≡ 0
loaded_load fmt c l = tested_only fmt c 0 (loaded l.contents l.alphabet l.inside l.numbered l.marked l.apart)

-- ---- a loaded card is the encoding of what it decodes to

module _ (fmt : Format) (c : List ℕ) (l : Loaded fmt c) where
  pub loaded_formed : WellFormed (letter_count fmt c) (machine_of fmt c)
  loaded_formed = machine_is_formed fmt c l.contents l.inside

  pub loaded_marks : marks_of fmt c ≡ marks (letter_count fmt c) (machine_of fmt c)
  loaded_marks = ext_get_or 0 (marks_of fmt c) (marks (letter_count fmt c) (machine_of fmt c))
      (marks_of_length fmt c l.contents ∙ sym (marks_length (letter_count fmt c) (machine_of fmt c) ∙ size_is fmt c l.contents))
      λ p b. at p (rw (marks_of_length fmt c l.contents) at b)
    where
      at : (p : ℕ) → p < state_count fmt c → get_or (marks_of fmt c) p 0 ≡ get_or (marks (letter_count fmt c) (machine_of fmt c)) p 0
      at p h = marks_at fmt c l.contents p h
          ∙ marks_only (letter_count fmt c) (machine_of fmt c) loaded_formed p (rw (size_is fmt c l.contents) h) (mark_at fmt c p) (l.marked p h)

  pub loaded_card : Card fmt (letters_of fmt c) (machine_of fmt c)
  loaded_card = record {
    alphabet = l.alphabet;
    canonical = rw len record { formed = loaded_formed; numbered = l.numbered; apart = l.apart };
    letters_least = rw len l.contents.letters_least;
    letters_most = rw len l.contents.letters_most;
    states_most = rw (size_is fmt c l.contents) l.contents.states_most;
  }
    where
      len : length (letters_of fmt c) ≡ letter_count fmt c
      len = letters_length fmt c l.contents

  pub loaded_encode : Bytes c → c ≡ encode fmt (letters_of fmt c) (machine_of fmt c)
  unfolding encode
  loaded_encode bytes = card_parts fmt c l.contents bytes
      ∙ (λ i. contents fmt (sym (letters_length fmt c l.contents) i) (sym (size_is fmt c l.contents) i) ++ (letters_of fmt c ++ (marks≡ i ++ bytes_of fmt.move_bytes (moves≡ i))))
    where
      marks≡ : marks_of fmt c ≡ marks (length (letters_of fmt c)) (machine_of fmt c)
      marks≡ = rw (letters_length fmt c l.contents) loaded_marks

      moves≡ : moves_of fmt c ≡ flat (machine_of fmt c).moves
      moves≡ = unfold machine_of in sym (flat_rows (state_count fmt c) (letter_count fmt c) (moves_of fmt c) (moves_length fmt c))

-- ---- an encoding loads

module _ (fmt : Format) (s : Sound fmt) (ls : List ℕ) (M : Machine) (d : Card fmt ls M) where
  abbrev c : List ℕ
  c = encode fmt ls M

  f : Fits fmt ls M
  f = card_fits fmt ls M d

  pub encode_loaded : Loaded fmt (encode fmt ls M)
  encode_loaded = record {
    contents = r;
    alphabet = rw (decode_letters fmt s ls M f) d.alphabet;
    inside = inside;
    numbered = rw (encode_letter_count fmt s ls M f, decode_machine fmt s ls M f) d.canonical.numbered;
    marked = λ p h. rw (mark p h, encode_letter_count fmt s ls M f, decode_machine fmt s ls M f)
        (marks_sound (length ls) M d.canonical.formed p (rw (encode_state_count fmt s ls M f) at h));
    apart = rw (encode_letter_count fmt s ls M f, decode_machine fmt s ls M f) d.canonical.apart;
  }
    where
      r : Contents fmt c
      r = encode_contents fmt s ls M f

      inside : CardInside fmt c
      inside p i h b =
          let t : (automaton M).step p i < size M = d.canonical.formed.inside p i (rw (encode_state_count fmt s ls M f) at h) (rw (encode_letter_count fmt s ls M f) at b) in
          rw (← step_at fmt c p i h b, decode_machine fmt s ls M f, encode_state_count fmt s ls M f) t

      mark : (p : ℕ) → p < state_count fmt c → mark_at fmt c p ≡ get_or (marks (length ls) M) p 0
      mark p h = sym (marks_at fmt c r p h) ∙ ap (λ l. get_or l p 0) (decode_marks fmt s ls M f)

  pub encode_loads : load_test fmt (encode fmt ls M) ≡ 0
  encode_loads = loaded_load fmt (encode fmt ls M) encode_loaded

-- THE BYTES THAT LOAD are the encodings of canonical machines.
pub loads_iff : (fmt : Format) → Sound fmt → (c : List ℕ) → Bytes c → (load_test fmt c ≡ 0) ↔ ((ls : List ℕ) × (M : Machine) × Card fmt ls M × (c ≡ encode fmt ls M))
loads_iff fmt s c bytes = (
  λ e. let l = load_loaded fmt c e in (letters_of fmt c, machine_of fmt c, loaded_card fmt c l, loaded_encode fmt c l bytes),
  λ t. rw t.3 (encode_loads fmt s t.0 t.1 t.2),
)

-- ---- in the words of demand 2

pub card_of_card : (fmt : Format) (P : Plans) (c : List ℕ) (s : CardOf fmt P c) → Card fmt s.letters s.machine
card_of_card fmt P c s = record {
  alphabet = s.alphabet;
  canonical = smallest_numbered (length s.letters) s.machine (λ w. P (spell s.letters w)) s.smallest s.numbered;
  letters_least = s.letters_least;
  letters_most = s.letters_most;
  states_most = s.states_most;
}

-- DEMAND 2: "A board loads exactly those bytes that are the numbered smallest machine, within 26 letters and 120 states, of some set of plans."
pub loads_smallest : (fmt : Format) → Sound fmt → (c : List ℕ) → Bytes c → (load_test fmt c ≡ 0) ↔ ((P : Plans) × CardOf fmt P c)
loads_smallest fmt s c bytes = (to, λ t. rw t.1.bytes (encode_loads fmt s t.1.letters t.1.machine (card_of_card fmt t.0 c t.1)))
  where
    to : load_test fmt c ≡ 0 → (P : Plans) × CardOf fmt P c
    to e = (
      P,
      record {
        letters = ls;
        machine = M;
        alphabet = d.alphabet;
        letters_least = d.letters_least;
        letters_most = d.letters_most;
        states_most = d.states_most;
        smallest = canonical_smallest (length ls) M (λ w. P (spell ls w)) d.canonical (λ w o. rw (columns_spell ls d.alphabet w o) (λ x. x, λ x. x));
        numbered = d.canonical.numbered;
        bytes = loaded_encode fmt c l bytes;
      },
    )
      where
        l : Loaded fmt c
        l = load_loaded fmt c e

        ls : List ℕ
        ls = letters_of fmt c

        M : Machine
        M = machine_of fmt c

        d : Card fmt ls M
        d = loaded_card fmt c l

        P : Plans
        P plan = accepts (automaton M) (columns ls plan) ≡ true
