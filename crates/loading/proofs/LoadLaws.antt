-- The load test of a card from its parts: its letters, its moves, and the machine that its bytes hold.
use mathlib.Core.Path.{◌≡◌, refl, sym, ap, subst, ◌∙◌}
use mathlib.Core.Bool.{Bool, true, false, not, true≢false, false≢true}
use mathlib.Core.Logic.{◌⊎◌, inl, inr, ◌↔◌}
use mathlib.Core.List.{List}
use Prim.Native.Nat.{ℕ, zero, suc, ◌+◌, ◌*◌, ◌/◌, ◌%◌, ◌≤◌, ◌<◌}
use native.Mathlib.Nat.{not-suc-le-zero}
use native.Mathlib.Numerals.{add-one}
use native.Mathlib.Omega.{arith}
use lib.ListN.{length, get_or}
use Rattle.automata.specs.Booleans.{bool_cases, not_true}
use Rattle.automata.specs.Basics.{LtCases, lt_cases}
use Rattle.automata.specs.Decide.{unless, contradict}
use Rattle.automata.specs.Format.{Format, narrow}
use Rattle.automata.specs.Rows.{cell_below}
use Rattle.automata.specs.NumberingTest.{numbered_whole}
use Rattle.automata.specs.ReducedTest.{reduced_test}
use Rattle.card.specs.Layout.{letter_count, state_count, mark_at, letters_of, marks_of, moves_of, machine_of, Contents}
use Rattle.card.proofs.LayoutLaws.{contents_whole}
use Rattle.card.specs.Mark.{Mark}
use Rattle.card.specs.Alphabet.{Alphabet, alphabet_test}
use Rattle.card.proofs.Alphabet.{alphabet_sound, alphabet_whole}
use Rattle.fields.specs.Counts.{Counted}
use Rattle.card.specs.Load.{load_test, CardInside, CardMarked, CardNumbered, CardReduced, marks_test, bad_contents, bad_alphabet, transition_out_of_range, not_numbered, loaded}
use Rattle.card.specs.Answer.{holds, rejected, load, load_holds, load_rejected}
use Rattle.card.proofs.LoadLaws.{tested_only, inside_true, marks_hold, marks_true, reduced_holds}
use Rattle.fields.specs.CardTable.{Cell, cell_of, cells, cell, states_many, mark_at_lem, card_holds, card_table}
use Rattle.moves.specs.Holds.{Table, Holds}
use Rattle.loading.specs.declared.Fault.{Fault}
use Rattle.loading.specs.declared.Fault.TheVariants.{BadContents, BadAlphabet, TransitionOutOfRange, NotNumbered, WrongMarks, EquivalentStates}
use Rattle.loading.specs.Faults.{fault_number}
use Rattle.loading.specs.Inside.{InsideExactly}
use Rattle.loading.specs.Rows.{NumberedExactly}
use Rattle.live.specs.LiveSweeps.{MarksExactly}
use Rattle.partition.specs.Classes.{ReducedExactly}

-- ---- letters

module _ (ls : List ℕ) where
  rising_all : ((i : ℕ) → i + 1 < length ls → get_or ls i 0 < get_or ls (i + 1) 0) → (j i : ℕ) → i < j → j < length ls → get_or ls i 0 < get_or ls j 0
  rising_all r zero i h b = absurd (not-suc-le-zero h)
  rising_all r (suc j) i h b = go (lt_cases i j) (λ x. rising_all r j i x (omega arith))
    where
      here : get_or ls j 0 < get_or ls (suc j) 0
      here = rw (add-one j) at (r j (omega arith))

      go : LtCases i j → (i < j → get_or ls i 0 < get_or ls j 0) → get_or ls i 0 < get_or ls (suc j) 0
      go (inl x) f = omega (arith, here, f x.0)
      go (inr x) f = let z : i ≡ j = omega arith in rw z here

  module _ (a : Bool) (u : (a ≡ true) ↔ ((i : ℕ) → i + 1 < length ls → get_or ls i 0 < get_or ls (i + 1) 0)) where
    pub alphabet_falls : a ≡ false → a ≡ alphabet_test ls
    alphabet_falls e = e ∙ sym (not_true (alphabet_test ls) (λ t. contradict (u.1 (λ i h. (alphabet_sound ls t).rising i (i + 1) (omega arith) h)) e))

    pub alphabet_rises : a ≡ true → (b : Bool) → (b ≡ true) ↔ ((i : ℕ) → i < length ls → (97 ≤ get_or ls i 0) × (get_or ls i 0 ≤ 122)) → b ≡ alphabet_test ls
    alphabet_rises e b v = go (bool_cases b)
      where
        go : (b ≡ true) ⊎ (b ≡ false) → b ≡ alphabet_test ls
        go (inl f) = f ∙ sym (alphabet_whole ls (record { letter = v.0 f; rising = λ i j h k. rising_all (u.0 e) j i h k }))
        go (inr f) = f ∙ sym (not_true (alphabet_test ls) (λ t. contradict (v.1 (alphabet_sound ls t).letter) f))

-- ---- 25 and 26, where one byte or one pair need not be shown

tested_marks : (fmt : Format) (c : List ℕ) → Contents fmt c → Alphabet (letters_of fmt c) → CardInside fmt c → CardNumbered fmt c → (CardMarked fmt c → ⊥) → load_test fmt c ≡ 25
unfolding load_test unless
tested_marks fmt c r a i n f =
    rw (
      contents_whole fmt c r,
      alphabet_whole (letters_of fmt c) a,
      inside_true fmt c i,
      numbered_whole (letter_count fmt c) (machine_of fmt c) n,
      not_true (marks_test fmt c) (λ e. f (marks_hold fmt c r i e)),
    )

tested_reduced : (fmt : Format) (c : List ℕ) → Contents fmt c → Alphabet (letters_of fmt c) → CardInside fmt c → CardNumbered fmt c → CardMarked fmt c → (CardReduced fmt c → ⊥) → load_test fmt c ≡ 26
unfolding load_test unless
tested_reduced fmt c r a i n m f =
    rw (
      contents_whole fmt c r,
      alphabet_whole (letters_of fmt c) a,
      inside_true fmt c i,
      numbered_whole (letter_count fmt c) (machine_of fmt c) n,
      marks_true fmt c r i m,
      not_true (reduced_test (letter_count fmt c) (machine_of fmt c)) (λ e. f (reduced_holds fmt c r i e)),
    )

-- ---- test by test

-- the letters of the table are the card's
pub lettered : {c : List ℕ} {m k n : ℕ} → k ≡ m → Counted narrow c m n → Counted narrow c k n
lettered e r = rw e r

unset : (b : Bool) → not b ≡ true → b ≡ false
unset true e = absurd (false≢true e)
unset false e = refl

isset : (b : Bool) → not b ≡ false → b ≡ true
isset true e = refl
isset false e = absurd (true≢false e)

module _ (c : List ℕ) (m n : ℕ) (r : Counted narrow c m n) where
  module _ (ls : List ℕ) (b : Bool) (e : ls ≡ letters_of narrow c) (t : b ≡ alphabet_test ls) where
    pub load_22 : not b ≡ true → load_test narrow c ≡ 22
    load_22 x = tested_only narrow c 22 (bad_alphabet r.right (λ a. contradict (alphabet_whole (letters_of narrow c) a) (rw (← e) (sym t ∙ unset b x))))

    pub alphabet_right : not b ≡ false → Alphabet (letters_of narrow c)
    alphabet_right x = alphabet_sound (letters_of narrow c) (rw (← e) (sym t ∙ isset b x))

  module _ (a : Alphabet (letters_of narrow c)) (bs : List ℕ) (e : bs ≡ moves_of narrow c) where
    pub load_23 : (b : Bool) → InsideExactly n bs b → not b ≡ true → load_test narrow c ≡ 23
    load_23 b t x =
        let (q, h, v) = t.past (unset b x) in
        let k : Cell (state_count narrow c) (letter_count narrow c) q = cell_of (state_count narrow c) (letter_count narrow c) q (rw (cells c bs e) at h) in
        tested_only narrow c 23 (transition_out_of_range r.right a (q / letter_count narrow c) (q % letter_count narrow c) k.row k.column
        (rw (← cell c bs e (q / letter_count narrow c) (q % letter_count narrow c) k.row k.column, k.place, r.states) v))

    pub inside_right : (b : Bool) → InsideExactly n bs b → not b ≡ false → CardInside narrow c
    inside_right b t x p i h v = rw (← cell c bs e p i h v, r.states) (t.all (isset b x) (p * letter_count narrow c + i) (rw (cells c bs e) (cell_below (state_count narrow c) (letter_count narrow c) p i h v)))

    module _ (i : CardInside narrow c) (ms : List ℕ) (f : ms ≡ marks_of narrow c) where
      states : length ms ≡ state_count narrow c
      states = states_many c m n r ms f

      mark : (p : ℕ) → p < state_count narrow c → get_or ms p 0 ≡ mark_at narrow c p
      mark p h = mark_at_lem c m n r ms f p h

      holds_card : Holds m ms bs (machine_of narrow c)
      holds_card = card_holds c m n r ms f bs e i

      pub table_right : Table 120 m ms bs
      table_right = card_table c m n r ms f bs e i

      pub letters_most : m ≤ 26
      letters_most = rw r.letters at r.right.letters_most

      module _ (b : Bool) (t : NumberedExactly m ms bs b) where
        pub load_24 : not b ≡ true → load_test narrow c ≡ 24
        load_24 x = tested_only narrow c 24 (not_numbered r.right a i λ y.
            contradict ((t.exact (machine_of narrow c) holds_card).1 (rw r.letters at y)) (unset b x))

        pub numbered_right : not b ≡ false → CardNumbered narrow c
        numbered_right x = rw r.letters ((t.exact (machine_of narrow c) holds_card).0 (isset b x))

      module _ (k : CardNumbered narrow c) (b : Bool) (t : MarksExactly m ms bs b) where
        pub marked_right : not b ≡ false → CardMarked narrow c
        marked_right x p h = subst (λ k. Mark k (machine_of narrow c) p (mark_at narrow c p)) (sym r.letters) (subst (λ v. Mark m (machine_of narrow c) p v) (mark p h) ((t.exact (machine_of narrow c) holds_card).0 (isset b x) p (rw states h)))

        -- 25 by the definition of the test
        pub load_25 : not b ≡ true → load_test narrow c ≡ 25
        load_25 x = tested_marks narrow c r.right a i k λ y.
            contradict ((t.exact (machine_of narrow c) holds_card).1 λ p h. let h' : p < state_count narrow c = rw states at h in rw (mark p h', ← r.letters) (y p h')) (unset b x)

        module _ (l : CardMarked narrow c) (d : Bool) (v : ReducedExactly m ms bs d) where
          pub load_26 : not d ≡ true → load_test narrow c ≡ 26
          load_26 x = tested_reduced narrow c r.right a i k l λ y.
              contradict ((v.exact (machine_of narrow c) holds_card).1 (rw r.letters at y)) (unset d x)

          pub load_0 : not d ≡ false → load_test narrow c ≡ 0
          load_0 x = tested_only narrow c 0 (loaded r.right a i k l (rw r.letters ((v.exact (machine_of narrow c) holds_card).0 (isset d x))))

-- ---- the answer

pub loading_contents : (c : List ℕ) → (Contents narrow c → ⊥) → rejected 21 ≡ load narrow c
loading_contents c f =
    let e : load_test narrow c ≡ 21 = tested_only narrow c 21 (bad_contents f) in
    sym (load_rejected narrow c (λ z. omega arith) ∙ ap rejected e)

pub loading_accepted : (c : List ℕ) (m n : ℕ) → Counted narrow c m n → load_test narrow c ≡ 0 → holds m n ≡ load narrow c
loading_accepted c m n k e = sym (load_holds narrow c e ∙ (λ t. holds (k.letters t) (k.states t)))

pub fault_some : (f : Fault) → fault_number f ≡ 0 → ⊥
fault_some BadContents e = omega arith
fault_some BadAlphabet e = omega arith
fault_some TransitionOutOfRange e = omega arith
fault_some NotNumbered e = omega arith
fault_some WrongMarks e = omega arith
fault_some EquivalentStates e = omega arith

pub loading_refused : (c : List ℕ) (f : Fault) → load_test narrow c ≡ fault_number f → rejected (fault_number f) ≡ load narrow c
loading_refused c f e = sym (load_rejected narrow c (λ z. fault_some f (sym e ∙ z)) ∙ ap rejected e)
