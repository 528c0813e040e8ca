-- The load test answers what the table says, and one answer only is right.
use Rattle.std.specs.Prelude.{◌≡◌, true, false, ◌≢◌, ◌↔◌, List, ℕ, ◌*◌, ◌≤◌, ◌<◌, get_or, ltb}
use Rattle.std.proofs.Common.{sym, ap, ◌∙◌, inl, inr, arith}
use Rattle.std.proofs.Math.Dec.{eqb}
use Rattle.automata.specs.Booleans.{not_true}
use Rattle.automata.specs.Basics.{LtCases, lt_cases, ltb_lt, nat_test}
use Rattle.automata.specs.Machine.{size, WellFormed, Numbered, Equivalent}
use Rattle.automata.specs.Decide.{unless, unless_elim, contradict, not_false, all_below_lem, some_fails}
use Rattle.automata.specs.NumberingTest.{numbered_test, numbered_sound, numbered_whole}
use Rattle.automata.specs.Scan.{scan, scan_numbered}
use Rattle.automata.specs.ReducedTest.{reduced_test, reduced_sound, equivalent_exist}
use Rattle.automata.specs.Format.{Format}
use Rattle.card.specs.Mark.{marks, Mark, marks_sound, marks_only}
use Rattle.card.specs.Layout.{letter_count, state_count, mark_at, move_at, letters_of, moves_of, machine_of, Contents, contents_test}
use Rattle.card.proofs.LayoutLaws.{contents_sound, contents_whole, moves_length, moves_at, size_is, step_at, machine_formed}
use Rattle.card.specs.Alphabet.{Alphabet, alphabet_test}
use Rattle.card.proofs.Alphabet.{alphabet_sound, alphabet_whole}
use Rattle.card.specs.Load.{row_inside, inside_test, marks_test, load_test, CardInside, CardMarked, CardNumbered, CardReduced, Tested, bad_contents, bad_alphabet, transition_out_of_range, not_numbered, wrong_marks, equivalent_states, loaded}

-- ---- each test is exact

pub inside_holds : (fmt : Format) (c : List ℕ) → inside_test fmt c ≡ true → CardInside fmt c
unfolding inside_test row_inside
inside_holds fmt c e p i h b =
    ltb_lt (move_at fmt c p i) (state_count fmt c) (all_below_lem (λ i. ltb (move_at fmt c p i) (state_count fmt c)) (letter_count fmt c) (all_below_lem (row_inside fmt c) (state_count fmt c) e p h) i b)

inside_fails : (fmt : Format) (c : List ℕ) → inside_test fmt c ≡ false → {R : Type 0}
    → ((p i : ℕ) → p < state_count fmt c → i < letter_count fmt c → state_count fmt c ≤ move_at fmt c p i → R) → R
unfolding inside_test row_inside
inside_fails fmt c e {R} k =
    let (p, h, x) = some_fails (row_inside fmt c) (state_count fmt c) e in
    let (i, b, y) = some_fails (λ i. ltb (move_at fmt c p i) (state_count fmt c)) (letter_count fmt c) x in
    go p i h b (lt_cases (move_at fmt c p i) (state_count fmt c)) y
  where
    go : (p i : ℕ) → p < state_count fmt c → i < letter_count fmt c → LtCases (move_at fmt c p i) (state_count fmt c) → ltb (move_at fmt c p i) (state_count fmt c) ≡ false → R
    go p i h b (inl q) y = contradict q.1 y
    go p i h b (inr q) y = k p i h b q.0

pub inside_true : (fmt : Format) (c : List ℕ) → CardInside fmt c → inside_test fmt c ≡ true
inside_true fmt c i = not_false (inside_test fmt c) (λ e. inside_fails fmt c e (λ p j h b x. let z = i p j h b in omega arith))

module _ (fmt : Format) (c : List ℕ) (r : Contents fmt c) (inside : CardInside fmt c) where
  pub machine_is_formed : WellFormed (letter_count fmt c) (machine_of fmt c)
  machine_is_formed = machine_formed fmt c r inside

  abbrev right : ℕ → ℕ
  right p = get_or (marks (letter_count fmt c) (machine_of fmt c)) p 0

  low : (p : ℕ) → p < state_count fmt c → p < size (machine_of fmt c)
  low p h = rw (size_is fmt c r) h

  pub marks_hold : marks_test fmt c ≡ true → CardMarked fmt c
  unfolding marks_test
  marks_hold e p h =
      rw (nat_test.sound (mark_at fmt c p) (right p) (all_below_lem (λ p. eqb (mark_at fmt c p) (right p)) (state_count fmt c) e p h))
      (marks_sound (letter_count fmt c) (machine_of fmt c) machine_is_formed p (low p h))

  marks_fail : marks_test fmt c ≡ false → {R : Type 0} → ((p : ℕ) → p < state_count fmt c → ¬ Mark (letter_count fmt c) (machine_of fmt c) p (mark_at fmt c p) → R) → R
  unfolding marks_test
  marks_fail e k =
      let (p, h, x) = some_fails (λ p. eqb (mark_at fmt c p) (right p)) (state_count fmt c) e in
      k p h λ a. contradict (rw (marks_only (letter_count fmt c) (machine_of fmt c) machine_is_formed p (low p h) (mark_at fmt c p) a) (nat_test.whole (right p))) x

  pub marks_true : CardMarked fmt c → marks_test fmt c ≡ true
  marks_true m = not_false (marks_test fmt c) (λ e. marks_fail e (λ p h f. f (m p h)))

  pub reduced_holds : reduced_test (letter_count fmt c) (machine_of fmt c) ≡ true → CardReduced fmt c
  reduced_holds e = reduced_sound (letter_count fmt c) (machine_of fmt c) machine_is_formed e

  equivalent_found : reduced_test (letter_count fmt c) (machine_of fmt c) ≡ false → {R : Type 0}
      → ((p q : ℕ) → p < state_count fmt c → q < state_count fmt c → p ≢ q → Equivalent (letter_count fmt c) (machine_of fmt c) p q → R) → R
  equivalent_found e k =
      let (p, q, hp, hq, d, a) = equivalent_exist (letter_count fmt c) (machine_of fmt c) machine_is_formed e in
      k p q (rw (size_is fmt c r) at hp) (rw (size_is fmt c r) at hq) d a

  pub reduced_true : CardReduced fmt c → reduced_test (letter_count fmt c) (machine_of fmt c) ≡ true
  reduced_true x = not_false (reduced_test (letter_count fmt c) (machine_of fmt c)) (λ e. equivalent_found e (λ p q hp hq d a. d (x p q (low p hp) (low q hq) a)))

-- THE LOAD TEST answers what the table says,
pub tested : (fmt : Format) (c : List ℕ) → Tested fmt c (load_test fmt c)
unfolding load_test
tested fmt c =
    unless_elim (Tested fmt c) 21 (contents_test fmt c) _ (λ e. bad_contents (λ r. contradict (contents_whole fmt c r) e)) λ e₁.
    let r : Contents fmt c = contents_sound fmt c e₁ in
    unless_elim (Tested fmt c) 22 (alphabet_test (letters_of fmt c)) _ (λ e. bad_alphabet r (λ a. contradict (alphabet_whole (letters_of fmt c) a) e)) λ e₂.
    let a : Alphabet (letters_of fmt c) = alphabet_sound (letters_of fmt c) e₂ in
    unless_elim (Tested fmt c) 23 (inside_test fmt c) _ (λ e. inside_fails fmt c e (transition_out_of_range r a)) λ e₃.
    let i : CardInside fmt c = inside_holds fmt c e₃ in
    unless_elim (Tested fmt c) 24 (numbered_test (letter_count fmt c) (machine_of fmt c)) _ (λ e. not_numbered r a i (λ n. contradict (numbered_whole (letter_count fmt c) (machine_of fmt c) n) e)) λ e₄.
    let n : CardNumbered fmt c = numbered_sound (letter_count fmt c) (machine_of fmt c) e₄ in
    unless_elim (Tested fmt c) 25 (marks_test fmt c) _ (λ e. marks_fail fmt c r i e (wrong_marks r a i n)) λ e₅.
    let m : CardMarked fmt c = marks_hold fmt c r i e₅ in
    unless_elim (Tested fmt c) 26 (reduced_test (letter_count fmt c) (machine_of fmt c)) _ (λ e. equivalent_found fmt c r i e (equivalent_states r a i n m)) λ e₆.
    loaded r a i n m (reduced_holds fmt c r i e₆)

-- and nothing else: one answer only is right.
pub tested_only : (fmt : Format) (c : List ℕ) (v : ℕ) → Tested fmt c v → load_test fmt c ≡ v
unfolding load_test unless
tested_only fmt c v (bad_contents f) = rw (not_true (contents_test fmt c) (λ e. f (contents_sound fmt c e)))
tested_only fmt c v (bad_alphabet r f) = rw (contents_whole fmt c r, not_true (alphabet_test (letters_of fmt c)) (λ e. f (alphabet_sound (letters_of fmt c) e)))
tested_only fmt c v (transition_out_of_range r a p i h b x) =
    rw (contents_whole fmt c r, alphabet_whole (letters_of fmt c) a, not_true (inside_test fmt c) (λ e. let z = inside_holds fmt c e p i h b in omega arith))
tested_only fmt c v (not_numbered r a i f) =
    rw (contents_whole fmt c r, alphabet_whole (letters_of fmt c) a, inside_true fmt c i, not_true (numbered_test (letter_count fmt c) (machine_of fmt c)) (λ e. f (numbered_sound (letter_count fmt c) (machine_of fmt c) e)))
tested_only fmt c v (wrong_marks r a i n p h f) =
    rw (contents_whole fmt c r, alphabet_whole (letters_of fmt c) a, inside_true fmt c i, numbered_whole (letter_count fmt c) (machine_of fmt c) n, not_true (marks_test fmt c) (λ e. f (marks_hold fmt c r i e p h)))
tested_only fmt c v (equivalent_states r a i n m p q hp hq d k) =
    rw (
      contents_whole fmt c r,
      alphabet_whole (letters_of fmt c) a,
      inside_true fmt c i,
      numbered_whole (letter_count fmt c) (machine_of fmt c) n,
      marks_true fmt c r i m,
      not_true (reduced_test (letter_count fmt c) (machine_of fmt c)) (λ e. d (reduced_holds fmt c r i e p q (low fmt c r i p hp) (low fmt c r i q hq) k)),
    )
tested_only fmt c v (loaded r a i n m x) =
    rw (contents_whole fmt c r, alphabet_whole (letters_of fmt c) a, inside_true fmt c i, numbered_whole (letter_count fmt c) (machine_of fmt c) n, marks_true fmt c r i m, reduced_true fmt c r i x)

-- For code: the numbering of a card's moves by one loop over them.
pub scan_card : (fmt : Format) (c : List ℕ) → Contents fmt c → 1 ≤ letter_count fmt c → CardInside fmt c → (scan (letter_count fmt c) (moves_of fmt c) 0 1 ≡ state_count fmt c) ↔ CardNumbered fmt c
scan_card fmt c r some i = (λ e. s.0 (e ∙ sym (size_is fmt c r)), λ n. s.1 n ∙ size_is fmt c r)
  where
    s : (scan (letter_count fmt c) (moves_of fmt c) 0 1 ≡ size (machine_of fmt c)) ↔ Numbered (letter_count fmt c) (machine_of fmt c)
    s = scan_numbered (letter_count fmt c) (machine_of fmt c) (moves_of fmt c) some (rw (size_is fmt c r) r.states_some) (moves_length fmt c ∙ ap (λ n. n * letter_count fmt c) (sym (size_is fmt c r)))
        (λ p j h b. step_at fmt c p j (rw (size_is fmt c r) at h) b ∙ sym (moves_at fmt c p j (rw (size_is fmt c r) at h) b))
