-- Laws of what specs/Step.antt defines.
use Rattle.std.specs.Prelude.{◌≡◌, false, ◌≢◌, List, ℕ, ◌≤◌, ◌<◌, get_or, eqb, ltb}
use Rattle.std.proofs.Common.{sym, ap, ◌∙◌, inl, inr, arith}
use Rattle.automata.specs.Booleans.{not_true}
use Rattle.automata.specs.Basics.{LtCases, lt_cases, ltb_lt, lt_ltb, ltb_false, SameCases, same_cases, nat_test, find_at, find_least}
use Rattle.automata.specs.Decide.{unless, unless_elim, contradict}
use Rattle.automata.specs.Distance.{Fewest}
use Rattle.automata.proofs.Distance.{fewest_one, distance_fewest}
use Rattle.automata.specs.Format.{Format}
use Rattle.automata.specs.Machine.{size, automaton}
use Rattle.card.specs.Mark.{Mark, is_accepting, is_dead, is_live}
use Rattle.card.specs.Layout.{letter_count, state_count, letter_at, mark_at, move_at, letters_of, machine_of, Contents}
use Rattle.card.proofs.LayoutLaws.{letters_length, letters_at, size_is, step_at}
use Rattle.card.specs.Alphabet.{column}
use Rattle.card.specs.Load.{load_test}
use Rattle.card.proofs.LoadLaws.{tested, tested_only}
use Rattle.card.specs.Loads.{Loaded}
use Rattle.card.proofs.Loads.{load_loaded, loaded_formed}
use Rattle.card.specs.Judge.{owed}
use Rattle.card.specs.Step.{On, Stepped, Steps, landing, owing, step_moved, step_no_card, step_no_state, step_on, step_owing, step_unknown, stopped}

-- ---- the column of a letter

module _ (fmt : Format) (c : List ℕ) (r : Contents fmt c) (l : ℕ) where
  pub column_on : column (letters_of fmt c) l < letter_count fmt c → On fmt c l (column (letters_of fmt c) l)
  column_on h = record {
    on = h;
    is = sym (letters_at fmt c r (column (letters_of fmt c) l) h) ∙ find_at nat_test 0 l (letters_of fmt c) (rw (letters_length fmt c r) h);
  }

  pub column_unknown : letter_count fmt c ≤ column (letters_of fmt c) l → (i : ℕ) → i < letter_count fmt c → letter_at fmt c i ≢ l
  column_unknown h i b e = let k = find_least nat_test 0 l (letters_of fmt c) i (rw (letters_length fmt c r) b) (letters_at fmt c r i b ∙ e) in omega arith

pub ltb_le : (a b : ℕ) → ltb a b ≡ false → b ≤ a
ltb_le a b e = go (lt_cases a b)
  where
    go : LtCases a b → b ≤ a
    go (inl p) = contradict p.1 e
    go (inr p) = p.0

module _ (fmt : Format) (c : List ℕ) (l i : ℕ) (d : Loaded fmt c) (o : On fmt c l i) where
  abbrev j : ℕ
  j = column (letters_of fmt c) l

  first : j ≤ i
  first = find_least nat_test 0 l (letters_of fmt c) i (rw (letters_length fmt c d.contents) o.on) (letters_at fmt c d.contents i o.on ∙ o.is)

  -- the letters of a loaded card rise, so that a letter has one column
  pub on_column : column (letters_of fmt c) l ≡ i
  on_column = go (lt_cases j i)
    where
      go : LtCases j i → j ≡ i
      go (inl h) =
          let a : get_or (letters_of fmt c) j 0 ≡ l = find_at nat_test 0 l (letters_of fmt c) (rw (letters_length fmt c d.contents) (omega (arith, first, o.on))) in
          let b : get_or (letters_of fmt c) i 0 ≡ l = letters_at fmt c d.contents i o.on ∙ o.is in
          absurd (omega (arith, a, b, d.alphabet.rising j i h.0 (rw (letters_length fmt c d.contents) o.on)))
      go (inr h) = omega (arith, h.0, first)

-- ---- every answer

-- On a loaded card a step by one of its letters from one of its states lands where the machine's does.
pub step_loaded : (fmt : Format) (c : List ℕ) → load_test fmt c ≡ 0 → (p l : ℕ) → p < state_count fmt c → column (letters_of fmt c) l < letter_count fmt c
    → step_on fmt c p l ≡ landing fmt c ((automaton (machine_of fmt c)).step p (column (letters_of fmt c) l))
unfolding step_on unless
step_loaded fmt c z p l h b =
    let i : ℕ = column (letters_of fmt c) l in
    rw (z, lt_ltb i (letter_count fmt c) b, lt_ltb p (state_count fmt c) h) (ap (landing fmt c) (sym (step_at fmt c p i h b)))

-- THE NUMBER of a state whose marks byte is 0 is the fewest.
pub owed_fewest : (fmt : Format) (c : List ℕ) (d : Loaded fmt c) (q : ℕ) → q < state_count fmt c → mark_at fmt c q ≡ 0 → Fewest (letter_count fmt c) (machine_of fmt c) q (owed fmt c q)
owed_fewest fmt c d q h z = go (mark_at fmt c q) z (d.marked q h)
  where
    b : q < size (machine_of fmt c)
    b = rw (size_is fmt c d.contents) h

    go : (v : ℕ) → v ≡ 0 → Mark (letter_count fmt c) (machine_of fmt c) q v → Fewest (letter_count fmt c) (machine_of fmt c) q (owed fmt c q)
    go v e (is_accepting a) = absurd (omega arith)
    go v e (is_dead a) = absurd (omega arith)
    go v e (is_live a w o t) = distance_fewest (letter_count fmt c) (machine_of fmt c) (loaded_formed fmt c d) q b w o t

-- ONE STEP answers so,
pub steps : (fmt : Format) (c : List ℕ) (p l : ℕ) → Steps fmt c p l (step_on fmt c p l)
unfolding step_on
steps fmt c p l =
    unless_elim (Steps fmt c p l) (stopped (load_test fmt c)) (eqb (load_test fmt c) 0) _
    (λ e. step_no_card (load_test fmt c) (λ z. contradict (rw z (nat_test.whole 0)) e) (tested fmt c)) λ e₁.
    let z : load_test fmt c ≡ 0 = nat_test.sound (load_test fmt c) 0 e₁ in
    let d : Loaded fmt c = load_loaded fmt c z in
    let i : ℕ = column (letters_of fmt c) l in
    unless_elim (Steps fmt c p l) (stopped 27) (ltb i (letter_count fmt c)) _ (λ e. step_unknown z (column_unknown fmt c d.contents l (ltb_le i (letter_count fmt c) e))) λ e₂.
    let o : On fmt c l i = column_on fmt c d.contents l (ltb_lt i (letter_count fmt c) e₂) in
    unless_elim (Steps fmt c p l) (stopped 28) (ltb p (state_count fmt c)) _ (λ e. step_no_state z i o (ltb_le p (state_count fmt c) e)) λ e₃.
    land z d i o (ltb_lt p (state_count fmt c) e₃) (same_cases nat_test (mark_at fmt c (move_at fmt c p i)) 0)
  where
    land : load_test fmt c ≡ 0 → Loaded fmt c → (i : ℕ) → On fmt c l i → p < state_count fmt c → SameCases nat_test (mark_at fmt c (move_at fmt c p i)) 0
        → Steps fmt c p l (landing fmt c (move_at fmt c p i))
    land z d i o h (inl m) = rw m.1
        (step_owing z i o h m.0 (owed fmt c (move_at fmt c p i)) (owed_fewest fmt c d (move_at fmt c p i) (d.inside p i h o.on) m.0))
    land z d i o h (inr m) = rw m.1 (step_moved z i o h m.0)

-- and one answer only is right.
pub steps_only : (fmt : Format) (c : List ℕ) (p l : ℕ) (s : Stepped) → Steps fmt c p l s → step_on fmt c p l ≡ s
unfolding step_on unless
steps_only fmt c p l s (step_no_card r n t) = rw (tested_only fmt c r t, not_true (eqb r 0) (λ e. n (nat_test.sound r 0 e)))
steps_only fmt c p l s (step_unknown z f) =
    let d : Loaded fmt c = load_loaded fmt c z in
    let i : ℕ = column (letters_of fmt c) l in
    rw (z, not_true (ltb i (letter_count fmt c)) (λ e. let o : On fmt c l i = column_on fmt c d.contents l (ltb_lt i (letter_count fmt c) e) in f i o.on o.is))
steps_only fmt c p l s (step_no_state z i o h) =
    rw (z, on_column fmt c l i (load_loaded fmt c z) o, lt_ltb i (letter_count fmt c) o.on, ltb_false p (state_count fmt c) h)
steps_only fmt c p l s (step_moved z i o h m) =
    let q : ℕ = move_at fmt c p i in
    rw (z, on_column fmt c l i (load_loaded fmt c z) o, lt_ltb i (letter_count fmt c) o.on, lt_ltb p (state_count fmt c) h, not_true (eqb (mark_at fmt c q) 0) (λ e. m (nat_test.sound (mark_at fmt c q) 0 e)))
steps_only fmt c p l s (step_owing z i o h m k f) =
    let d : Loaded fmt c = load_loaded fmt c z in
    let q : ℕ = move_at fmt c p i in
    rw (z, on_column fmt c l i d o, lt_ltb i (letter_count fmt c) o.on, lt_ltb p (state_count fmt c) h, m)
    (ap (owing q) (fewest_one (letter_count fmt c) (machine_of fmt c) q (owed fmt c q) k (owed_fewest fmt c d q (d.inside p i h o.on) m) f))
