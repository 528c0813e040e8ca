-- Laws of what specs/RunLaws.antt defines.
use Rattle.std.specs.Prelude.{◌≡◌, true, false, ◌⊎◌, List, [], ◌∷◌, ◌++◌, ℕ, zero, suc, ◌+◌, ◌≤◌, ◌<◌, length, get_or, eqb}
use Rattle.std.proofs.Math.Path.{refl, sym}
use Rattle.std.proofs.Common.{ap, ◌∙◌, inl, inr, not-suc-le-zero, zero-lt-suc}
use native.Mathlib.Omega.{arith}
use Rattle.automata.specs.Booleans.{bool_cases, not_true}
use Rattle.automata.specs.Basics.{LtCases, lt_cases, lt_ltb, nat_test}
use Rattle.automata.specs.Automaton.{run}
use Rattle.automata.specs.Machine.{size, automaton}
use Rattle.automata.specs.Decide.{unless}
use Rattle.automata.specs.Format.{Format}
use Rattle.card.specs.Mark.{Mark, is_accepting, is_dead, is_live, marks, marks_only}
use Rattle.card.specs.Layout.{letter_count, state_count, mark_at, move_at, letters_of, machine_of}
use Rattle.card.proofs.LayoutLaws.{letters_length, size_is, step_at}
use Rattle.card.specs.Alphabet.{column, columns, Known, known_count, Counted, all_known, first_unknown}
use Rattle.card.proofs.Alphabet.{counted}
use Rattle.card.specs.Load.{load_test}
use Rattle.card.specs.Loads.{Loaded}
use Rattle.card.proofs.Loads.{loaded_formed}
use Rattle.card.proofs.Allowed.{known_count_lem}
use Rattle.card.specs.Reply.{answered, refused, asked}
use Rattle.card.specs.Judge.{Place, none, found, by_place, dead_at, state_after, first_dead, plan_verdict, judge}
use Rattle.card.specs.Run.{Run, going, halted, run_start, taken, run_letter, run_on, run_reply}
use Rattle.card.specs.RunLaws.{later_dead}

module _ (fmt : Format) (c : List ℕ) where
  abbrev ls : List ℕ
  ls = letters_of fmt c

  -- PIECES one after the other are the whole.
  pub run_append : (r : Run) (p q : List ℕ) → run_on fmt c r (p ++ q) ≡ run_on fmt c (run_on fmt c r p) q
  run_append r [] q = refl
  run_append r (l ∷ p) q = run_append (run_letter fmt c r l) p q

  -- After an unknown letter nothing changes.
  pub run_halted : (p k : ℕ) (d : Place) (j : ℕ) (plan : List ℕ) → run_on fmt c (halted p k d j) plan ≡ halted p k d j
  run_halted p k d j [] = refl
  run_halted p k d j (l ∷ plan) = run_halted p k d j plan

  -- one letter, on the card or not
  pub letter_known : (p k : ℕ) (d : Place) (l : ℕ) → column ls l < length ls → run_letter fmt c (going p k d) l ≡ taken fmt c (going p k d) (move_at fmt c p (column ls l))
  letter_known p k d l h = rw (lt_ltb (column ls l) (length ls) h)

  pub letter_unknown : (p k : ℕ) (d : Place) (l : ℕ) → length ls ≤ column ls l → run_letter fmt c (going p k d) l ≡ halted p k d k
  letter_unknown p k d l h = go (lt_cases (column ls l) (length ls))
    where
      go : LtCases (column ls l) (length ls) → run_letter fmt c (going p k d) l ≡ halted p k d k
      go (inl y) = absurd (omega (arith, y.0))
      go (inr y) = rw y.1

  here_or_later : (plan : List ℕ) (p k : ℕ) → by_place (dead_at fmt c p k) found (λ _. later_dead fmt c plan p k) ≡ first_dead fmt c plan p k
  here_or_later plan p k = go plan (bool_cases (eqb (mark_at fmt c p) 2))
    where
      go : (plan : List ℕ) → (eqb (mark_at fmt c p) 2 ≡ true) ⊎ (eqb (mark_at fmt c p) 2 ≡ false) → by_place (dead_at fmt c p k) found (λ _. later_dead fmt c plan p k) ≡ first_dead fmt c plan p k
      go [] (inl e) = rw e
      go [] (inr e) = rw e
      go (l ∷ plan) e = refl

  -- LETTERS OF THE CARD from a state p after k letters.
  pub run_going : (plan : List ℕ) (p k : ℕ) (d : Place) → Known ls plan
      → run_on fmt c (going p k d) plan ≡ going (state_after fmt c plan p) (k + length plan) (by_place d found (λ _. later_dead fmt c plan p k))
  run_going [] p k d o = λ t. going p (sym (plus k) t) (same d t)
    where
      plus : (k : ℕ) → k + 0 ≡ k
      plus k = omega arith

      same : (d : Place) → d ≡ by_place d found (λ _. none)
      same (found j) = refl
      same none = refl
  run_going (l ∷ plan) p k d o =
      ap (λ r. run_on fmt c r plan) (letter_known p k d l o.0)
      ∙ run_going plan q (suc k) (by_place d found (λ _. dead_at fmt c q (suc k))) o.1
      ∙ (λ t. going (state_after fmt c plan q) (count t) (dead d t))
    where
      q : ℕ
      q = move_at fmt c p (column ls l)

      count : suc k + length plan ≡ k + suc (length plan)
      count = omega arith

      dead : (d : Place) → by_place (by_place d found (λ _. dead_at fmt c q (suc k))) found (λ _. later_dead fmt c plan q (suc k)) ≡ by_place d found (λ _. first_dead fmt c plan q (suc k))
      dead (found j) = refl
      dead none = here_or_later plan q (suc k)

  -- A PLAN OF THE CARD'S LETTERS from the start: its last state, its length and its first dead place.
  pub run_known : (plan : List ℕ) → Known ls plan → run_on fmt c (run_start fmt c) plan ≡ going (state_after fmt c plan 0) (length plan) (first_dead fmt c plan 0 0)
  run_known plan o =
      let z : 0 + length plan ≡ length plan = omega arith in
      run_going plan 0 0 (dead_at fmt c 0 0) o ∙ (λ t. going (state_after fmt c plan 0) (z t) (here_or_later plan 0 0 t))

  -- AN UNKNOWN LETTER after known ones.
  pub run_unknown : (u : List ℕ) (l : ℕ) (rest : List ℕ) (p k : ℕ) (d : Place) → Known ls u → length ls ≤ column ls l
      → run_on fmt c (going p k d) (u ++ (l ∷ rest)) ≡ halted (state_after fmt c u p) (k + length u) (by_place d found (λ _. later_dead fmt c u p k)) (k + length u)
  run_unknown u l rest p k d o h =
      run_append (going p k d) u (l ∷ rest)
      ∙ ap (λ r. run_on fmt c r (l ∷ rest)) (run_going u p k d o)
      ∙ ap (λ r. run_on fmt c r rest) (letter_unknown (state_after fmt c u p) (k + length u) (by_place d found (λ _. later_dead fmt c u p k)) l h)
      ∙ run_halted (state_after fmt c u p) (k + length u) (by_place d found (λ _. later_dead fmt c u p k)) (k + length u) rest

  -- the reply there
  reply_unknown : (plan : List ℕ) (p k : ℕ) (d : Place) (j : ℕ) → j < length plan → ((i : ℕ) → i < j → column ls (get_or plan i 0) < length ls)
      → length ls ≤ column ls (get_or plan j 0) → run_reply fmt c (run_on fmt c (going p k d) plan) ≡ refused 27 (k + j)
  reply_unknown [] p k d j b f x = absurd (not-suc-le-zero b)
  reply_unknown (l ∷ plan) p k d zero b f x =
      let z : k ≡ k + zero = omega arith in
      ap (λ r. run_reply fmt c (run_on fmt c r plan)) (letter_unknown p k d l x) ∙ ap (run_reply fmt c) (run_halted p k d k plan) ∙ ap (refused 27) z
  reply_unknown (l ∷ plan) p k d (suc j) b f x =
      let z : suc k + j ≡ k + suc j = omega arith in
      ap (λ r. run_reply fmt c (run_on fmt c r plan)) (letter_known p k d l (f zero (zero-lt-suc j)))
      ∙ reply_unknown plan (move_at fmt c p (column ls l)) (suc k) (by_place d found (λ _. dead_at fmt c (move_at fmt c p (column ls l)) (suc k))) j (omega arith) (λ i v. f (suc i) (omega arith)) x
      ∙ ap (refused 27) z

  -- JUDGING a plan on a card that loads is the reply of the run over the whole plan.
  pub judge_run : load_test fmt c ≡ 0 → (plan : List ℕ) → judge fmt c plan ≡ run_reply fmt c (run_on fmt c (run_start fmt c) plan)
  unfolding judge asked unless
  judge_run e plan = rw e (go (known_count ls plan) refl (counted ls plan))
    where
      go : (n : ℕ) → known_count ls plan ≡ n → Counted ls plan n
          → unless (refused 27 (known_count ls plan)) (eqb (known_count ls plan) (length plan)) (λ _. answered (plan_verdict fmt c plan)) ≡ run_reply fmt c (run_on fmt c (run_start fmt c) plan)
      go n z (all_known o) =
          rw (known_count_lem ls plan o, nat_test.whole (length plan))
          (ap (run_reply fmt c) (sym (run_known plan o)))
      go n z (first_unknown j b f x) =
          let y : 0 + j ≡ j = omega arith in
          rw (z, not_true (eqb j (length plan)) (λ e. let w = nat_test.sound j (length plan) e in omega arith))
          (ap (refused 27) (sym y) ∙ sym (reply_unknown plan 0 0 (dead_at fmt c 0 0) j b f x))

  -- ---- on a card that loads

  -- the state after a plan is the machine's
  pub state_machine : Loaded fmt c → (plan : List ℕ) (p : ℕ) → p < state_count fmt c → Known ls plan → state_after fmt c plan p ≡ run (automaton (machine_of fmt c)) p (columns ls plan)
  state_machine l [] p h o = refl
  state_machine l (x ∷ plan) p h o =
      let b : column ls x < letter_count fmt c = rw (letters_length fmt c l.contents) at o.0 in
      state_machine l plan (move_at fmt c p (column ls x)) (l.inside p (column ls x) h b) o.1
      ∙ ap (λ q. run (automaton (machine_of fmt c)) q (columns ls plan)) (sym (step_at fmt c p (column ls x) h b))

  -- a dead state leads to dead states only
  pub dead_stays : Loaded fmt c → (p i : ℕ) → p < state_count fmt c → i < letter_count fmt c → mark_at fmt c p ≡ 2 → mark_at fmt c (move_at fmt c p i) ≡ 2
  dead_stays l p i h b e = go (mark_at fmt c p) e (l.marked p h)
    where
      q : ℕ
      q = move_at fmt c p i

      hq : q < state_count fmt c
      hq = l.inside p i h b

      low : q < size (machine_of fmt c)
      low = rw (size_is fmt c l.contents) hq

      right : (v : ℕ) → Mark (letter_count fmt c) (machine_of fmt c) q v → v ≡ get_or (marks (letter_count fmt c) (machine_of fmt c)) q 0
      right v m = marks_only (letter_count fmt c) (machine_of fmt c) (loaded_formed fmt c l) q low v m

      go : (v : ℕ) → v ≡ 2 → Mark (letter_count fmt c) (machine_of fmt c) p v → mark_at fmt c q ≡ 2
      go v z (is_accepting a) = absurd (omega arith)
      go v z (is_live a w o t) = absurd (omega arith)
      go v z (is_dead d) = right (mark_at fmt c q) (l.marked q hq) ∙ sym (right 2 (is_dead (rw (← step_at fmt c p i h b) (λ w o. d (i ∷ w) (b, o)))))
