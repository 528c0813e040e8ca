-- "A step that lands on marks 0 gives the same number": that of judging the plan that leads there.
use Rattle.std.specs.Prelude.{◌≡◌, refl, true, false, ◌↔◌, List, [], ◌∷◌, ◌++◌, ℕ, ◌≤◌, ◌<◌}
use Rattle.std.proofs.Common.{sym, ap, ◌∙◌, subst, arith}
use Rattle.automata.specs.Automaton.{run}
use Rattle.automata.specs.Decide.{contradict}
use Rattle.automata.proofs.Distance.{fewest_one, fewest_some}
use Rattle.automata.specs.Format.{Format}
use Rattle.automata.specs.Machine.{Machine, automaton, run_inside}
use Rattle.card.specs.Mark.{Mark, is_accepting, is_dead, is_live}
use Rattle.card.specs.Layout.{letter_count, state_count, mark_at, move_at, letters_of, machine_of}
use Rattle.card.proofs.LayoutLaws.{letters_length, size_is, step_at}
use Rattle.card.specs.Alphabet.{column, columns, Known}
use Rattle.card.proofs.Alphabet.{known_left}
use Rattle.card.specs.Load.{load_test}
use Rattle.card.proofs.LoadLaws.{tested_only}
use Rattle.card.specs.Loads.{Loaded}
use Rattle.card.proofs.Loads.{load_loaded, loaded_card, loaded_formed}
use Rattle.card.specs.Verdict.{Verdict, unfinished, Says, is_allowed, is_unfinished, is_hopeless}
use Rattle.card.proofs.Allowed.{allows_known, allows_dead, known_right}
use Rattle.card.specs.Reply.{answered}
use Rattle.card.specs.Judge.{state_after, owed, judge, card_allows}
use Rattle.card.proofs.JudgeLaws.{owing_says, judge_iff}
use Rattle.card.proofs.RunLaws.{state_machine}
use Rattle.card.specs.Step.{Stepped, owing, landing, Steps, step_no_card, step_unknown, step_no_state, step_moved, step_owing, step_on}
use Rattle.card.proofs.Step.{steps, step_loaded, on_column, owed_fewest}

module _ (fmt : Format) (c : List ℕ) (z : load_test fmt c ≡ 0) where
  d : Loaded fmt c
  d = load_loaded fmt c z

  abbrev ls : List ℕ
  ls = letters_of fmt c

  abbrev M : Machine
  M = machine_of fmt c

  -- the state after a plan, by the machine, is one of the card's
  along : (plan : List ℕ) → Known ls plan → state_after fmt c plan 0 ≡ run (automaton M) 0 (columns ls plan)
  along plan o = state_machine fmt c d plan 0 d.contents.states_some o

  inside : (plan : List ℕ) → Known ls plan → state_after fmt c plan 0 < state_count fmt c
  inside plan o = rw (along plan o, ← size_is fmt c d.contents) (run_inside (letter_count fmt c) M (loaded_formed fmt c d) 0 (columns ls plan)
      (rw (size_is fmt c d.contents) d.contents.states_some) (rw (← letters_length fmt c d.contents) o))

  -- a state whose marks byte is 0 does not accept
  waits : (q : ℕ) → q < state_count fmt c → mark_at fmt c q ≡ 0 → (automaton M).accepting q ≡ false
  waits q h e = go (mark_at fmt c q) e (d.marked q h)
    where
      go : (v : ℕ) → v ≡ 0 → Mark (letter_count fmt c) M q v → (automaton M).accepting q ≡ false
      go v y (is_accepting a) = absurd (omega arith)
      go v y (is_dead a) = absurd (omega arith)
      go v y (is_live a w x t) = a

  -- UNFINISHED where the last state's marks byte is 0, with the number of that state.
  pub owed_says : (plan : List ℕ) → Known ls plan → mark_at fmt c (state_after fmt c plan 0) ≡ 0 → Says (card_allows fmt c) plan (unfinished (owed fmt c (state_after fmt c plan 0)))
  owed_says plan o e = owing_says fmt ls M (loaded_card fmt c d) plan o (rw (← along plan o) (waits q (inside plan o) e)) (owed fmt c q)
      (rw (← along plan o, letters_length fmt c d.contents) (owed_fewest fmt c d q (inside plan o) e))
    where
      q : ℕ
      q = state_after fmt c plan 0

  -- No other state is the last one of an unfinished plan.
  owed_mark : (plan : List ℕ) → Known ls plan → (k : ℕ) → Says (card_allows fmt c) plan (unfinished k) → mark_at fmt c (state_after fmt c plan 0) ≡ 0
  owed_mark plan o k s = go (unfinished k) refl s
    where
      q : ℕ
      q = state_after fmt c plan 0

      by_mark : (rest : List ℕ) → card_allows fmt c plan ≡ false → card_allows fmt c (plan ++ rest) ≡ true → (v : ℕ) → mark_at fmt c q ≡ v → Mark (letter_count fmt c) M q v → mark_at fmt c q ≡ 0
      by_mark rest f t v e (is_accepting a) = contradict (allows_known ls M plan o ∙ (rw (← along plan o) a)) f
      by_mark rest f t v e (is_dead a) = contradict t (allows_dead ls M plan o (rw (← along plan o, letters_length fmt c d.contents) a) rest)
      by_mark rest f t v e (is_live a u x y) = e

      go : (w : Verdict) → w ≡ unfinished k → Says (card_allows fmt c) plan w → mark_at fmt c q ≡ 0
      go w z (is_allowed a) = absurd (let x : ◌≡◌ {A = ℕ} 0 1 = cc z in omega arith)
      go w z (is_unfinished f rest t l) = by_mark rest f t (mark_at fmt c q) refl (d.marked q (inside plan o))
      go w z (is_hopeless j h f g) = absurd (let x : ◌≡◌ {A = ℕ} 0 1 = cc z in omega arith)

  after_letter : (u : List ℕ) (l p : ℕ) → state_after fmt c (u ++ (l ∷ [])) p ≡ move_at fmt c (state_after fmt c u p) (column ls l)
  after_letter [] l p = refl
  after_letter (x ∷ u) l p = after_letter u l (move_at fmt c p (column ls x))

  -- What a step owes is what judging the letters up to it does.
  step_owes : (u : List ℕ) (l q k : ℕ) → Known ls (u ++ (l ∷ [])) → step_on fmt c (state_after fmt c u 0) l ≡ owing q k → judge fmt c (u ++ (l ∷ [])) ≡ answered (unfinished k)
  step_owes u l q k o e = go (step_on fmt c p l) e (steps fmt c p l)
    where
      p : ℕ
      p = state_after fmt c u 0

      go : (s : Stepped) → s ≡ owing q k → Steps fmt c p l s → judge fmt c (u ++ (l ∷ [])) ≡ answered (unfinished k)
      go s e (step_no_card r n t) = absurd (n (sym (tested_only fmt c r t) ∙ z))
      go s e (step_unknown y f) = absurd (let w : ◌≡◌ {A = ℕ} 0 1 = cc e in omega arith)
      go s e (step_no_state y i x h) = absurd (let w : ◌≡◌ {A = ℕ} 0 1 = cc e in omega arith)
      go s e (step_moved y i x h m) = absurd (let w : ◌≡◌ {A = ℕ} 0 1 = cc e in omega arith)
      go s e (step_owing y i x h m j f) =
          let at : state_after fmt c (u ++ (l ∷ [])) 0 ≡ move_at fmt c p i = after_letter u l 0 ∙ ap (move_at fmt c p) (on_column fmt c l i d x) in
          let fewest : owed fmt c (move_at fmt c p i) ≡ j =
          fewest_one (letter_count fmt c) (machine_of fmt c) (move_at fmt c p i) (owed fmt c (move_at fmt c p i)) j (owed_fewest fmt c d (move_at fmt c p i) (d.inside p i h x.on) m) f in
          let same : j ≡ k = cc e in
          (judge_iff fmt c (u ++ (l ∷ [])) (unfinished k) z o).1
          (subst (λ n. Says (card_allows fmt c) (u ++ (l ∷ [])) (unfinished n)) (ap (owed fmt c) at ∙ fewest ∙ same) (owed_says (u ++ (l ∷ [])) o (ap (mark_at fmt c) at ∙ m)))

  -- THE SAME NUMBER: a step from the state after the letters u, by the letter l, gives the number k exactly when judging the letters u and l does.
  pub step_same : (u : List ℕ) (l k : ℕ) → Known ls (u ++ (l ∷ []))
      → ((q : ℕ) × (step_on fmt c (state_after fmt c u 0) l ≡ owing q k)) ↔ (judge fmt c (u ++ (l ∷ [])) ≡ answered (unfinished k))
  step_same u l k o = (λ (q, e). step_owes u l q k o e, back)
    where
      p : ℕ
      p = state_after fmt c u 0

      q : ℕ
      q = move_at fmt c p (column ls l)

      known : column ls l < letter_count fmt c
      known = rw (← letters_length fmt c d.contents) (known_right ls M u (l ∷ []) o).0

      lands : step_on fmt c p l ≡ landing fmt c q
      lands = step_loaded fmt c z p l (inside u (known_left ls u (l ∷ []) o)) known ∙ ap (landing fmt c) (step_at fmt c p (column ls l) (inside u (known_left ls u (l ∷ []) o)) known)

      back : judge fmt c (u ++ (l ∷ [])) ≡ answered (unfinished k) → (q : ℕ) × (step_on fmt c p l ≡ owing q k)
      back e =
          let m : mark_at fmt c q ≡ 0 = ap (mark_at fmt c) (sym (after_letter u l 0)) ∙ owed_mark (u ++ (l ∷ [])) o k ((judge_iff fmt c (u ++ (l ∷ [])) (unfinished k) z o).0 e) in
          let s : step_on fmt c p l ≡ owing q (owed fmt c q) = lands ∙ (rw m) in
          let same : owed fmt c q ≡ k = cc (sym (step_owes u l q (owed fmt c q) o s) ∙ e) in
          (q, s ∙ ap (owing q) same)

  -- and it is 1 at least, from whatever state.
  pub step_some : (p l q k : ℕ) → step_on fmt c p l ≡ owing q k → 1 ≤ k
  step_some p l q k e = go (step_on fmt c p l) e (steps fmt c p l)
    where
      go : (s : Stepped) → s ≡ owing q k → Steps fmt c p l s → 1 ≤ k
      go s e (step_no_card r n t) = absurd (n (sym (tested_only fmt c r t) ∙ z))
      go s e (step_unknown y f) = absurd (let w : ◌≡◌ {A = ℕ} 0 1 = cc e in omega arith)
      go s e (step_no_state y i x h) = absurd (let w : ◌≡◌ {A = ℕ} 0 1 = cc e in omega arith)
      go s e (step_moved y i x h m) = absurd (let w : ◌≡◌ {A = ℕ} 0 1 = cc e in omega arith)
      go s e (step_owing y i x h m j f) =
          let n : ℕ = move_at fmt c p i in
          let same : j ≡ k = cc e in
          rw (← same) (fewest_some (letter_count fmt c) M n j f (waits n (d.inside p i h x.on) m))
