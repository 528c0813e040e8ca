-- Laws of what specs/MountedStep.antt defines.
use Rattle.std.specs.Prelude.{◌≡◌, refl, ◌≢◌, List, [], ◌∷◌, ℕ, ◌≤◌, ◌<◌, ltb}
use Rattle.std.proofs.Common.{sym, ap, ◌∙◌, inl, inr, le_trans, arith}
use Rattle.automata.specs.Basics.{LtCases, lt_cases, ltb_lt, nat_test, find_at, find_least}
use Rattle.automata.specs.Decide.{unless, unless_elim, contradict}
use Rattle.automata.specs.Format.{Format, narrow}
use Rattle.card.specs.Layout.{letter_count, state_count, mark_at, move_at, letters_of, Contents, contents_test}
use Rattle.card.proofs.LayoutLaws.{contents_sound, contents_whole, letters_length, letters_at}
use Rattle.card.specs.Alphabet.{column}
use Rattle.card.specs.Load.{load_test}
use Rattle.card.proofs.LoadLaws.{tested, tested_only}
use Rattle.card.specs.Loads.{Loaded}
use Rattle.card.proofs.Loads.{load_loaded}
use Rattle.card.specs.Step as Today
use Rattle.card.proofs.Step as TodayLaws
use Rattle.card.proofs.Step.{column_unknown, ltb_le}
use Rattle.card.specs.MountedStep.{First, MountedStepped, MountedSteps, less_owed, mounted_step, moved, step_contents, step_moved, step_no_state, step_out_of_range, step_unknown, stopped}

module _ (fmt : Format) (c : List ℕ) (r : Contents fmt c) (l : ℕ) where
  column_first : column (letters_of fmt c) l < letter_count fmt c → First fmt c l (column (letters_of fmt c) l)
  column_first h = record {
    on = h;
    is = sym (letters_at fmt c r (column (letters_of fmt c) l) h) ∙ find_at nat_test 0 l (letters_of fmt c) (rw (letters_length fmt c r) h);
    before = λ j b e.
        let k = find_least nat_test 0 l (letters_of fmt c) j (rw (letters_length fmt c r) (le_trans b (omega arith))) (letters_at fmt c r j (le_trans b (omega arith)) ∙ e) in
        omega arith;
  }

-- ONE STEP answers so,
pub mounted_steps : (fmt : Format) (c : List ℕ) (p l : ℕ) → MountedSteps fmt c p l (mounted_step fmt c p l)
unfolding mounted_step
mounted_steps fmt c p l =
    unless_elim (MountedSteps fmt c p l) (stopped 21) (contents_test fmt c) _ (λ e. step_contents (λ r. contradict (contents_whole fmt c r) e)) λ e₁.
    let r : Contents fmt c = contents_sound fmt c e₁ in
    let i : ℕ = column (letters_of fmt c) l in
    unless_elim (MountedSteps fmt c p l) (stopped 27) (ltb i (letter_count fmt c)) _ (λ e. step_unknown r (column_unknown fmt c r l (ltb_le i (letter_count fmt c) e))) λ e₂.
    let f : First fmt c l i = column_first fmt c r l (ltb_lt i (letter_count fmt c) e₂) in
    unless_elim (MountedSteps fmt c p l) (stopped 28) (ltb p (state_count fmt c)) _ (λ e. step_no_state r i f (ltb_le p (state_count fmt c) e)) λ e₃.
    let h : p < state_count fmt c = ltb_lt p (state_count fmt c) e₃ in
    unless_elim (MountedSteps fmt c p l) (stopped 23) (ltb (move_at fmt c p i) (state_count fmt c)) _ (λ e. step_out_of_range r i f h (ltb_le (move_at fmt c p i) (state_count fmt c) e)) λ e₄.
    step_moved r i f h (ltb_lt (move_at fmt c p i) (state_count fmt c) e₄)

first_one : (fmt : Format) (c : List ℕ) (l i j : ℕ) → First fmt c l i → First fmt c l j → i ≡ j
first_one fmt c l i j f g = go (lt_cases i j) (lt_cases j i)
  where
    go : LtCases i j → LtCases j i → i ≡ j
    go (inl p) q = absurd (g.before i p.0 f.is)
    go (inr p) (inl q) = absurd (f.before j q.0 g.is)
    go (inr p) (inr q) = omega arith

-- and one answer only is right.
pub mounted_steps_only : (fmt : Format) (c : List ℕ) (p l : ℕ) (s : MountedStepped) → MountedSteps fmt c p l s → mounted_step fmt c p l ≡ s
mounted_steps_only fmt c p l s a = go (mounted_step fmt c p l) s (mounted_steps fmt c p l) a
  where
    go : (s s' : MountedStepped) → MountedSteps fmt c p l s → MountedSteps fmt c p l s' → s ≡ s'
    go s s' (step_contents f) (step_contents g) = refl
    go s s' (step_contents f) (step_unknown r g) = absurd (f r)
    go s s' (step_contents f) (step_no_state r i g h) = absurd (f r)
    go s s' (step_contents f) (step_out_of_range r i g h b) = absurd (f r)
    go s s' (step_contents f) (step_moved r i g h b) = absurd (f r)
    go s s' (step_unknown r f) (step_contents g) = absurd (g r)
    go s s' (step_unknown r f) (step_unknown q g) = refl
    go s s' (step_unknown r f) (step_no_state q i g h) = absurd (f i g.on g.is)
    go s s' (step_unknown r f) (step_out_of_range q i g h b) = absurd (f i g.on g.is)
    go s s' (step_unknown r f) (step_moved q i g h b) = absurd (f i g.on g.is)
    go s s' (step_no_state r i f h) (step_contents g) = absurd (g r)
    go s s' (step_no_state r i f h) (step_unknown q g) = absurd (g i f.on f.is)
    go s s' (step_no_state r i f h) (step_no_state q j g k) = refl
    go s s' (step_no_state r i f h) (step_out_of_range q j g k b) = absurd (omega arith)
    go s s' (step_no_state r i f h) (step_moved q j g k b) = absurd (omega arith)
    go s s' (step_out_of_range r i f h b) (step_contents g) = absurd (g r)
    go s s' (step_out_of_range r i f h b) (step_unknown q g) = absurd (g i f.on f.is)
    go s s' (step_out_of_range r i f h b) (step_no_state q j g k) = absurd (omega arith)
    go s s' (step_out_of_range r i f h b) (step_out_of_range q j g k d) = refl
    go s s' (step_out_of_range r i f h b) (step_moved q j g k d) = let z : i ≡ j = first_one fmt c l i j f g in let y : state_count fmt c ≤ move_at fmt c p j = rw z at b in absurd (omega arith)
    go s s' (step_moved r i f h b) (step_contents g) = absurd (g r)
    go s s' (step_moved r i f h b) (step_unknown q g) = absurd (g i f.on f.is)
    go s s' (step_moved r i f h b) (step_no_state q j g k) = absurd (omega arith)
    go s s' (step_moved r i f h b) (step_out_of_range q j g k d) = let z : i ≡ j = first_one fmt c l i j f g in let y : move_at fmt c p j < state_count fmt c = rw z at b in absurd (omega arith)
    go s s' (step_moved r i f h b) (step_moved q j g k d) = ap (λ i. moved (move_at fmt c p i) (mark_at fmt c (move_at fmt c p i))) (first_one fmt c l i j f g)

-- no contents; a move to 2, from state 1 only; the first column of a repeated letter
abbrev two : ℕ → ℕ → ℕ → List ℕ
two a b last = 12 ∷ 0 ∷ 2 ∷ 0 ∷ 14 ∷ 0 ∷ 2 ∷ 0 ∷ 16 ∷ 0 ∷ 4 ∷ 0 ∷ a ∷ b ∷ 1 ∷ 2 ∷ 1 ∷ 0 ∷ 1 ∷ last ∷ []

pub mounted_step_answers : mounted_step narrow [] 0 97 ∷ mounted_step narrow (two 97 98 2) 1 98 ∷ mounted_step narrow (two 97 98 2) 0 98 ∷ mounted_step narrow (two 97 97 1) 0 97 ∷ []
    ≡ stopped 21 ∷ stopped 23 ∷ moved 0 1 ∷ moved 1 2 ∷ []
unfolding mounted_step unless contents_test letters_of
mounted_step_answers = refl

-- ---- today's step

-- WHERE THE CARD LOADS a mounted board's step is today's less the number,
pub step_less : (fmt : Format) (c : List ℕ) → load_test fmt c ≡ 0 → (p l : ℕ) → mounted_step fmt c p l ≡ less_owed (Today.step_on fmt c p l)
step_less fmt c z p l = go (Today.step_on fmt c p l) (TodayLaws.steps fmt c p l)
  where
    d : Loaded fmt c
    d = load_loaded fmt c z

    first : (i : ℕ) → Today.On fmt c l i → First fmt c l i
    first i o = let e : column (letters_of fmt c) l ≡ i = TodayLaws.on_column fmt c l i d o in rw (← e) (column_first fmt c d.contents l (rw e o.on))

    moves : (i : ℕ) → Today.On fmt c l i → p < state_count fmt c → mounted_step fmt c p l ≡ moved (move_at fmt c p i) (mark_at fmt c (move_at fmt c p i))
    moves i o h = mounted_steps_only fmt c p l _ (step_moved d.contents i (first i o) h (d.inside p i h o.on))

    go : (s : Today.Stepped) → Today.Steps fmt c p l s → mounted_step fmt c p l ≡ less_owed s
    go s (Today.step_no_card r n t) = absurd (n (sym (tested_only fmt c r t) ∙ z))
    go s (Today.step_unknown y f) = mounted_steps_only fmt c p l (stopped 27) (step_unknown d.contents f)
    go s (Today.step_no_state y i o h) = mounted_steps_only fmt c p l (stopped 28) (step_no_state d.contents i (first i o) h)
    go s (Today.step_moved y i o h m) = moves i o h
    go s (Today.step_owing y i o h m k f) = moves i o h ∙ ap (moved (move_at fmt c p i)) m

-- and where it does not, today's step is the card's refusal, whatever the letter and the state.
pub step_refused : (fmt : Format) (c : List ℕ) → load_test fmt c ≢ 0 → (p l : ℕ) → Today.step_on fmt c p l ≡ Today.stopped (load_test fmt c)
step_refused fmt c f p l = TodayLaws.steps_only fmt c p l (Today.stopped (load_test fmt c)) (Today.step_no_card (load_test fmt c) f (tested fmt c))
