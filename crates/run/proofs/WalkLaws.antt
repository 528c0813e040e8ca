-- The walk over a card that loads: letter by letter, and past a dead state.
use mathlib.Core.Path.{◌≡◌, refl, sym, ap, subst, ◌∙◌}
use mathlib.Core.Logic.{inl, inr, ◌≢◌}
use mathlib.Core.List.{List, [], ◌∷◌}
use Prim.Native.Nat.{ℕ, suc, ◌+◌, ◌*◌, ◌-◌, ◌≤◌, ◌<◌}
use native.Mathlib.Nat.{le_refl, add_comm}
use native.Mathlib.Numerals.{add-one}
use native.Mathlib.Omega.{arith}
use lib.ListN.{length, get_or, take, drop, drop_of_length-le}
use lib.Seq.{drop-cons, get_or-take, get_or-drop}
use mir.Syntax.{w8}
use mir.Val.{Fits}
use borrow.Author.Tests.{eq-eqb, ne_eqb}
use Rattle.automata.specs.Basics.{LtCases, lt_cases, nat_test, find_le}
use Rattle.automata.specs.Rows.{cell_below}
use Rattle.automata.specs.Format.{narrow}
use Rattle.automata.specs.Dead.{Dead, dead_one}
use Rattle.automata.specs.Machine.{size, automaton}
use Rattle.card.specs.Layout.{letter_count, state_count, mark_at, move_at, letters_of, marks_of, moves_of, machine_of, Contents}
use Rattle.card.proofs.LayoutLaws.{letters_length, marks_of_length, marks_at, moves_length, moves_at, size_is}
use Rattle.card.specs.Alphabet.{column}
use Rattle.fields.specs.Counts.{Counted}
use Rattle.card.specs.Loads.{Loaded}
use Rattle.card.proofs.Loads.{load_loaded, loaded_card}
use Rattle.card.specs.Mark.{Mark, is_accepting, is_dead, is_live}
use Rattle.card.specs.Judge.{none, found, dead_at}
use Rattle.card.specs.Run.{going, halted, run_on}
use Rattle.card.proofs.RunLaws.{letter_known, letter_unknown, run_halted, dead_stays}
use Rattle.run.specs.declared.Walk.TheVariants.{Dead as Stopped, Unknown}
use Rattle.run.specs.Walk.{Ready, ColumnTable, KnownTo, Walked}

-- ---- what the card's parts say

module _ (c : List ℕ) (m n : ℕ) (r : Ready c m n) where
  abbrev ls : List ℕ
  ls = letters_of narrow c

  on_card : Loaded narrow c
  on_card = load_loaded narrow c r.loads

  right : Contents narrow c
  right = on_card.contents

  pub ready_counted : Counted narrow c m n
  ready_counted = record { right = right; letters = r.letters; states = r.states }

  pub letters_many_lem : length ls ≡ m
  letters_many_lem = letters_length narrow c right ∙ r.letters

  pub letters_few : m ≤ 26
  letters_few = rw r.letters at right.letters_most

  pub states_few : n ≤ 120
  states_few = rw r.states at right.states_most

  low : (p : ℕ) → p < n → p < state_count narrow c
  low p h = rw r.states h

  pub column_most : (t : List ℕ) → ColumnTable ls t → (b : ℕ) → b < 256 → get_or t b 0 ≤ m
  column_most t k b h = rw (k.entry b h, ← letters_many_lem) (find_le nat_test b ls)

  module _ (p i : ℕ) (h : p < n) (v : i < m) where
    hp : p < state_count narrow c
    hp = low p h

    hi : i < letter_count narrow c
    hi = rw r.letters v

    pub move_room : (bs : List ℕ) → bs ≡ moves_of narrow c → p * m + i < length bs
    move_room bs e = omega (arith, ap length e, moves_length narrow c, cell_below n m p i h v, ap (λ x. x * letter_count narrow c) r.states, ap (λ x. n * x) r.letters)

    pub move_is : (bs : List ℕ) → bs ≡ moves_of narrow c → get_or bs (p * m + i) 0 ≡ move_at narrow c p i
    move_is bs e = ap (λ l. get_or l (p * m + i) 0) e ∙ ap (λ x. get_or (moves_of narrow c) (p * x + i) 0) (sym r.letters) ∙ moves_at narrow c p i hp hi

    pub move_inside : move_at narrow c p i < n
    move_inside = subst (λ x. move_at narrow c p i < x) r.states (on_card.inside p i hp hi)

  pub mark_room : (p : ℕ) (ms : List ℕ) → ms ≡ marks_of narrow c → p < n → p < length ms
  mark_room p ms e h = omega (arith, ap length e, marks_of_length narrow c right, r.states)

  pub mark_is : (p : ℕ) (ms : List ℕ) → ms ≡ marks_of narrow c → p < n → get_or ms p 0 ≡ mark_at narrow c p
  mark_is p ms e h = ap (λ l. get_or l p 0) e ∙ marks_at narrow c right p (low p h)

  -- a state that is neither unfinished nor accepting is dead
  pub dead_else : (p : ℕ) → p < n → mark_at narrow c p ≢ 0 → mark_at narrow c p ≢ 1 → 2 ≡ mark_at narrow c p
  dead_else p h z a = go (mark_at narrow c p) refl (on_card.marked p (low p h))
    where
      go : (v : ℕ) → mark_at narrow c p ≡ v → Mark (letter_count narrow c) (machine_of narrow c) p v → 2 ≡ mark_at narrow c p
      go v e (is_accepting x) = absurd (a e)
      go v e (is_live x w o t) = absurd (z e)
      go v e (is_dead d) = sym e

  -- a dead state stays
  pub dead_same : (p i : ℕ) → p < n → i < m → mark_at narrow c p ≡ 2 → move_at narrow c p i ≡ p
  dead_same p i h v e = dead_one (length ls) (machine_of narrow c) (loaded_card narrow c on_card).canonical (move_at narrow c p i) p
      (in_machine (move_at narrow c p i) (move_inside p i h v)) (in_machine p h)
      (is_dead_state (move_at narrow c p i) (move_inside p i h v) (dead_stays narrow c on_card p i (low p h) (rw r.letters v) e)) (is_dead_state p h e)
    where
      in_machine : (p : ℕ) → p < n → p < size (machine_of narrow c)
      in_machine p h = rw (size_is narrow c right) (low p h)

      is_dead_state : (p : ℕ) → p < n → mark_at narrow c p ≡ 2 → Dead (length ls) (automaton (machine_of narrow c)) p
      is_dead_state p h e = rw (letters_length narrow c right) (go (mark_at narrow c p) e (on_card.marked p (low p h)))
        where
          go : (v : ℕ) → v ≡ 2 → Mark (letter_count narrow c) (machine_of narrow c) p v → Dead (letter_count narrow c) (automaton (machine_of narrow c)) p
          go v z (is_accepting a) = absurd (omega arith)
          go v z (is_live a w o t) = absurd (omega arith)
          go v z (is_dead d) = d

-- ---- letter by letter

pub front : (s : List ℕ) (k : ℕ) → k < length s → drop k s ≡ get_or s k 0 ∷ drop (k + 1) s
front s k h = rw (add-one k) (drop-cons s k 0 h)

module _ (c plan : List ℕ) where
  abbrev ks : List ℕ
  ks = letters_of narrow c

  -- After k letters of the piece the walk from p is in s, and no state on the way is dead.
  pub record WalkUpto (p s k : ℕ) : Type 0 where
    pub alive : mark_at narrow c s ≢ 2
    pub is : (j : ℕ) → run_on narrow c (going p j none) plan ≡ run_on narrow c (going s (j + k) none) (drop k plan)

  pub walk_start : (p : ℕ) → mark_at narrow c p ≢ 2 → WalkUpto p p 0
  walk_start p d = record { alive = d; is = λ j. let z : j + 0 ≡ j = omega arith in rw z }

  module _ (p s k : ℕ) (h : k < length plan) (u : WalkUpto p s k) where
    one_more : (j : ℕ) → column ks (get_or plan k 0) < length ks
        → run_on narrow c (going p j none) plan ≡ run_on narrow c (going (move_at narrow c s (column ks (get_or plan k 0))) (j + (k + 1)) (dead_at narrow c (move_at narrow c s (column ks (get_or plan k 0))) (j + (k + 1)))) (drop (k + 1) plan)
    one_more j v =
        let z : suc (j + k) ≡ j + (k + 1) = omega arith in
        u.is j ∙ ap (run_on narrow c (going s (j + k) none)) (front plan k h)
        ∙ ap (λ r. run_on narrow c r (drop (k + 1) plan)) (letter_known narrow c s (j + k) none (get_or plan k 0) v ∙ ap (λ x. going (move_at narrow c s (column ks (get_or plan k 0))) x (dead_at narrow c (move_at narrow c s (column ks (get_or plan k 0))) x)) z)

    pub walk_next : (q : ℕ) → q ≡ move_at narrow c s (column ks (get_or plan k 0)) → column ks (get_or plan k 0) < length ks → mark_at narrow c q ≢ 2 → WalkUpto p q (k + 1)
    walk_next q e v d = record { alive = d; is = λ j. one_more j v ∙ (rw (← e) (rw (ne_eqb (mark_at narrow c q) 2 d))) }

    pub walk_dead : (q : ℕ) → q ≡ move_at narrow c s (column ks (get_or plan k 0)) → column ks (get_or plan k 0) < length ks → mark_at narrow c q ≡ 2
        → (j : ℕ) → run_on narrow c (going p j none) plan ≡ run_on narrow c (going q (j + (k + 1)) (found (j + (k + 1)))) (drop (k + 1) plan)
    walk_dead q e v d j = one_more j v ∙ (rw (← e) (rw (eq-eqb (mark_at narrow c q) 2 d)))

    pub walk_unknown : length ks ≤ column ks (get_or plan k 0) → (j : ℕ) → run_on narrow c (going p j none) plan ≡ halted s (j + k) none (j + k)
    walk_unknown v j = u.is j ∙ ap (run_on narrow c (going s (j + k) none)) (front plan k h)
        ∙ ap (λ r. run_on narrow c r (drop (k + 1) plan)) (letter_unknown narrow c s (j + k) none (get_or plan k 0) v) ∙ run_halted narrow c s (j + k) none (j + k) (drop (k + 1) plan)

  pub walk_done : (p s k : ℕ) → WalkUpto p s k → k ≡ length plan → (j : ℕ) → run_on narrow c (going p j none) plan ≡ going s (j + length plan) none
  walk_done p s k u e j = let z : drop k plan ≡ [] = drop_of_length-le plan {i = k} (omega arith) in rw (← e) (u.is j ∙ (rw z))

-- ---- a letter's column

module _ (c : List ℕ) (m n : ℕ) (r : Ready c m n) (t : List ℕ) (T : ColumnTable (letters_of narrow c) t) (b : ℕ) (f : Fits w8 b) where
  pub column_unknown : m ≤ get_or t b 0 → length (letters_of narrow c) ≤ column (letters_of narrow c) b
  column_unknown h = rw (letters_many_lem c m n r, ← T.entry b f.fits) h

  pub column_known : get_or t b 0 < m → column (letters_of narrow c) b < length (letters_of narrow c)
  column_known h = rw (letters_many_lem c m n r, ← T.entry b f.fits) h

-- ---- a turn of the walk

module _ (c : List ℕ) (m n : ℕ) (r : Ready c m n) (t : List ℕ) (T : ColumnTable (letters_of narrow c) t) (plan : List ℕ) (p s k : ℕ) (h : k < length plan) (a : s < n) (u : WalkUpto c plan p s k)
    (f : Fits w8 (get_or plan k 0)) where
  pub turn_unknown : m ≤ get_or t (get_or plan k 0) 0 → Walked c n plan p (Unknown s k)
  turn_unknown v = record { is = walk_unknown c plan p s k h u (column_unknown c m n r t T (get_or plan k 0) f v); end = (a, u.alive, omega arith) }

  module _ (v : get_or t (get_or plan k 0) 0 < m) (moves : List ℕ) (me : moves ≡ moves_of narrow c) (marks : List ℕ) (ke : marks ≡ marks_of narrow c) (q : ℕ)
      (e : q ≡ get_or moves (s * m + get_or t (get_or plan k 0) 0) 0) where
    there : q ≡ move_at narrow c s (get_or t (get_or plan k 0) 0)
    there = e ∙ move_is c m n r s (get_or t (get_or plan k 0) 0) a v moves me

    to : q ≡ move_at narrow c s (column (letters_of narrow c) (get_or plan k 0))
    to = there ∙ ap (move_at narrow c s) (T.entry (get_or plan k 0) f.fits)

    pub turn_inside : q < n
    turn_inside = rw there (move_inside c m n r s (get_or t (get_or plan k 0) 0) a v)

    pub turn_room : q < length marks
    turn_room = mark_room c m n r q marks ke turn_inside

    pub turn_dead : get_or marks q 0 ≡ 2 → Walked c n plan p (Stopped q (k + 1))
    turn_dead d =
        let y : mark_at narrow c q ≡ 2 = sym (mark_is c m n r q marks ke turn_inside) ∙ d in
        record { is = walk_dead c plan p s k h u q to (column_known c m n r t T (get_or plan k 0) f v) y; end = (turn_inside, y, omega arith) }

    pub turn_next : get_or marks q 0 ≢ 2 → WalkUpto c plan p q (k + 1)
    turn_next d = walk_next c plan p s k h u q to (column_known c m n r t T (get_or plan k 0) f v) (λ y. d (mark_is c m n r q marks ke turn_inside ∙ y))

-- ---- letters only

pub record KnownUpto (ls plan : List ℕ) (from k : ℕ) : Type 0 where
  pub low : from ≤ k
  pub known : (j : ℕ) → from ≤ j → j < k → column ls (get_or plan j 0) < length ls

pub known_start : (ls plan : List ℕ) (from : ℕ) → KnownUpto ls plan from from
known_start ls plan from = record { low = le_refl from; known = λ j a b. absurd (omega arith) }

module _ (ls plan : List ℕ) (from k : ℕ) (u : KnownUpto ls plan from k) where
  pub known_next : column ls (get_or plan k 0) < length ls → KnownUpto ls plan from (k + 1)
  known_next v = record { low = omega (arith, u.low); known = λ j a b. go j a b (lt_cases j k) }
    where
      go : (j : ℕ) → from ≤ j → j < k + 1 → LtCases j k → column ls (get_or plan j 0) < length ls
      go j a b (inl x) = u.known j a x.0
      go j a b (inr x) = let z : j ≡ k = omega arith in rw z v

  pub known_stop : k < length plan → length ls ≤ column ls (get_or plan k 0) → KnownTo ls plan from k
  known_stop h v = record { low = u.low; most = omega arith; known = u.known; unknown = λ _. v }

  pub known_end : k ≡ length plan → KnownTo ls plan from (length plan)
  known_end e = record { low = omega (arith, u.low); most = le_refl (length plan); known = λ j a b. u.known j a (omega arith); unknown = λ h. absurd (omega arith) }

-- ---- a column behind the others

-- a place of what lies behind the first i
pub column_at : (moves : List ℕ) (m p i : ℕ) → p * m + i < length moves → get_or (take (length moves - i) (drop i moves)) (p * m) 0 ≡ get_or moves (p * m + i) 0
column_at moves m p i h = get_or-take (length moves - i) (drop i moves) (p * m) 0 (omega arith) ∙ get_or-drop i moves (p * m) 0 ∙ ap (λ (x : ℕ). get_or moves x 0) (add_comm i (p * m))
