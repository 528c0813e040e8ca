-- On a card that loads: a state is dead after some letters exactly when the place where it is dead first is not beyond them; and the card's one dead state.
use mathlib.Core.Path.{◌≡◌, sym, ◌∙◌}
use mathlib.Core.Logic.{inl, inr, ◌↔◌}
use mathlib.Core.List.{List, [], ◌∷◌}
use Prim.Native.Nat.{ℕ, zero, suc, ◌+◌, ◌≤◌, ◌<◌}
use native.Mathlib.Omega.{arith}
use lib.ListN.{length, take}
use Rattle.automata.specs.Basics.{LtCases, lt_cases, SameCases, same_cases, nat_test}
use Rattle.automata.specs.Machine.{automaton}
use Rattle.automata.specs.Dead.{Dead, dead_one}
use Rattle.automata.specs.Format.{narrow}
use Rattle.card.specs.Mark.{Mark, is_accepting, is_dead, is_live}
use Rattle.card.specs.Layout.{letter_count, state_count, mark_at, move_at, letters_of, marks_of, machine_of}
use Rattle.card.proofs.LayoutLaws.{letters_length, marks_of_length, marks_at, size_is}
use Rattle.card.specs.Alphabet.{column, Known}
use Rattle.card.specs.Loads.{Loaded}
use Rattle.card.proofs.Loads.{loaded_card}
use Rattle.card.specs.Judge.{Place, none, found, state_after, first_dead}
use Rattle.card.proofs.RunLaws.{dead_stays}
use Rattle.factor.proofs.CardLaws.{known_factor}
use Rattle.ends.specs.Ends.{DeadState}

-- A place as a number, `never` where there is none.
abbrev pub place_or : ℕ → Place → ℕ
place_or never none = never
place_or never (found k) = k

module _ (c : List ℕ) (l : Loaded narrow c) (never : ℕ) where
  abbrev ls : List ℕ
  ls = letters_of narrow c

  abbrev n : ℕ
  n = state_count narrow c

  abbrev mark : ℕ → ℕ
  mark q = mark_at narrow c q

  abbrev move : ℕ → ℕ → ℕ
  move q x = move_at narrow c q (column ls x)

  abbrev first : List ℕ → ℕ → ℕ → ℕ
  first s q i = place_or never (first_dead narrow c s q i)

  known_column : (x : ℕ) → column ls x < length ls → column ls x < letter_count narrow c
  known_column x h = rw (← letters_length narrow c l.contents) h

  pub move_state : (q x : ℕ) → q < n → column ls x < length ls → move q x < n
  move_state q x h b = l.inside q (column ls x) h (known_column x b)

  dead_after : (s : List ℕ) (q : ℕ) → q < n → Known ls s → mark q ≡ 2 → mark (state_after narrow c s q) ≡ 2
  dead_after [] q h o e = e
  dead_after (x ∷ s) q h o e = dead_after s (move q x) (move_state q x h o.0) o.1 (dead_stays narrow c l q (column ls x) h (known_column x o.0) e)

  -- a place is not before the first letter
  pub first_low : (s : List ℕ) (q i : ℕ) → i + length s < never → i ≤ first s q i
  first_low [] q i h = go (same_cases nat_test (mark q) 2)
    where
      go : SameCases nat_test (mark q) 2 → i ≤ first [] q i
      go (inl e) = rw e.1 (omega arith)
      go (inr e) = rw e.1 (omega arith)
  first_low (x ∷ s) q i h = go (same_cases nat_test (mark q) 2) (first_low s (move q x) (suc i) (omega arith))
    where
      go : SameCases nat_test (mark q) 2 → suc i ≤ first s (move q x) (suc i) → i ≤ first (x ∷ s) q i
      go (inl e) r = rw e.1 (omega arith)
      go (inr e) r = rw e.1 (omega arith)

  -- DEAD after k letters exactly when the place is not beyond them.
  pub dead_by : (s : List ℕ) (q i k : ℕ) → q < n → Known ls s → i + length s < never → k ≤ length s → (mark (state_after narrow c (take k s) q) ≡ 2) ↔ (first s q i ≤ i + k)
  dead_by [] q i k h o b f = go (same_cases nat_test (mark q) 2)
    where
      z : k ≡ 0
      z = omega arith

      go : SameCases nat_test (mark q) 2 → (mark (state_after narrow c (take k []) q) ≡ 2) ↔ (first [] q i ≤ i + k)
      go (inl e) = rw (e.1, z) (λ _. omega arith, λ _. e.0)
      go (inr e) = rw (e.1, z) (λ t. absurd (e.0 t), λ t. absurd (omega arith))
  dead_by (x ∷ s) q i zero h o b f = go (same_cases nat_test (mark q) 2) (first_low s (move q x) (suc i) (omega arith))
    where
      go : SameCases nat_test (mark q) 2 → suc i ≤ first s (move q x) (suc i) → (mark q ≡ 2) ↔ (first (x ∷ s) q i ≤ i + zero)
      go (inl e) r = rw e.1 (λ _. omega arith, λ _. e.0)
      go (inr e) r = rw e.1 (λ t. absurd (e.0 t), λ t. absurd (omega arith))
  dead_by (x ∷ s) q i (suc k) h o b f =
      go (same_cases nat_test (mark q) 2) (dead_by s (move q x) (suc i) k (move_state q x h o.0) o.1 (omega arith) (omega arith))
    where
      go : SameCases nat_test (mark q) 2 → (mark (state_after narrow c (take k s) (move q x)) ≡ 2) ↔ (first s (move q x) (suc i) ≤ suc i + k)
          → (mark (state_after narrow c (take k s) (move q x)) ≡ 2) ↔ (first (x ∷ s) q i ≤ i + suc k)
      go (inl e) r = rw e.1 (λ _. omega arith, λ _. dead_after (x ∷ take k s) q h (o.0, known_factor narrow c s 0 k o.1) e.0)
      go (inr e) r = rw e.1 (λ t. let y = r.0 t in omega arith, λ t. r.1 (omega arith))

  -- a state with marks byte 2 is one "where no continuation is allowed"
  pub no_word : (p : ℕ) → p < n → mark p ≡ 2 → Dead (letter_count narrow c) (automaton (machine_of narrow c)) p
  no_word p b e = go (mark p) e (l.marked p b)
    where
      go : (v : ℕ) → v ≡ 2 → Mark (letter_count narrow c) (machine_of narrow c) p v → Dead (letter_count narrow c) (automaton (machine_of narrow c)) p
      go v z (is_accepting a) = absurd (omega arith)
      go v z (is_live a w o t) = absurd (omega arith)
      go v z (is_dead x) = x

  -- THE ONE DEAD STATE of a card: two would be equivalent.
  pub dead_is : (d q : ℕ) → DeadState (marks_of narrow c) d → q < n → (q ≡ d) ↔ (mark q ≡ 2)
  dead_is d q D h = (
    λ e. let b : d < length (marks_of narrow c) = rw (← e, long) h in rw e (sym (marks_at narrow c l.contents d (rw long at b)) ∙ D.dead b),
    λ e. back e (lt_cases q d),
  )
    where
      long : length (marks_of narrow c) ≡ n
      long = marks_of_length narrow c l.contents

      back : mark q ≡ 2 → LtCases q d → q ≡ d
      back e (inl b) = absurd (D.before q b.0 (marks_at narrow c l.contents q h ∙ e))
      back e (inr b) =
          let f : d < n = omega (arith, b.0) in
          let g : mark d ≡ 2 = sym (marks_at narrow c l.contents d f) ∙ D.dead (rw long f) in
          dead_one (letter_count narrow c) (machine_of narrow c) (rw (← letters_length narrow c l.contents) (loaded_card narrow c l).canonical) q d
          (rw (size_is narrow c l.contents) h) (rw (size_is narrow c l.contents) f) (no_word q h e) (no_word d f g)
