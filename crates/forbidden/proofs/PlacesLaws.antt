-- The places before any letter and after one letter more, and what the last place says.
use mathlib.Core.Path.{◌≡◌, sym, ap, ◌∙◌, subst}
use mathlib.Core.Bool.{Bool, false}
use mathlib.Core.Logic.{◌⊎◌, inl, inr, ◌↔◌, ◌≢◌}
use mathlib.Core.List.{List, [], ◌∷◌}
use Prim.Native.Nat.{ℕ, zero, suc, ◌+◌, ◌-◌, ◌≤◌, ◌<◌}
use native.Mathlib.Omega.{arith}
use lib.ListN.{length, get_or, take, drop, length-drop}
use lib.Seq.{take-length, drop-length, drop-cons}
use lib.Dec.{eqb}
use Rattle.automata.specs.Booleans.{not_true}
use Rattle.automata.specs.Basics.{SameCases, same_cases, nat_test}
use Rattle.automata.specs.Format.{narrow}
use Rattle.card.specs.Layout.{letter_count, state_count, mark_at, move_at, letters_of, marks_of, moves_of, machine_of}
use Rattle.card.proofs.LayoutLaws.{letters_length, moves_at}
use Rattle.card.specs.Alphabet.{column, Known}
use Rattle.card.proofs.Alphabet.{known_at}
use Rattle.card.specs.Loads.{Loaded}
use Rattle.card.proofs.Allowed.{allows_dead}
use Rattle.card.specs.Judge.{state_after, first_dead, card_allows}
use Rattle.factor.specs.Factor.{Inside, at, Blames}
use Rattle.factor.proofs.Factor.{nothing_empty}
use Rattle.factor.specs.LongerLaws.{ShortestStart}
use Rattle.factor.proofs.CardLaws.{known_factor, inside_from, outside_dead}
use Rattle.ends.specs.Ends.{DeadState, Filled, next_place, Stepped}
use Rattle.forbidden.proofs.DeadLaws.{place_or, move_state, first_low, dead_by, no_word, dead_is}

-- Of each state the place where, by the letters from i on, it is dead first.
pub record Places (c plan : List ℕ) (never i : ℕ) (ends : List ℕ) : Type 0 where
  pub entry : (q : ℕ) → q < state_count narrow c → get_or ends q 0 ≡ place_or never (first_dead narrow c (drop i plan) q i)

module _ (c : List ℕ) (l : Loaded narrow c) (plan : List ℕ) (o : Known (letters_of narrow c) plan) where
  abbrev ls : List ℕ
  ls = letters_of narrow c

  abbrev n : ℕ
  n = state_count narrow c

  abbrev m : ℕ
  m = letter_count narrow c

  abbrev ok : List ℕ → Bool
  ok = card_allows narrow c

  abbrev never : ℕ
  never = suc (length plan)

  abbrev first : List ℕ → ℕ → ℕ → ℕ
  first s q i = place_or never (first_dead narrow c s q i)

  states : 0 < n
  states = l.contents.states_some

  -- ---- whether the card allows anything

  pub something : (d : ℕ) → DeadState (marks_of narrow c) d → d ≢ 0 → Inside ok []
  something d D f = inside_from narrow c l [] tt 0 states (λ e. f (sym ((dead_is c l never d 0 D states).1 e)))

  pub nothing : (d : ℕ) → DeadState (marks_of narrow c) d → d ≡ 0 → Blames ok plan (at 0 0)
  nothing d D e = nothing_empty ok plan (λ w. allows_dead ls (machine_of narrow c) [] tt (rw (letters_length narrow c l.contents) (no_word c l never 0 states ((dead_is c l never d 0 D states).0 (sym e)))) w)

  -- ---- no letter

  pub places_start : (d : ℕ) (old new : List ℕ) → DeadState (marks_of narrow c) d → Filled n d (length plan) never old new → Places c plan never (length plan) new
  places_start d old new D F = record { entry = λ q h. rw (drop-length plan) (go q h (same_cases nat_test q d)) }
    where
      go : (q : ℕ) → q < n → SameCases nat_test q d → get_or new q 0 ≡ first [] q (length plan)
      go q h (inl e) =
          let y : mark_at narrow c q ≡ 2 = (dead_is c l never d q D h).0 e.0 in
          F.entry q h ∙ (rw (e.1, y))
      go q h (inr e) =
          let y : eqb (mark_at narrow c q) 2 ≡ false = not_true (eqb (mark_at narrow c q) 2) (λ t. e.0 ((dead_is c l never d q D h).1 (nat_test.sound (mark_at narrow c q) 2 t))) in
          F.entry q h ∙ (rw (e.1, y))

  -- ---- one letter

  module _ (i : ℕ) (b : i < length plan) where
    abbrev x : ℕ
    x = get_or plan i 0

    abbrev s : List ℕ
    s = drop (suc i) plan

    cut : drop i plan ≡ x ∷ s
    cut = drop-cons plan i 0 b

    known_x : column ls x < length ls
    known_x = known_at ls plan o i b

    known_s : Known ls s
    known_s = subst (Known ls) (take-length s) (known_factor narrow c plan (suc i) (length s) o)

    long : suc i + length s ≡ length plan
    long = omega (arith, length-drop (suc i) plan)

    module _ (before : List ℕ) (P : Places c plan never (suc i) before) where
      -- the places of the next states are those of the letters behind
      next_is : (q : ℕ) → q < n → next_place (moves_of narrow c) m (column ls x) before q ≡ first s (move_at narrow c q (column ls x)) (suc i)
      next_is q h =
          ap (λ t. get_or before t 0) (moves_at narrow c q (column ls x) h (rw (← letters_length narrow c l.contents) known_x))
          ∙ P.entry (move_at narrow c q (column ls x)) (move_state c l never q x h known_x)

      module _ (d : ℕ) (old new : List ℕ) (last : ℕ) (S : Stepped (moves_of narrow c) m n (column ls x) d i before old new last) where
        pub places_step : DeadState (marks_of narrow c) d → Places c plan never i new
        places_step D = record { entry = λ q h. rw cut (go q h (same_cases nat_test q d)) }
          where
            go : (q : ℕ) → q < n → SameCases nat_test q d → get_or new q 0 ≡ first (x ∷ s) q i
            go q h (inl e) =
                let y : mark_at narrow c q ≡ 2 = (dead_is c l never d q D h).0 e.0 in
                S.entry q h ∙ (rw (e.1, y))
            go q h (inr e) =
                let y : eqb (mark_at narrow c q) 2 ≡ false = not_true (eqb (mark_at narrow c q) 2) (λ t. e.0 ((dead_is c l never d q D h).1 (nat_test.sound (mark_at narrow c q) 2 t))) in
                S.entry q h ∙ (rw (e.1, y) (next_is q h))

        -- the last place is beyond the letter
        pub last_low : suc i ≤ last
        last_low = omega (arith, S.most 0 states, next_is 0 states, first_low c l never s (move_at narrow c 0 (column ls x)) (suc i) (omega (arith, long)))

        -- the state whose next place is the last
        furthest : (q : ℕ) × (q < n) × (first s (move_at narrow c q (column ls x)) (suc i) ≡ last)
        furthest = go S.attained
          where
            go : (last ≡ 0) ⊎ ((q : ℕ) × (q < n) × (next_place (moves_of narrow c) m (column ls x) before q ≡ last)) → (q : ℕ) × (q < n) × (first s (move_at narrow c q (column ls x)) (suc i) ≡ last)
            go (inl z) = absurd (omega (arith, last_low))
            go (inr (q, h, e)) = (q, h, sym (next_is q h) ∙ e)

        -- a state is dead after the letter and k more exactly when its next place is not beyond them
        behind : (q : ℕ) → q < n → (k : ℕ) → k ≤ length s
            → (mark_at narrow c (state_after narrow c (x ∷ take k s) q) ≡ 2) ↔ (first s (move_at narrow c q (column ls x)) (suc i) ≤ suc i + k)
        behind q y k h = dead_by c l never s (move_at narrow c q (column ls x)) (suc i) k (move_state c l never q x y known_x) known_s (omega (arith, long)) h

        -- Before the last place the letters from i on lie inside some allowed plan,
        before_last : (k : ℕ) → k ≤ length s → i + suc k < last → Inside ok (x ∷ take k s)
        before_last k h b = inside_from narrow c l (x ∷ take k s) (known_x, known_factor narrow c s 0 k known_s) furthest.0 furthest.1
            (λ e. let y = (behind furthest.0 furthest.1 k h).0 e in omega (arith, y, furthest.2))

        -- and at the last place they do not.
        at_last : (k : ℕ) → k ≤ length s → last ≤ i + suc k → ¬ Inside ok (x ∷ take k s)
        at_last k h b = outside_dead narrow c l (x ∷ take k s) (known_x, known_factor narrow c s 0 k known_s)
            (λ q y. (behind q y k h).1 (omega (arith, S.most q y, next_is q y)))

        -- NOWHERE: from some state the whole rest leads to no dead one.
        pub last_inside : never ≤ last → Inside ok (drop i plan)
        last_inside h = rw cut (subst (λ r. Inside ok (x ∷ r)) (take-length s) (before_last (length s) (omega arith) (omega (arith, long))))

        -- THE LAST PLACE ends the shortest beginning that lies inside no allowed plan.
        pub last_start : Inside ok [] → last < never → ShortestStart ok (drop i plan) (last - i)
        last_start e h = rw cut (go (last - i) (omega (arith, last_low)))
          where
            go : (k : ℕ) → last ≡ i + k → ShortestStart ok (x ∷ s) k
            go zero z = absurd (omega (arith, last_low))
            go (suc k) z = record {
              most = omega (arith, long);
              outside = at_last k (omega (arith, long)) (omega arith);
              shorter = short;
            }
              where
                short : (j : ℕ) → j < suc k → Inside ok (take j (x ∷ s))
                short zero b = e
                short (suc j) b = before_last j (omega (arith, long)) (omega arith)
