-- Two automata whose states are related step by step: their runs are related, and their listings entry by entry.
use Rattle.std.specs.Prelude.{◌≡◌, refl, cond, List, [], ◌∷◌, ◌++◌, length, get_or, ltb}
use Rattle.std.proofs.Common.{ap, ap₂, le_refl, arith}
use Rattle.std.proofs.Math.Bool.{true, false}
use Prim.Native.Nat.{ℕ, zero, suc, ◌≤◌, ◌<◌}
use Rattle.automata.specs.Basics.{Test, find}
use Rattle.automata.specs.Automaton.{Automaton, Over, run}
use Rattle.automata.specs.Listing.{add, add_to, turn, listing}

module _ {S S' : Type 0} (R : S → S' → Type 0) where
  -- The lists are as long, and R holds entry by entry.
  abbrev pub Both : List S → List S' → Type 0
  Both [] [] = Unit {0}
  Both [] (y ∷ ys) = ⊥
  Both (x ∷ xs) [] = ⊥
  Both (x ∷ xs) (y ∷ ys) = R x y × Both xs ys

  pub both_length : (l : List S) (l' : List S') → Both l l' → length l ≡ length l'
  both_length [] [] b = refl
  both_length [] (y ∷ ys) b = absurd b
  both_length (x ∷ xs) [] b = absurd b
  both_length (x ∷ xs) (y ∷ ys) b = ap suc (both_length xs ys b.1)

  pub both_get_or : (l : List S) (l' : List S') (d : S) (d' : S') (i : ℕ) → R d d' → Both l l' → R (get_or l i d) (get_or l' i d')
  both_get_or [] [] d d' i r b = r
  both_get_or [] (y ∷ ys) d d' i r b = absurd b
  both_get_or (x ∷ xs) [] d d' i r b = absurd b
  both_get_or (x ∷ xs) (y ∷ ys) d d' zero r b = b.0
  both_get_or (x ∷ xs) (y ∷ ys) d d' (suc i) r b = both_get_or xs ys d d' i r b.1

  pub both_snoc : (l : List S) (l' : List S') (x : S) (x' : S') → R x x' → Both l l' → Both (l ++ (x ∷ [])) (l' ++ (x' ∷ []))
  both_snoc [] [] x x' r b = (r, tt)
  both_snoc [] (y ∷ ys) x x' r b = absurd b
  both_snoc (z ∷ zs) [] x x' r b = absurd b
  both_snoc (z ∷ zs) (y ∷ ys) x x' r b = (b.0, both_snoc zs ys x x' r b.1)

module _ {S S' : Type 0} (R : S → S' → Type 0) (E : Test S) (E' : Test S')
    (agree : (x y : S) (x' y' : S') → R x x' → R y y' → E.same x y ≡ E'.same x' y') where
  pub both_find : (l : List S) (l' : List S') (x : S) (x' : S') → R x x' → Both R l l' → find E x l ≡ find E' x' l'
  both_find [] [] x x' r b = refl
  both_find [] (y ∷ ys) x x' r b = absurd b
  both_find (z ∷ zs) [] x x' r b = absurd b
  both_find (z ∷ zs) (y ∷ ys) x x' r b = ap₂ (λ v n. cond v zero (suc n)) (agree x z x' y r b.0) (both_find zs ys x x' r b.1)

  pub both_add : (l : List S) (l' : List S') (x : S) (x' : S') → R x x' → Both R l l' → Both R (add E l x) (add E' l' x')
  unfolding add
  both_add l l' x x' r b =
      rw (both_find l l' x x' r b, both_length R l l' b)
      (elim (ltb (find E' x' l') (length l')) as (λ v. Both R (cond v l (l ++ (x ∷ []))) (cond v l' (l' ++ (x' ∷ [])))) [ true ↦ b | false ↦ both_snoc R l l' x x' r b ])

  module _ (A : Automaton S) (A' : Automaton S') (k : ℕ) (steps : (s : S) (s' : S') (c : ℕ) → c < k → R s s' → R (A.step s c) (A'.step s' c)) where
    both_add_to : (c : ℕ) → c ≤ k → (l : List S) (l' : List S') (s : S) (s' : S') → R s s' → Both R l l' → Both R (add_to E A c l s) (add_to E' A' c l' s')
    unfolding add_to
    both_add_to zero h l l' s s' r b = b
    both_add_to (suc c) h l l' s s' r b = both_add _ _ _ _ (steps s s' c h r) (both_add_to c (omega arith) l l' s s' r b)

    both_turn : (j : ℕ) (l : List S) (l' : List S') → R A.start A'.start → Both R l l' → Both R (turn E A k j l) (turn E' A' k j l')
    unfolding turn
    both_turn j l l' r b =
        rw (both_length R l l' b)
        (elim (ltb j (length l')) as (λ v. Both R (cond v (add_to E A k l (get_or l j A.start)) l) (cond v (add_to E' A' k l' (get_or l' j A'.start)) l'))
        [ true ↦ both_add_to k (le_refl k) l l' _ _ (both_get_or R l l' _ _ j r b) b | false ↦ b ])

    -- The listings of related automata are related.
    pub both_listing : (j : ℕ) → R A.start A'.start → Both R (listing E A k j) (listing E' A' k j)
    unfolding listing
    both_listing zero r = (r, tt)
    both_listing (suc j) r = both_turn j (listing E A k j) (listing E' A' k j) r (both_listing j r)

module _ {S S' : Type 0} (R : S → S' → Type 0) (A : Automaton S) (A' : Automaton S') (k : ℕ)
    (steps : (s : S) (s' : S') (c : ℕ) → c < k → R s s' → R (A.step s c) (A'.step s' c)) where
  pub both_run : (s : S) (s' : S') (w : List ℕ) → Over k w → R s s' → R (run A s w) (run A' s' w)
  both_run s s' [] o r = r
  both_run s s' (c ∷ w) o r = both_run (A.step s c) (A'.step s' c) w o.1 (steps s s' c o.0 r)
