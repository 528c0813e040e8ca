-- Laws of what specs/Live.antt defines.
use Rattle.std.specs.Prelude.{◌≡◌, Bool, ◌⊎◌}
use Rattle.std.proofs.Common.{sym, ◌∙◌, inl, le_refl, not-suc-le-zero}
use Rattle.std.proofs.Math.Bool.{true, false}
use Rattle.std.proofs.Math.Logic.{inr}
use mathlib.Core.List.{List, [], ◌∷◌}
use Prim.Native.Nat.{ℕ, zero, suc, ◌≤◌, ◌<◌, zero-le, suc-le-suc}
use Rattle.std.proofs.Math.Nat.{le_of_suc-le-suc}
use native.Mathlib.Omega.{arith}
use Rattle.std.proofs.Math.ListN.{get_or}
use Rattle.automata.specs.Booleans.{bool_cases, choose, not_true, bool_iff}
use Rattle.automata.specs.Basics.{LtCases, lt_cases, get_or_tab}
use Rattle.automata.specs.Automaton.{Over, run}
use Rattle.automata.specs.Machine.{Machine, size, automaton, WellFormed}
use Rattle.automata.specs.Partition.{count, count_le, count_same}
use Rattle.automata.specs.Dead.{Dead}
use Rattle.automata.specs.Decide.{contradict, any_below, any_below_lem, below_any}
use Rattle.automata.specs.Live.{Within, live, live_next, live_round}

module _ (k : ℕ) (M : Machine) (l : List Bool) (p : ℕ) (h : p < size M) where
  next_at : get_or (live_next k M l) p false ≡ choose (get_or l p false) (λ _. true) (λ _. any_below (λ c. get_or l ((automaton M).step p c) false) k)
  unfolding live_next
  next_at = get_or_tab (λ p. choose (get_or l p false) (λ _. true) (λ _. any_below (λ c. get_or l ((automaton M).step p c) false) k)) (size M) p false h

  next_keeps : get_or l p false ≡ true → get_or (live_next k M l) p false ≡ true
  next_keeps e = next_at ∙ (rw e)

  next_leads : (c : ℕ) → c < k → get_or l ((automaton M).step p c) false ≡ true → get_or (live_next k M l) p false ≡ true
  next_leads c b e = next_at ∙ go (bool_cases (get_or l p false))
    where
      go : (get_or l p false ≡ true) ⊎ (get_or l p false ≡ false) → choose (get_or l p false) (λ _. true) (λ _. any_below (λ c. get_or l ((automaton M).step p c) false) k) ≡ true
      go (inl x) = rw x
      go (inr x) = rw x (below_any (λ c. get_or l ((automaton M).step p c) false) k c b e)

  next_cases : get_or (live_next k M l) p false ≡ true → (get_or l p false ≡ true) ⊎ ((c : ℕ) × (c < k) × (get_or l ((automaton M).step p c) false ≡ true))
  next_cases e = go (bool_cases (get_or l p false)) (sym next_at ∙ e)
    where
      go : (get_or l p false ≡ true) ⊎ (get_or l p false ≡ false) → choose (get_or l p false) (λ _. true) (λ _. any_below (λ c. get_or l ((automaton M).step p c) false) k) ≡ true
          → (get_or l p false ≡ true) ⊎ ((c : ℕ) × (c < k) × (get_or l ((automaton M).step p c) false ≡ true))
      go (inl x) t = inl x
      go (inr x) t = inr (any_below_lem (λ c. get_or l ((automaton M).step p c) false) k (rw x at t))

module _ (k : ℕ) (M : Machine) (F : WellFormed k M) where
  abbrev at : ℕ → ℕ → Bool
  at j p = get_or (live_round k M j) p false

  -- Round j has just the states from which a word of at most j columns is accepted.
  pub round_sound : (j p : ℕ) → p < size M → get_or (live_round k M j) p false ≡ true → Within k M j p
  unfolding live_round
  round_sound zero p h e = ([], tt, zero-le, e)
  round_sound (suc j) p h e = go (next_cases k M (live_round k M j) p h e) (round_sound j)
    where
      go : (at j p ≡ true) ⊎ ((c : ℕ) × (c < k) × (at j ((automaton M).step p c) ≡ true))
          → ((p : ℕ) → p < size M → at j p ≡ true → Within k M j p) → Within k M (suc j) p
      go (inl x) r = let (w, o, b, f) = r p h x in (w, o, omega arith, f)
      go (inr (c, b, x)) r = let (w, o, d, f) = r ((automaton M).step p c) (F.inside p c h b) x in (c ∷ w, (b, o), suc-le-suc d, f)

  pub round_whole : (j p : ℕ) → p < size M → Within k M j p → get_or (live_round k M j) p false ≡ true
  unfolding live_round
  round_whole zero p h ([], o, b, f) = f
  round_whole zero p h (c ∷ w, o, b, f) = absurd (not-suc-le-zero b)
  round_whole (suc j) p h ([], o, b, f) = next_keeps k M (live_round k M j) p h (round_whole j p h ([], tt, zero-le, f))
  round_whole (suc j) p h (c ∷ w, o, b, f) =
      next_leads k M (live_round k M j) p h c o.0 (round_whole j ((automaton M).step p c) (F.inside p c h o.0) (w, o.1, le_of_suc-le-suc b, f))

  -- ---- as many rounds as there are states are enough

  Stable : ℕ → Type 0
  Stable j = (p : ℕ) → p < size M → at (suc j) p ≡ true → at j p ≡ true

  stable_suc : (j : ℕ) → Stable j → Stable (suc j)
  unfolding Stable live_round
  stable_suc j s p h e = go (next_cases k M (live_round k M (suc j)) p h e)
    where
      go : (at (suc j) p ≡ true) ⊎ ((c : ℕ) × (c < k) × (at (suc j) ((automaton M).step p c) ≡ true)) → at (suc j) p ≡ true
      go (inl x) = x
      go (inr (c, b, x)) = next_leads k M (live_round k M j) p h c b (s ((automaton M).step p c) (F.inside p c h b) x)

  stable_later : (j i : ℕ) → j ≤ i → Stable j → Stable i
  stable_later j zero h s = let z : j ≡ zero = omega arith in rw z at s
  stable_later j (suc i) h s = go (lt_cases i j) (stable_later j i)
    where
      go : LtCases i j → (j ≤ i → Stable j → Stable i) → Stable (suc i)
      go (inl p) r = let z : j ≡ suc i = omega arith in rw z at s
      go (inr p) r = stable_suc i (r p.0 s)

  progress : (m : ℕ) → ((j : ℕ) × (j < m) × Stable j) ⊎ (m ≤ count (at m) (size M))
  unfolding Stable live_round
  progress zero = inr zero-le
  progress (suc m) = go (progress m) (lt_cases (count (at m) (size M)) (count (at (suc m)) (size M)))
    where
      keeps : (i : ℕ) → i < size M → at m i ≡ true → at (suc m) i ≡ true
      keeps i b e = next_keeps k M (live_round k M m) i b e

      go : ((j : ℕ) × (j < m) × Stable j) ⊎ (m ≤ count (at m) (size M)) → LtCases (count (at m) (size M)) (count (at (suc m)) (size M))
          → ((j : ℕ) × (j < suc m) × Stable j) ⊎ (suc m ≤ count (at (suc m)) (size M))
      go (inl (j, b, s)) c = inl (j, omega arith, s)
      go (inr b) (inl c) = inr (omega arith)
      go (inr b) (inr c) = inl (m, le_refl (suc m), count_same (at m) (at (suc m)) (size M) keeps c.0)

  stable_size : Stable (size M)
  stable_size = go (progress (suc (size M)))
    where
      go : ((j : ℕ) × (j < suc (size M)) × Stable j) ⊎ (suc (size M) ≤ count (at (suc (size M))) (size M)) → Stable (size M)
      go (inl (j, b, s)) = stable_later j (size M) (le_of_suc-le-suc b) s
      go (inr b) = absurd (omega (arith, count_le (at (suc (size M))) (size M)))

  -- A word accepted from p makes p live.
  pub live_word : (w : List ℕ) (p : ℕ) → p < size M → Over k w → (automaton M).accepting (run (automaton M) p w) ≡ true → get_or (live k M) p false ≡ true
  unfolding live Stable live_round
  live_word [] p h o f = round_whole (size M) p h ([], tt, zero-le, f)
  live_word (c ∷ w) p h o f =
      stable_size p h (next_leads k M (live_round k M (size M)) p h c o.0 (live_word w ((automaton M).step p c) (F.inside p c h o.0) o.1 f))

  -- From a live state a word is accepted, of no more columns than there are states.
  pub live_within : (p : ℕ) → p < size M → get_or (live k M) p false ≡ true → Within k M (size M) p
  unfolding live
  live_within p h e = round_sound (size M) p h e

  pub live_dead : (p : ℕ) → p < size M → get_or (live k M) p false ≡ false → Dead k (automaton M) p
  live_dead p h e w o = not_true _ λ t. contradict (live_word w p h o t) e

  pub dead_live : (p : ℕ) → p < size M → Dead k (automaton M) p → get_or (live k M) p false ≡ false
  dead_live p h d = not_true _ λ t. let (w, o, b, f) = live_within p h t in contradict f (d w o)

  -- For code: a set of states that has only live ones, the accepting ones, and each state with a move into it, is the set of live states.
  pub live_only : (f : ℕ → Bool) → ((p : ℕ) → p < size M → f p ≡ true → get_or (live k M) p false ≡ true)
      → ((p : ℕ) → p < size M → (automaton M).accepting p ≡ true → f p ≡ true)
      → ((p c : ℕ) → p < size M → c < k → f ((automaton M).step p c) ≡ true → f p ≡ true)
      → (p : ℕ) → p < size M → f p ≡ get_or (live k M) p false
  live_only f sound start leads p h = bool_iff (f p) (get_or (live k M) p false) (sound p h) (λ e. let (w, o, b, t) = live_within p h e in back w p h o t)
    where
      back : (w : List ℕ) (p : ℕ) → p < size M → Over k w → (automaton M).accepting (run (automaton M) p w) ≡ true → f p ≡ true
      back [] p h o t = start p h t
      back (c ∷ w) p h o t = leads p c h o.0 (back w ((automaton M).step p c) (F.inside p c h o.0) o.1 t)
