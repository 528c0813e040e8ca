-- Laws of what specs/Stage.antt defines.
use Rattle.std.specs.Prelude.{◌≡◌, refl, ◌↔◌, ℕ, zero, suc, ◌≤◌, ◌<◌, length, ltb}
use Rattle.std.proofs.Common.{sym, ap, ap₂, ◌∙◌, inl, inr, le_refl, le_trans, arith}
use mathlib.Core.List.{List, [], ◌∷◌}
use Rattle.std.proofs.Math.ListN.{get_or}
use Rattle.automata.specs.Booleans.{choose}
use Rattle.automata.specs.Basics.{Test, LtCases, lt_cases, Inj, pigeonhole}
use Rattle.automata.specs.Automaton.{Automaton}
use Rattle.automata.specs.Listing.{listing, listed, explore_listing, listing_has, listing_more, listing_distinct}
use Rattle.automata.specs.Machine.{Machine, size, unique}
use Rattle.automata.specs.Format.{Format}
use Rattle.automata.specs.Smallest.{tabulated, smallest, smallest_of_canonical, smallest_of_words, smallest_of}
use Rattle.automata.specs.Stage.{Counts, Keeps, Made, MoreThan, Smallest, StageResult, after, keep, kept_one, made, refused, stage, then_made, too_many_sets, too_many_states}

-- ---- what a stage does

module _ {S : Type 0} (E : Test S) (fmt : Format) (k : ℕ) (A : Automaton S) where
  turns : ℕ
  turns = suc fmt.most_sets

  whole : length (listing E A k turns) ≤ fmt.most_sets → Counts k A (length (listing E A k turns))
  unfolding turns
  whole h = record {
    state = λ i. get_or (listing E A k turns) i A.start;
    reachable = λ i b. (listed E A k turns).reached i b;
    once = listing_distinct E A k turns;
    all = λ s r. listing_has E A k turns (omega arith) s r;
  }

  pub stage_result : StageResult fmt k A (stage E fmt k A)
  unfolding stage keep turns smallest_of
  stage_result = rw (explore_listing E A k (suc fmt.most_sets)) (go (lt_cases fmt.most_sets (length L)))
    where
      L : List S
      L = listing E A k turns

      M : Machine
      M = smallest k (tabulated E A k L)

      smallest_in_bound : length L ≤ fmt.most_sets → Smallest k A M
      smallest_in_bound h = record { canonical = smallest_of_canonical E A k turns (omega arith); words = smallest_of_words E A k turns (omega arith) }

      sized : length L ≤ fmt.most_sets → LtCases fmt.most_states (size M) → StageResult fmt k A (choose (ltb fmt.most_states (size M)) (λ _. refused 9) (λ _. made (length L ∷ []) M))
      sized h (inl p) = rw p.1 (too_many_states (length L) M (whole h) h (smallest_in_bound h) p.0)
      sized h (inr p) = rw p.1 (kept_one (length L) M (whole h) h (smallest_in_bound h) p.0)

      go : LtCases fmt.most_sets (length L)
          → StageResult fmt k A (choose (ltb fmt.most_sets (length L)) (λ _. refused 8) (λ _. choose (ltb fmt.most_states (size M)) (λ _. refused 9) (λ _. made (length L ∷ []) M)))
      go (inl p) = rw p.1 (too_many_sets (listing_more E A k turns fmt.most_sets p.0))
      go (inr p) = rw p.1 (sized p.0 (lt_cases fmt.most_states (size M)))

-- There are not n reachable states and more than n.
pub counts_most : {S : Type 0} (k : ℕ) (A : Automaton S) (n m : ℕ) → Counts k A n → n ≤ m → MoreThan k A m → ⊥
counts_most k A n m C h (f, r, inj) =
    let p = pigeonhole n (suc m) (λ i. at i) (λ i b. below i b) one in
    omega arith
  where
    place : (i : ℕ) → LtCases i (suc m) → ℕ
    place i (inl p) = (C.all (f i) (r i p.0)).0
    place i (inr p) = zero

    at : ℕ → ℕ
    at i = place i (lt_cases i (suc m))

    good : (i : ℕ) (c : LtCases i (suc m)) → i < suc m → (place i c < n) × (C.state (place i c) ≡ f i)
    good i (inl p) b = ((C.all (f i) (r i p.0)).1, (C.all (f i) (r i p.0)).2)
    good i (inr p) b = absurd (omega arith)

    below : (i : ℕ) → i < suc m → at i < n
    below i b = (good i (lt_cases i (suc m)) b).0

    one : Inj (suc m) at
    one i j bi bj e = inj i j bi bj (sym (good i (lt_cases i (suc m)) bi).1 ∙ ap C.state e ∙ (good j (lt_cases j (suc m)) bj).1)

-- The number of reachable states is one number.
pub counts_unique : {S : Type 0} (k : ℕ) (A : Automaton S) (n m : ℕ) → Counts k A n → Counts k A m → n ≡ m
counts_unique k A n m C D = go (lt_cases n m) (lt_cases m n)
  where
    more : (n m : ℕ) → Counts k A m → n < m → MoreThan k A n
    more n m D h = (D.state, λ i b. D.reachable i (le_trans b h), λ i j bi bj e. D.once i j (le_trans bi h) (le_trans bj h) e)

    go : LtCases n m → LtCases m n → n ≡ m
    go (inl p) c = absurd (counts_most k A n n C (le_refl n) (more n m D p.0))
    go (inr p) (inl q) = absurd (counts_most k A m m D (le_refl m) (more m n C q.0))
    go (inr p) (inr q) = omega arith

-- 8 exactly when more sets than the limit can be reached.
pub stage_too_many_sets : {S : Type 0} (E : Test S) (fmt : Format) (k : ℕ) (A : Automaton S) → (stage E fmt k A ≡ refused 8) ↔ MoreThan k A fmt.most_sets
stage_too_many_sets {S} E fmt k A = (λ e. to (stage E fmt k A) e (stage_result E fmt k A), λ c. back (stage E fmt k A) c (stage_result E fmt k A))
  where
    to : (r : Made) → r ≡ refused 8 → StageResult fmt k A r → MoreThan k A fmt.most_sets
    to r e (kept_one n M C h s b) = let z : ◌≡◌ {A = ℕ} 0 1 = cc in absurd (omega arith)
    to r e (too_many_sets c) = c
    to r e (too_many_states n M C h s b) = let z : ◌≡◌ {A = ℕ} 9 8 = cc in absurd (omega arith)

    back : (r : Made) → MoreThan k A fmt.most_sets → StageResult fmt k A r → r ≡ refused 8
    back r c (kept_one n M C h s b) = absurd (counts_most k A n fmt.most_sets C h c)
    back r c (too_many_sets c') = refl
    back r c (too_many_states n M C h s b) = absurd (counts_most k A n fmt.most_sets C h c)

-- The smallest machine of an automaton is one machine.
pub smallest_one : {S : Type 0} (k : ℕ) (A : Automaton S) (M N : Machine) → Smallest k A M → Smallest k A N → M ≡ N
smallest_one k A M N s t = unique k M N s.canonical t.canonical (λ w o. sym (s.words w o) ∙ t.words w o)

-- One answer only is right: whatever way the sets are found and the machine is made, the stage's answer is known by what it says.
pub stage_only : {S : Type 0} (E : Test S) (fmt : Format) (k : ℕ) (A : Automaton S) (r : Made) → StageResult fmt k A r → stage E fmt k A ≡ r
stage_only {S} E fmt k A r s = go (stage E fmt k A) r (stage_result E fmt k A) s
  where
    one : (n n' : ℕ) (M M' : Machine) → Counts k A n → Counts k A n' → Smallest k A M → Smallest k A M' → ◌≡◌ {A = Made} (made (n ∷ []) M) (made (n' ∷ []) M')
    one n n' M M' C C' s s' = ap₂ (λ n M. made (n ∷ []) M) (counts_unique k A n n' C C') (smallest_one k A M M' s s')

    go : (q r : Made) → StageResult fmt k A q → StageResult fmt k A r → q ≡ r
    go q r (kept_one n M C h s b) (kept_one n' M' C' h' s' b') = one n n' M M' C C' s s'
    go q r (kept_one n M C h s b) (too_many_sets c) = absurd (counts_most k A n fmt.most_sets C h c)
    go q r (kept_one n M C h s b) (too_many_states n' M' C' h' s' b') = absurd (omega (arith, ap size (smallest_one k A M M' s s')))
    go q r (too_many_sets c) (kept_one n M C h s b) = absurd (counts_most k A n fmt.most_sets C h c)
    go q r (too_many_sets c) (too_many_sets c') = refl
    go q r (too_many_sets c) (too_many_states n M C h s b) = absurd (counts_most k A n fmt.most_sets C h c)
    go q r (too_many_states n M C h s b) (kept_one n' M' C' h' s' b') = absurd (omega (arith, ap size (smallest_one k A M M' s s')))
    go q r (too_many_states n M C h s b) (too_many_sets c) = absurd (counts_most k A n fmt.most_sets C h c)
    go q r (too_many_states n M C h s b) (too_many_states n' M' C' h' s' b') = refl

-- 9 exactly when no more sets than the limit can be reached and its smallest machine has more states than the limit.
pub stage_too_many_states : {S : Type 0} (E : Test S) (fmt : Format) (k : ℕ) (A : Automaton S)
    → (stage E fmt k A ≡ refused 9) ↔ ((n : ℕ) × (M : Machine) × Counts k A n × (n ≤ fmt.most_sets) × Smallest k A M × (fmt.most_states < size M))
stage_too_many_states {S} E fmt k A = (λ e. to (stage E fmt k A) e (stage_result E fmt k A), λ c. back (stage E fmt k A) c (stage_result E fmt k A))
  where
    Over_size : Type 0
    Over_size = (n : ℕ) × (M : Machine) × Counts k A n × (n ≤ fmt.most_sets) × Smallest k A M × (fmt.most_states < size M)

    to : (r : Made) → r ≡ refused 9 → StageResult fmt k A r → Over_size
    to r e (kept_one n M C h s b) = let z : ◌≡◌ {A = ℕ} 0 1 = cc in absurd (omega arith)
    to r e (too_many_sets c) = let z : ◌≡◌ {A = ℕ} 8 9 = cc in absurd (omega arith)
    to r e (too_many_states n M C h s b) = (n, M, C, h, s, b)

    back : (r : Made) → Over_size → StageResult fmt k A r → r ≡ refused 9
    back r (n, M, C, h, s, b) (kept_one n' M' C' h' s' b') = absurd (omega (arith, ap size (smallest_one k A M M' s s')))
    back r (n, M, C, h, s, b) (too_many_sets c) = absurd (counts_most k A n fmt.most_sets C h c)
    back r (n, M, C, h, s, b) (too_many_states n' M' C' h' s' b') = refl

-- ---- what holds of the kept machine, if one is kept

pub after_keeps : (Q : Machine → Type 0) (counts : List ℕ) (r : Made) → Keeps Q r → Keeps Q (after counts r)
after_keeps Q counts (made more M) q = q
after_keeps Q counts (refused r) q = tt

pub then_keeps : (P Q : Machine → Type 0) (r : Made) (f : Machine → Made) → Keeps P r → ((M : Machine) → P M → Keeps Q (f M)) → Keeps Q (then_made r f)
then_keeps P Q (made counts M) f p g = after_keeps Q counts (f M) (g M p)
then_keeps P Q (refused r) f p g = tt

pub stage_keeps : {S : Type 0} (E : Test S) (fmt : Format) (k : ℕ) (A : Automaton S) (P : Machine → Type 0) → ((M : Machine) → Smallest k A M → P M) → Keeps P (stage E fmt k A)
stage_keeps {S} E fmt k A P f = go (stage E fmt k A) (stage_result E fmt k A)
  where
    go : (r : Made) → StageResult fmt k A r → Keeps P r
    go r (kept_one n M C h s b) = f M s
    go r (too_many_sets c) = tt
    go r (too_many_states n M C h s b) = tt
