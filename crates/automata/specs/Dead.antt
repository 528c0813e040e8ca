-- Dead states, from which no word is accepted; a test of them; and in a canonical machine a test that looks at the state alone.
use Rattle.std.specs.Prelude.{◌≡◌, refl, Bool, false, ◌||◌, ◌⊎◌, List, [], ◌∷◌, ℕ, zero, suc, ◌≤◌, ◌<◌, length, get_or}
use Rattle.std.proofs.Common.{sym, ◌∙◌, subst, true≢false, inl, inr, suc-le-suc, not-suc-le-zero, le_of_suc-le-suc, zero-lt-suc}
use Rattle.std.proofs.Math.Path.{ap}
use Rattle.std.proofs.Math.Bool.{true, not}
use Rattle.std.proofs.lemmas.Bool.{false≢true}
use Rattle.automata.specs.Booleans.{bool_cases}
use Rattle.automata.specs.Basics.{nat_test}
use Rattle.automata.specs.Automaton.{Automaton, Over, run}
use Rattle.automata.specs.Listing.{At, listing, listing_reached, listing_has, listing_bound}
use Rattle.automata.specs.Machine.{Machine, size, automaton, WellFormed, Canonical, run_inside}

-- From q no word of k columns is accepted.
abbrev pub Dead : {S : Type 0} → ℕ → Automaton S → S → Type 0
Dead k A q = (w : List ℕ) → Over k w → A.accepting (run A q w) ≡ false

-- Some entry passes the test.
abbrev pub any : {S : Type 0} → (S → Bool) → List S → Bool
any f [] = false
any f (x ∷ xs) = let r = any f xs in f x || r

any_none : {S : Type 0} (f : S → Bool) (d : S) (l : List S) → any f l ≡ false → (i : ℕ) → i < length l → f (get_or l i d) ≡ false
any_none f d [] e i h = absurd (not-suc-le-zero h)
any_none f d (x ∷ xs) e zero h = (elim (f x) as (λ b. b || any f xs ≡ false → b ≡ false) [ true ↦ λ t. t | false ↦ λ t. refl ]) e
any_none f d (x ∷ xs) e (suc i) h =
    any_none f d xs ((elim (f x) as (λ b. b || any f xs ≡ false → any f xs ≡ false) [ true ↦ λ t. absurd (true≢false t) | false ↦ λ t. t ]) e) i (le_of_suc-le-suc h)

any_some : {S : Type 0} (f : S → Bool) (d : S) (l : List S) → any f l ≡ true → (i : ℕ) × (i < length l) × (f (get_or l i d) ≡ true)
any_some f d [] e = absurd (false≢true e)
any_some f d (x ∷ xs) e =
    (elim (f x) as (λ b. f x ≡ b → b || any f xs ≡ true → (i : ℕ) × (i < suc (length xs)) × (f (get_or (x ∷ xs) i d) ≡ true))
    [ true ↦ λ h t. (zero, zero-lt-suc (length xs), h) | false ↦ λ h t. let r = any_some f d xs t in (suc r.0, suc-le-suc r.1, r.2) ]) refl e

not_true : (b : Bool) → not b ≡ true → b ≡ false
not_true true e = absurd (false≢true e)
not_true false e = refl

-- The automaton, started in q.
abbrev pub from : {S : Type 0} → Automaton S → S → Automaton S
from A q = record { start = q; step = A.step; accepting = A.accepting }

run_from : {S : Type 0} (A : Automaton S) (q s : S) (w : List ℕ) → run (from A q) s w ≡ run A s w
run_from A q s [] = refl
run_from A q s (c ∷ w) = run_from A q (A.step s c) w

unfoldable pub dead? : ℕ → Machine → ℕ → Bool
dead? k M q = not (any (automaton M).accepting (listing nat_test (from (automaton M) q) k (size M)))

module _ (k : ℕ) (M : Machine) (F : WellFormed k M) (q : ℕ) (h : q < size M) where
  abbrev A : Automaton ℕ
  A = from (automaton M) q

  whole : length (listing nat_test A k (size M)) ≤ size M
  whole = listing_bound nat_test A k (λ s. s) (size M) (λ s r. subst (λ x. x < size M) (sym (run_from (automaton M) q q r.0) ∙ r.2) (run_inside k M F q r.0 h r.1)) (λ s t _ _ e. e) (size M)

  pub dead_sound : dead? k M q ≡ true → Dead k (automaton M) q
  unfolding dead?
  dead_sound e w o =
      let a : At q (listing nat_test A k (size M)) (run (automaton M) q w) = listing_has nat_test A k (size M) whole (run (automaton M) q w) (w, o, run_from (automaton M) q q w) in
      ap (automaton M).accepting (sym a.2) ∙ any_none (automaton M).accepting q (listing nat_test A k (size M)) (not_true _ e) a.0 a.1

  pub dead_whole : Dead k (automaton M) q → dead? k M q ≡ true
  unfolding dead?
  dead_whole d = go (bool_cases (any (automaton M).accepting (listing nat_test A k (size M))))
    where
      go : (any (automaton M).accepting (listing nat_test A k (size M)) ≡ true) ⊎ (any (automaton M).accepting (listing nat_test A k (size M)) ≡ false)
          → not (any (automaton M).accepting (listing nat_test A k (size M))) ≡ true
      go (inl e) =
          let (i, b, t) = any_some (automaton M).accepting q (listing nat_test A k (size M)) e in
          let (w, o, r) = listing_reached nat_test A k (size M) (get_or (listing nat_test A k (size M)) i q) (i, b, refl) in
          absurd (true≢false (sym t ∙ ap (automaton M).accepting (sym r ∙ run_from (automaton M) q q w) ∙ d w o))
      go (inr e) = ap not e

-- In a canonical machine a state is dead just when no word ends there and every column stays.
module _ (k : ℕ) (M : Machine) (C : Canonical k M) (q : ℕ) (h : q < size M) where
  pub dead_stays : Dead k (automaton M) q → (c : ℕ) → c < k → (automaton M).step q c ≡ q
  dead_stays d c v = C.apart ((automaton M).step q c) q (C.formed.inside q c h v) h (λ w o. d (c ∷ w) (v, o) ∙ sym (d w o))

  pub stays_dead : (automaton M).accepting q ≡ false → ((c : ℕ) → c < k → (automaton M).step q c ≡ q) → Dead k (automaton M) q
  stays_dead f s [] o = f
  stays_dead f s (c ∷ w) o = rw (s c o.0) (stays_dead f s w o.1)

-- And there is one dead state at most.
pub dead_one : (k : ℕ) (M : Machine) → Canonical k M → (p q : ℕ) → p < size M → q < size M → Dead k (automaton M) p → Dead k (automaton M) q → p ≡ q
dead_one k M C p q hp hq d e = C.apart p q hp hq (λ w o. d w o ∙ sym (e w o))
