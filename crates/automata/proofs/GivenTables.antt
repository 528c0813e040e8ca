-- Laws of what specs/GivenTables.antt defines.
use Rattle.std.specs.Prelude.{◌≡◌, Bool, ◌⊎◌, length, eqb}
use Rattle.std.proofs.Math.Path.{refl, sym, ap, ap₂}
use Rattle.std.proofs.Common.{◌∙◌, true≢false}
use Rattle.std.proofs.Math.Bool.{true, false, cond}
use Rattle.std.proofs.lemmas.Bool.{false≢true}
use Rattle.std.proofs.Math.Logic.{inl, inr}
use mathlib.Core.List.{List, [], ◌∷◌}
use Prim.Native.Nat.{ℕ, zero, suc, ◌≤◌, ◌<◌, max}
use Rattle.std.proofs.Math.Nat.{le_refl}
use native.Mathlib.Omega.{arith}
use Rattle.automata.specs.Booleans.{bool_cases}
use Rattle.automata.specs.Basics.{LtCases, lt_cases, nat_test}
use Rattle.automata.specs.Automaton.{Automaton, run}
use Rattle.automata.specs.Listing.{listing, listing_bound}
use Rattle.automata.specs.Simulation.{both_run}
use Rattle.automata.specs.Machine.{Machine, size, automaton, Numbered, Reduced, SameWords}
use Rattle.automata.specs.Numbering.{across, seen, arrival_sound}
use Rattle.automata.specs.Smallest.{smallest_of_canonical, smallest_of_words}
use Rattle.automata.specs.Given.{one_sign, many_signs, given}
use Rattle.automata.specs.Stage.{Smallest}
use Rattle.automata.proofs.Stage.{smallest_one}
use Rattle.automata.specs.GivenTables.{ManySignsTable, OneSignTable, Renamed, behind, lost}

-- ---- the given machine of an automaton of at most three states

pub given_smallest : (k : ℕ) (A : Automaton ℕ) → A.start < 3 → ((s c : ℕ) → s < 3 → A.step s c < 3) → Smallest k A (given k A)
given_smallest k A h f = record { canonical = smallest_of_canonical nat_test A k 3 bound; words = smallest_of_words nat_test A k 3 bound }
  where
    stay : (s : ℕ) (w : List ℕ) → s < 3 → run A s w < 3
    stay s [] b = b
    stay s (c ∷ w) b = stay (A.step s c) w (f s c b)

    bound : length (listing nat_test A k 3) ≤ 3
    bound = listing_bound nat_test A k (λ s. s) 3 (λ s r. rw r.2 at (stay A.start r.0 h)) (λ s t _ _ e. e) 3

pub cond_below : (b : Bool) (x y n : ℕ) → x < n → y < n → cond b x y < n
cond_below true x y n h g = h
cond_below false x y n h g = g

-- ---- how many states are seen

module _ (k : ℕ) (M : Machine) where
  across_low : (p s c : ℕ) → s ≤ across k M p s c
  unfolding across
  across_low p s zero = le_refl s
  across_low p s (suc c) = omega (arith, across_low p s c)

  across_sees : (p s c a : ℕ) → a < c → (automaton M).step p a < across k M p s c
  unfolding across
  across_sees p s zero a h = absurd (omega arith)
  across_sees p s (suc c) a h = go (lt_cases a c) (across_sees p s c a)
    where
      go : LtCases a c → (a < c → (automaton M).step p a < across k M p s c) → (automaton M).step p a < max (across k M p s c) (suc ((automaton M).step p c))
      go (inl q) f = omega (arith, f q.0)
      go (inr q) f = let z : a ≡ c = omega arith in rw z (omega arith)

  across_high : (n p s c : ℕ) → s ≤ n → ((a : ℕ) → a < c → (automaton M).step p a < n) → across k M p s c ≤ n
  unfolding across
  across_high n p s zero b h = b
  across_high n p s (suc c) b h = omega (arith, across_high n p s c b (λ a v. h a (omega arith)), h c (le_refl (suc c)))

-- ---- a machine that is an automaton of numbers with the numbers changed

renamed_words : (k n : ℕ) (A : Automaton ℕ) (M : Machine) (name : ℕ → ℕ) → Renamed k n A M name → SameWords k A (automaton M)
renamed_words k n A M name r w o =
    let (b, e) = both_run Is A (automaton M) k steps A.start 0 w o (r.starts.0, sym r.starts.1) in
    sym (r.answers (run A A.start w) b) ∙ ap (automaton M).accepting (sym e)
  where
    Is : ℕ → ℕ → Type 0
    Is s p = (s < n) × (p ≡ name s)

    steps : (s p c : ℕ) → c < k → Is s p → Is (A.step s c) ((automaton M).step p c)
    steps s p c v (b, e) = ((r.steps s c b v).0, ap (λ p. (automaton M).step p c) e ∙ (r.steps s c b v).1)

-- ---- one sign

module _ (k : ℕ) (good : ℕ → Bool) (M : Machine) (T : OneSignTable k good M) (c₀ : ℕ) (v₀ : c₀ < k) (g₀ : good c₀ ≡ true) where
  abbrev g : ℕ
  g = behind k good M

  abbrev d : ℕ
  d = lost k good M

  -- the two numbers
  Two : Type 0
  Two = ((good 0 ≡ true) × (g ≡ 1) × (d ≡ 2)) ⊎ ((good 0 ≡ false) × (g ≡ 2) × (d ≡ 1))

  two : Two
  unfolding Two
  two = go (bool_cases (good 0))
    where
      go : (good 0 ≡ true) ⊎ (good 0 ≡ false) → ((good 0 ≡ true) × (g ≡ 1) × (d ≡ 2)) ⊎ ((good 0 ≡ false) × (g ≡ 2) × (d ≡ 1))
      go (inl e) = inl (e, rw e, rw e)
      go (inr e) = inr (e, rw e, rw e)

  name : ℕ → ℕ
  name zero = 0
  name (suc zero) = g
  name (suc (suc s)) = d

  low : (0 < g) × (g < 3) × (0 < d) × (d < 3)
  unfolding Two
  low = go two
    where
      go : Two → (0 < g) × (g < 3) × (0 < d) × (d < 3)
      go (inl (e, a, b)) = (omega arith, omega arith, omega arith, omega arith)
      go (inr (e, a, b)) = (omega arith, omega arith, omega arith, omega arith)

  sign_eqb : (eqb 0 g ≡ false) × (eqb g g ≡ true) × (eqb d g ≡ false)
  unfolding Two
  sign_eqb = go two
    where
      go : Two → (eqb 0 g ≡ false) × (eqb g g ≡ true) × (eqb d g ≡ false)
      go (inl (e, a, b)) = (rw a, rw a, rw (a, b))
      go (inr (e, a, b)) = (rw a, rw a, rw (a, b))

  one_renamed : Renamed k 3 (one_sign good) M name
  unfolding name
  one_renamed = record { formed = T.formed; states = T.states; starts = (omega arith, refl); steps = steps; answers = answers }
    where
      pick : (b : Bool) → cond b g d ≡ name (cond b 1 2)
      pick true = refl
      pick false = refl

      steps : (s c : ℕ) → s < 3 → c < k → ((one_sign good).step s c < 3) × ((automaton M).step (name s) c ≡ name ((one_sign good).step s c))
      steps zero c h v = (cond_below (good c) 1 2 3 (omega arith) (omega arith), T.first c v ∙ pick (good c))
      steps (suc zero) c h v = (omega arith, T.later g c low.0 low.1 v)
      steps (suc (suc s)) c h v = let z : s ≡ 0 = omega arith in rw z (omega arith, T.later d c low.2 low.3 v)

      answers : (s : ℕ) → s < 3 → (automaton M).accepting (name s) ≡ (one_sign good).accepting s
      answers zero h = T.answers 0 (omega arith) ∙ sign_eqb.0
      answers (suc zero) h = T.answers g low.1 ∙ sign_eqb.1
      answers (suc (suc s)) h = T.answers d low.3 ∙ sign_eqb.2 ∙ (let z : s ≡ 0 = omega arith in rw z)

  -- what tells the states apart: acceptance now, and behind the sign c₀
  code : ℕ → ℕ
  code p = cond ((automaton M).accepting p) 1 (cond ((automaton M).accepting ((automaton M).step p c₀)) 0 2)

  code_name : (s : ℕ) → s < 3 → code (name s) ≡ s
  unfolding code name
  code_name zero h = rw (T.answers 0 (omega arith), sign_eqb.0, T.first c₀ v₀, g₀, T.answers g low.1, sign_eqb.1)
  code_name (suc zero) h = rw (T.answers g low.1, sign_eqb.1)
  code_name (suc (suc s)) h =
      let z : s ≡ 0 = omega arith in
      rw (z, T.answers d low.3, sign_eqb.2, T.later d c₀ low.2 low.3 v₀, T.answers d low.3, sign_eqb.2)

  name_all : (p : ℕ) → p < 3 → (s : ℕ) × (s < 3) × (name s ≡ p)
  unfolding Two name
  name_all zero h = (0, omega arith, refl)
  name_all (suc zero) h = go two
    where
      go : Two → (s : ℕ) × (s < 3) × (name s ≡ 1)
      go (inl (e, a, b)) = (1, omega arith, a)
      go (inr (e, a, b)) = (2, omega arith, b)
  name_all (suc (suc p)) h = go two
    where
      go : Two → (s : ℕ) × (s < 3) × (name s ≡ suc (suc p))
      go (inl (e, a, b)) = (2, omega arith, omega arith)
      go (inr (e, a, b)) = (1, omega arith, omega arith)

  one_apart : Reduced k M
  unfolding code
  one_apart p q hp hq e =
      let (s, hs, ps) = name_all p (rw T.states at hp) in
      let (t, ht, qt) = name_all q (rw T.states at hq) in
      let same : code p ≡ code q = ap₂ (λ a b. cond a 1 (cond b 0 2)) (e [] tt) (e (c₀ ∷ []) (v₀, tt)) in
      let z : s ≡ t = sym (code_name s hs) ∙ ap code ps ∙ same ∙ ap code (sym qt) ∙ code_name t ht in
      sym ps ∙ ap name z ∙ qt

  inner : (p c : ℕ) → p < 3 → c < k → (automaton M).step p c < 3
  inner p c h v = rw T.states at (T.formed.inside p c (rw T.states h) v)

  one_numbered : Numbered k M
  unfolding seen Two
  one_numbered = arrival_sound k M (record { before = before; next = next; all = rw T.states (omega (arith, three 3 (omega arith) (omega arith))) })
    where
      first_step : (automaton M).step 0 0 ≡ 1
      first_step = T.first 0 (omega arith) ∙ go two
        where
          go : Two → cond (good 0) g d ≡ 1
          go (inl (e, a, b)) = rw e
          go (inr (e, a, b)) = rw e

      second : (c : ℕ) → 0 < c → 2 ≤ across k M 0 1 c
      second c h = omega (arith, across_sees k M 0 1 c 0 h, first_step)

      upper : (p : ℕ) → p ≤ 3 → seen k M p ≤ 3
      upper zero h = omega arith
      upper (suc p) h = across_high k M 3 p (seen k M p) k (upper p (omega arith)) (λ a v. inner p a h v)

      -- all are seen behind the first row, or behind state 1's
      three : (p : ℕ) → 2 ≤ p → p ≤ 3 → seen k M p ≡ 3
      three zero l h = absurd (omega arith)
      three (suc zero) l h = absurd (omega arith)
      three (suc (suc zero)) l h = go two
        where
          go : Two → seen k M 2 ≡ 3
          go (inl (e, a, b)) = omega (arith, upper 2 (omega arith), across_sees k M 1 (seen k M 1) k c₀ v₀, T.later 1 c₀ (omega arith) (omega arith) v₀)
          go (inr (e, a, b)) = omega (arith, upper 2 (omega arith), across_low k M 1 (seen k M 1) k, across_sees k M 0 1 k c₀ v₀, T.first c₀ v₀ ∙ ap (λ b. cond b g d) g₀)
      three (suc (suc (suc p))) l h = omega (arith, upper (suc (suc (suc p))) h, across_low k M (suc (suc p)) (seen k M (suc (suc p))) k, three (suc (suc p)) (omega arith) (omega arith))

      before : (p : ℕ) → p < size M → p < seen k M p
      before zero h = omega arith
      before (suc zero) h = omega (arith, second k (omega arith))
      before (suc (suc p)) h = omega (arith, T.states, three (suc (suc p)) (omega arith) (omega (arith, T.states)))

      next : (p c : ℕ) → p < size M → c < k → (automaton M).step p c ≤ across k M p (seen k M p) c
      next zero zero h v = omega (arith, first_step, across_low k M 0 1 0)
      next zero (suc c) h v = omega (arith, second (suc c) (omega arith), inner 0 (suc c) (omega arith) v)
      next (suc zero) c h v = omega (arith, inner 1 c (omega arith) v, across_low k M 1 (seen k M 1) c, second k (omega arith))
      next (suc (suc p)) c h v = omega (arith, inner (suc (suc p)) c (omega (arith, T.states)) v, across_low k M (suc (suc p)) (seen k M (suc (suc p))) c, three (suc (suc p)) (omega arith) (omega (arith, T.states)))

  -- ONE SIGN: a machine written so is the given one.
  pub one_written : M ≡ given k (one_sign good)
  one_written = smallest_one k (one_sign good) M (given k (one_sign good))
      (record { canonical = record { formed = T.formed; numbered = one_numbered; apart = one_apart }; words = renamed_words k 3 (one_sign good) M name one_renamed })
      (given_smallest k (one_sign good) (omega arith) (λ s c h. cond_below (eqb s 0) (cond (good c) 1 2) 2 3 (cond_below (good c) 1 2 3 (omega arith) (omega arith)) (omega arith)))

-- ---- any number of signs

module _ (k : ℕ) (good : ℕ → Bool) (M : Machine) (T : ManySignsTable k good M) (c₀ : ℕ) (v₀ : c₀ < k) (b₀ : good c₀ ≡ false) where
  many_renamed : Renamed k 2 (many_signs good) M (λ s. s)
  many_renamed = record { formed = T.formed; states = T.states; starts = (omega arith, refl); steps = steps; answers = T.answers }
    where
      steps : (s c : ℕ) → s < 2 → c < k → ((many_signs good).step s c < 2) × ((automaton M).step s c ≡ (many_signs good).step s c)
      steps zero c h v = (cond_below (good c) 0 1 2 (omega arith) (omega arith), T.first c v)
      steps (suc s) c h v = let z : s ≡ 0 = omega arith in rw z (omega arith, T.later c v)

  many_apart : Reduced k M
  many_apart p q hp hq e = go p q (rw T.states at hp) (rw T.states at hq) (sym (T.answers p (rw T.states at hp)) ∙ e [] tt ∙ T.answers q (rw T.states at hq))
    where
      go : (p q : ℕ) → p < 2 → q < 2 → eqb p 0 ≡ eqb q 0 → p ≡ q
      go zero zero hp hq e = refl
      go zero (suc q) hp hq e = let z : q ≡ 0 = omega arith in absurd (true≢false (rw z at e))
      go (suc p) zero hp hq e = let z : p ≡ 0 = omega arith in absurd (false≢true (rw z at e))
      go (suc p) (suc q) hp hq e = omega arith

  many_inner : (p c : ℕ) → p < 2 → c < k → (automaton M).step p c < 2
  many_inner p c h v = rw T.states at (T.formed.inside p c (rw T.states h) v)

  many_numbered : Numbered k M
  unfolding seen
  many_numbered = arrival_sound k M (record { before = before; next = next; all = rw T.states (omega (arith, both 2 (omega arith) (omega arith))) })
    where
      upper : (p : ℕ) → p ≤ 2 → seen k M p ≤ 2
      upper zero h = omega arith
      upper (suc p) h = across_high k M 2 p (seen k M p) k (upper p (omega arith)) (λ a v. many_inner p a h v)

      both : (p : ℕ) → 1 ≤ p → p ≤ 2 → seen k M p ≡ 2
      both zero l h = absurd (omega arith)
      both (suc zero) l h = omega (arith, upper 1 (omega arith), across_sees k M 0 1 k c₀ v₀, T.first c₀ v₀ ∙ ap (λ b. cond b 0 1) b₀)
      both (suc (suc p)) l h = omega (arith, upper (suc (suc p)) h, across_low k M (suc p) (seen k M (suc p)) k, both (suc p) (omega arith) (omega arith))

      before : (p : ℕ) → p < size M → p < seen k M p
      before zero h = omega arith
      before (suc p) h = omega (arith, T.states, both (suc p) (omega arith) (omega (arith, T.states)))

      next : (p c : ℕ) → p < size M → c < k → (automaton M).step p c ≤ across k M p (seen k M p) c
      next zero c h v = omega (arith, many_inner 0 c (omega arith) v, across_low k M 0 1 c)
      next (suc p) c h v = omega (arith, many_inner (suc p) c (omega (arith, T.states)) v, across_low k M (suc p) (seen k M (suc p)) c, both (suc p) (omega arith) (omega (arith, T.states)))

  -- ANY NUMBER OF SIGNS: a machine written so is the given one.
  pub many_written : M ≡ given k (many_signs good)
  many_written = smallest_one k (many_signs good) M (given k (many_signs good))
      (record { canonical = record { formed = T.formed; numbered = many_numbered; apart = many_apart }; words = renamed_words k 2 (many_signs good) M (λ s. s) many_renamed })
      (given_smallest k (many_signs good) (omega arith) (λ s c h. cond_below (eqb s 0) (cond (good c) 0 1) 1 3 (cond_below (good c) 0 1 3 (omega arith) (omega arith)) (omega arith)))
