-- Classes named by their least states: links, and splitting by keys.
use mathlib.Core.Path.{◌≡◌, refl}
use mathlib.Core.Bool.{true, false}
use mathlib.Core.Logic.{◌⊎◌, inl, inr, ◌≢◌}
use mathlib.Core.List.{List}
use Prim.Native.Nat.{ℕ, zero, suc, ◌≤◌, ◌<◌}
use native.Mathlib.Nat.{le_refl, not-suc-le-zero}
use native.Mathlib.Omega.{arith}
use lib.ListN.{get_or, replicate}
use lib.Dec.{eqb}
use Rattle.automata.specs.Booleans.{bool_cases, not_true}
use Rattle.automata.specs.Decide.{contradict}
use Rattle.automata.specs.Basics.{LtCases, lt_cases, nat_test}
use Rattle.splits.specs.Splits.{Links, Reach, here, there, owned}

-- ---- along the links

pub reach_on : (ls : List ℕ) (s r q : ℕ) → Reach ls s r → Reach ls r q → Reach ls s q
reach_on ls s r q (here _) w = w
reach_on ls s r q (there _ _ d v) w = there s q d (reach_on ls (get_or ls s 0) r q v w)

pub record FindUpto (ks ls : List ℕ) (s k n r : ℕ) : Type 0 where
  pub low : r ≤ n
  pub way : Reach ls s r
  pub first : (q : ℕ) → Reach ls s q → get_or ks q 0 ≡ k → Reach ls r q

pub find_start : (ks ls : List ℕ) (s k n : ℕ) → s ≤ n → FindUpto ks ls s k n s
find_start ks ls s k n h = record { low = h; way = here s; first = λ q w e. w }

module _ (ks ls : List ℕ) (s k n r : ℕ) (links : Links ls n) (u : FindUpto ks ls s k n r) where
  pub link_on : get_or ls r 0 ≢ 0 → (r < get_or ls r 0) × (get_or ls r 0 < n)
  link_on d = go (lt_cases r n)
    where
      go : LtCases r n → (r < get_or ls r 0) × (get_or ls r 0 < n)
      go (inl x) = links.rises r x.0 d
      go (inr x) = let z : r ≡ n = omega (arith, u.low) in absurd (d (rw z links.last))

  pub find_next : (get_or ks r 0 ≡ k → ⊥) → get_or ls r 0 ≢ 0 → FindUpto ks ls s k n (get_or ls r 0)
  find_next f d = record { low = omega (arith, (link_on d).1); way = reach_on ls s r (get_or ls r 0) u.way (there r (get_or ls r 0) d (here (get_or ls r 0))); first = λ q w e. after q (u.first q w e) e }
    where
      after : (q : ℕ) → Reach ls r q → get_or ks q 0 ≡ k → Reach ls (get_or ls r 0) q
      after q (here _) e = absurd (f e)
      after q (there _ _ _ w) e = w

-- ---- how many states name a class

module _ (cs : List ℕ) (n : ℕ) where
  pub owned_yes : get_or cs n 0 ≡ n → owned cs (suc n) ≡ suc (owned cs n)
  unfolding owned
  owned_yes e = let t : eqb (get_or cs n 0) n ≡ true = rw e (nat_test.whole n) in rw t

  pub owned_no : get_or cs n 0 ≢ n → owned cs (suc n) ≡ owned cs n
  unfolding owned
  owned_no d = let t : eqb (get_or cs n 0) n ≡ false = not_true (eqb (get_or cs n 0) n) (λ e. d (nat_test.sound (get_or cs n 0) n e)) in rw t

pub owned_cases : (cs : List ℕ) (n : ℕ) → ((get_or cs n 0 ≡ n) × (owned cs (suc n) ≡ suc (owned cs n))) ⊎ ((get_or cs n 0 ≢ n) × (owned cs (suc n) ≡ owned cs n))
owned_cases cs n = go (bool_cases (eqb (get_or cs n 0) n))
  where
    go : (eqb (get_or cs n 0) n ≡ true) ⊎ (eqb (get_or cs n 0) n ≡ false)
        → ((get_or cs n 0 ≡ n) × (owned cs (suc n) ≡ suc (owned cs n))) ⊎ ((get_or cs n 0 ≢ n) × (owned cs (suc n) ≡ owned cs n))
    go (inl e) = let z = nat_test.sound (get_or cs n 0) n e in inl (z, owned_yes cs n z)
    go (inr e) = let d : get_or cs n 0 ≢ n = λ z. contradict (rw z (nat_test.whole n)) e in inr (d, owned_no cs n d)

pub owned_ext : (a b : List ℕ) (n : ℕ) → ((q : ℕ) → q < n → get_or a q 0 ≡ get_or b q 0) → owned a n ≡ owned b n
unfolding owned
owned_ext a b zero h = refl
owned_ext a b (suc n) h = rw (h n (le_refl (suc n)), owned_ext a b n (λ q v. h q (omega arith)))

pub owned_le : (cs : List ℕ) (n : ℕ) → owned cs n ≤ n
unfolding owned
owned_le cs zero = le_refl 0
owned_le cs (suc n) = go (owned_cases cs n) (owned_le cs n)
  where
    go : ((get_or cs n 0 ≡ n) × (owned cs (suc n) ≡ suc (owned cs n))) ⊎ ((get_or cs n 0 ≢ n) × (owned cs (suc n) ≡ owned cs n)) → owned cs n ≤ n → owned cs (suc n) ≤ suc n
    go (inl x) r = omega (arith, x.1)
    go (inr x) r = omega (arith, x.1)

-- Where all name a class, each is alone in it;
pub owned_all : (cs : List ℕ) (n : ℕ) → n ≤ owned cs n → (p : ℕ) → p < n → get_or cs p 0 ≡ p
owned_all cs zero h p b = absurd (not-suc-le-zero b)
owned_all cs (suc n) h p b = go (owned_cases cs n) (lt_cases p n) (owned_all cs n)
  where
    go : ((get_or cs n 0 ≡ n) × (owned cs (suc n) ≡ suc (owned cs n))) ⊎ ((get_or cs n 0 ≢ n) × (owned cs (suc n) ≡ owned cs n)) → LtCases p n
        → (n ≤ owned cs n → (p : ℕ) → p < n → get_or cs p 0 ≡ p) → get_or cs p 0 ≡ p
    go (inl x) (inl y) r = r (omega (arith, x.1)) p y.0
    go (inl x) (inr y) r = let z : p ≡ n = omega arith in rw z x.0
    go (inr x) y r = absurd (omega (arith, x.1, owned_le cs n))

-- where not all do, one does not.
pub owned_some : (cs : List ℕ) (n : ℕ) → owned cs n < n → (p : ℕ) × (p < n) × (get_or cs p 0 ≢ p)
owned_some cs zero h = absurd (not-suc-le-zero h)
owned_some cs (suc n) h = go (owned_cases cs n) (owned_some cs n)
  where
    go : ((get_or cs n 0 ≡ n) × (owned cs (suc n) ≡ suc (owned cs n))) ⊎ ((get_or cs n 0 ≢ n) × (owned cs (suc n) ≡ owned cs n))
        → (owned cs n < n → (p : ℕ) × (p < n) × (get_or cs p 0 ≢ p)) → (p : ℕ) × (p < suc n) × (get_or cs p 0 ≢ p)
    go (inl x) r = let (p, b, d) = r (omega (arith, x.1)) in (p, omega arith, d)
    go (inr x) r = (n, le_refl (suc n), x.0)

-- Where each that names a class of cs names one of ns, ns has as many classes at least;
pub owned_mono : (cs ns : List ℕ) (n : ℕ) → ((p : ℕ) → p < n → get_or cs p 0 ≡ p → get_or ns p 0 ≡ p) → owned cs n ≤ owned ns n
unfolding owned
owned_mono cs ns zero h = le_refl 0
owned_mono cs ns (suc n) h = go (owned_cases cs n) (owned_cases ns n) (owned_mono cs ns n (λ p b. h p (omega arith)))
  where
    go : ((get_or cs n 0 ≡ n) × (owned cs (suc n) ≡ suc (owned cs n))) ⊎ ((get_or cs n 0 ≢ n) × (owned cs (suc n) ≡ owned cs n))
        → ((get_or ns n 0 ≡ n) × (owned ns (suc n) ≡ suc (owned ns n))) ⊎ ((get_or ns n 0 ≢ n) × (owned ns (suc n) ≡ owned ns n))
        → owned cs n ≤ owned ns n → owned cs (suc n) ≤ owned ns (suc n)
    go (inl x) (inl y) r = omega (arith, x.1, y.1)
    go (inl x) (inr y) r = absurd (y.0 (h n (le_refl (suc n)) x.0))
    go (inr x) (inl y) r = omega (arith, x.1, y.1)
    go (inr x) (inr y) r = omega (arith, x.1, y.1)

-- and where no more, the same states do.
pub owned_same : (cs ns : List ℕ) (n : ℕ) → ((p : ℕ) → p < n → get_or cs p 0 ≡ p → get_or ns p 0 ≡ p) → owned ns n ≤ owned cs n
    → (p : ℕ) → p < n → get_or ns p 0 ≡ p → get_or cs p 0 ≡ p
owned_same cs ns zero h l p b e = absurd (not-suc-le-zero b)
owned_same cs ns (suc n) h l p b e =
    go (owned_cases cs n) (owned_cases ns n) (lt_cases p n) (owned_mono cs ns n (λ p b. h p (omega arith))) (owned_same cs ns n (λ p b. h p (omega arith)))
  where
    go : ((get_or cs n 0 ≡ n) × (owned cs (suc n) ≡ suc (owned cs n))) ⊎ ((get_or cs n 0 ≢ n) × (owned cs (suc n) ≡ owned cs n))
        → ((get_or ns n 0 ≡ n) × (owned ns (suc n) ≡ suc (owned ns n))) ⊎ ((get_or ns n 0 ≢ n) × (owned ns (suc n) ≡ owned ns n)) → LtCases p n
        → owned cs n ≤ owned ns n → (owned ns n ≤ owned cs n → (p : ℕ) → p < n → get_or ns p 0 ≡ p → get_or cs p 0 ≡ p) → get_or cs p 0 ≡ p
    go (inl x) (inl y) (inl z) m r = r (omega (arith, x.1, y.1)) p z.0 e
    go (inl x) (inl y) (inr z) m r = let w : p ≡ n = omega arith in rw w x.0
    go (inl x) (inr y) z m r = absurd (y.0 (h n (le_refl (suc n)) x.0))
    go (inr x) (inl y) z m r = absurd (omega (arith, x.1, y.1))
    go (inr x) (inr y) (inl z) m r = r (omega (arith, x.1, y.1)) p z.0 e
    go (inr x) (inr y) (inr z) m r = let w : p ≡ n = omega arith in absurd (y.0 (rw w at e))

-- an array of zeros links nothing
pub none_linked : (n r : ℕ) → get_or {A = ℕ} (replicate n 0) r 0 ≡ 0
none_linked zero r = refl
none_linked (suc n) zero = refl
none_linked (suc n) (suc r) = none_linked n r
