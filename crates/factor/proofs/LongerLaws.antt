-- Laws of what specs/LongerLaws.antt defines.
use Rattle.std.specs.Prelude.{◌≡◌, refl, Bool, List, ◌∷◌, ℕ, zero, suc, ◌+◌, ◌≤◌, ◌<◌, length}
use Rattle.std.proofs.Common.{sym, subst, arith}
use Rattle.std.proofs.Math.Seq.{take-length}
use Rattle.factor.specs.Factor.{factor, Inside, Shortest, none, at, Blamed, Blames, is_none, is_at}
use Rattle.factor.proofs.Factor.{inside_factor, none_apart, blames_one, blames_at}
use Rattle.factor.specs.LongerLaws.{ShortestStart}

module _ (ok : List ℕ → Bool) (x : ℕ) (s : List ℕ) where
  -- Where the longer plan lies inside, so does the plan.
  pub longer_inside : (r : Shortest) → Inside ok (x ∷ s) → Blames ok s r → r ≡ none
  longer_inside r a b = blames_one ok s r none b (is_none (subst (Inside ok) (take-length s) (inside_factor ok (x ∷ s) 1 (length s) a)))

  -- a stretch at place 0, where no other one is shorter
  module _ (k : ℕ) (b : ShortestStart ok (x ∷ s) k) (f : (j l : ℕ) → j + l ≤ length s → l < k → Inside ok (factor s j l)) where
    rivals : (j l : ℕ) → j + l ≤ suc (length s) → l < k → Inside ok (factor (x ∷ s) j l)
    rivals zero l h c = b.shorter l c
    rivals (suc j) l h c = f j l (omega arith) c

    here : Blames ok (x ∷ s) (at 0 k)
    here = is_at 0 k (record { most = omega (arith, b.most); outside = b.outside; shorter = rivals; left = λ j c. absurd (omega arith) })

  module _ (k : ℕ) (b : ShortestStart ok (x ∷ s) k) where
    -- THE FIRST STRETCH: no other one was there.
    pub longer_first : Blames ok s none → Blames ok (x ∷ s) (at 0 k)
    longer_first a = go none refl a
      where
        go : (r : Shortest) → r ≡ none → Blames ok s r → Blames ok (x ∷ s) (at 0 k)
        go r e (is_none y) = here k b (λ j l h c. inside_factor ok s j l y)
        go r e (is_at i l y) = absurd (none_apart i l (sym e))

    -- A STRETCH THAT IS NOT LONGER stands further left.
    pub longer_nearer : (i l : ℕ) → Blames ok s (at i l) → k ≤ l → Blames ok (x ∷ s) (at 0 k)
    longer_nearer i l a c = let t = blames_at ok s i l a in here k b (λ j l h d. t.shorter j l h (omega arith))

    -- A LONGER ONE does not count.
    pub longer_kept : (i l : ℕ) → Blames ok s (at i l) → l < k → Blames ok (x ∷ s) (at (suc i) l)
    longer_kept i l a c = is_at (suc i) l (record { most = omega (arith, t.most); outside = t.outside; shorter = rivals; left = left })
      where
        t : Blamed ok s i l
        t = blames_at ok s i l a

        rivals : (j d : ℕ) → j + d ≤ suc (length s) → d < l → Inside ok (factor (x ∷ s) j d)
        rivals zero d h y = b.shorter d (omega arith)
        rivals (suc j) d h y = t.shorter j d (omega arith) y

        left : (j : ℕ) → j < suc i → Inside ok (factor (x ∷ s) j l)
        left zero h = b.shorter l c
        left (suc j) h = t.left j (omega arith)
