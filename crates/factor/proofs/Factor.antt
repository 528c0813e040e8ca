-- Laws of what specs/Factor.antt defines.
use Rattle.std.specs.Prelude.{◌≡◌, refl, Bool, true, false, ◌↔◌, List, [], ◌++◌, ℕ, take, drop}
use Rattle.std.proofs.Common.{sym, ap, ◌∙◌, subst, true≢false, inl, inr, append_assoc, append-nil, arith, take-append-drop}
use Rattle.automata.specs.Booleans.{not_true}
use Rattle.automata.specs.Basics.{LtCases, lt_cases}
use Rattle.automata.specs.Decide.{contradict}
use Rattle.factor.specs.Factor.{Blamed, Blames, Inside, Shortest, at, factor, is_at, is_none, none}

-- ---- laws

-- What lies inside has all its factors inside.
pub inside_factor : (ok : List ℕ → Bool) (plan : List ℕ) (i k : ℕ) → Inside ok plan → Inside ok (factor plan i k)
inside_factor ok plan i k (u, v, e) = (u ++ take i plan, drop k (drop i plan) ++ v, subst (λ w. ok w ≡ true) same e)
  where
    same : u ++ (plan ++ v) ≡ (u ++ take i plan) ++ (factor plan i k ++ (drop k (drop i plan) ++ v))
    same =
        ap (λ p. u ++ (p ++ v)) (sym (take-append-drop i plan) ∙ ap (λ r. take i plan ++ r) (sym (take-append-drop k (drop i plan))))
        ∙ (simp append_assoc)

-- ONE ANSWER AT MOST is right.
pub blames_one : (ok : List ℕ → Bool) (plan : List ℕ) (r r' : Shortest) → Blames ok plan r → Blames ok plan r' → r ≡ r'
blames_one ok plan r r' (is_none a) (is_none b) = refl
blames_one ok plan r r' (is_none a) (is_at i k b) = absurd (b.outside (inside_factor ok plan i k a))
blames_one ok plan r r' (is_at i k a) (is_none b) = absurd (a.outside (inside_factor ok plan i k b))
blames_one ok plan r r' (is_at i k a) (is_at i' k' b) = long (lt_cases k k') (lt_cases k' k)
  where
    start : k ≡ k' → LtCases i i' → LtCases i' i → at i k ≡ at i' k'
    start e (inl p) q = absurd (a.outside (rw e (b.left i p.0)))
    start e (inr p) (inl q) = absurd (b.outside (rw (← e) (a.left i' q.0)))
    start e (inr p) (inr q) = let z : i ≡ i' = omega arith in λ t. at (z t) (e t)

    long : LtCases k k' → LtCases k' k → at i k ≡ at i' k'
    long (inl p) q = absurd (a.outside (b.shorter i k a.most (omega (arith, p.0))))
    long (inr p) (inl q) = absurd (b.outside (a.shorter i' k' b.most (omega (arith, q.0))))
    long (inr p) (inr q) = start (omega arith) (lt_cases i i') (lt_cases i' i)

abbrev answers_none : Shortest → Bool
answers_none none = true
answers_none (at i k) = false

pub none_apart : (i k : ℕ) → none ≡ at i k → ⊥
none_apart i k e = true≢false (ap answers_none e)

pub blames_at : (ok : List ℕ → Bool) (plan : List ℕ) (i k : ℕ) → Blames ok plan (at i k) → Blamed ok plan i k
blames_at ok plan i k b = go (at i k) refl b
  where
    go : (r : Shortest) → r ≡ at i k → Blames ok plan r → Blamed ok plan i k
    go r e (is_none a) = absurd (none_apart i k e)
    go r e (is_at j l a) =
        let y : j ≡ i = cc e in
        let z : l ≡ k = cc e in
        rw (← y, ← z) a

module _ (ok : List ℕ → Bool) (plan : List ℕ) where
  -- NONE exactly when the whole plan lies inside some allowed plan.
  pub blames_none : Blames ok plan none ↔ Inside ok plan
  blames_none = (λ b. go none refl b, is_none)
    where
      go : (r : Shortest) → r ≡ none → Blames ok plan r → Inside ok plan
      go r e (is_none a) = a
      go r e (is_at i k b) = absurd (none_apart i k (sym e))

  -- Where nothing is allowed, the answer is THE EMPTY STRETCH AT PLACE 0, for every plan,
  pub nothing_empty : ((w : List ℕ) → ok w ≡ false) → Blames ok plan (at 0 0)
  nothing_empty f = is_at 0 0 (record {
    most = omega arith;
    outside = λ s. contradict s.2 (f (s.0 ++ (factor plan 0 0 ++ s.1)));
    shorter = λ j l h b. absurd (omega arith);
    left = λ j b. absurd (omega arith);
  })

  -- and nowhere else is a stretch empty.
  pub empty_nothing : (i : ℕ) → Blames ok plan (at i 0) → (w : List ℕ) → ok w ≡ false
  empty_nothing i b w = not_true (ok w) (λ t. (blames_at ok plan i 0 b).outside (w, [], ap ok (append-nil w) ∙ t))

  -- A plan with a stretch to blame is hopeless: no allowed plan begins with it.
  pub blamed_hopeless : (i k : ℕ) → Blames ok plan (at i k) → (rest : List ℕ) → ok (plan ++ rest) ≡ false
  blamed_hopeless i k b rest = not_true (ok (plan ++ rest)) (λ t. none_apart i k (blames_one ok plan none (at i k) (is_none ([], rest, t)) b))
