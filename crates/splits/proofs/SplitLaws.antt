-- Splitting classes by keys, state by state.
use mathlib.Core.Path.{◌≡◌, refl, sym, ap, ◌∙◌, subst}
use mathlib.Core.Logic.{◌⊎◌, inl, inr, ◌≢◌}
use mathlib.Core.List.{List}
use Prim.Native.Nat.{ℕ, ◌+◌, ◌≤◌, ◌<◌}
use native.Mathlib.Nat.{le_refl, not-suc-le-zero}
use native.Mathlib.Numerals.{add-one}
use native.Mathlib.Omega.{arith}
use lib.ListN.{length, get_or, set, length-set}
use lib.Seq.{get_or-set_same, get_or-set_other, set-get_or}
use Rattle.automata.specs.Basics.{LtCases, lt_cases}
use Rattle.splits.specs.Splits.{Reach, here, there, Found, Named, owned}
use Rattle.splits.proofs.ClassLaws.{reach_on, owned_yes, owned_no, owned_ext}

abbrev pub at : List ℕ → ℕ → ℕ
at l i = get_or l i 0

-- The states below p are done, those from p on are as they were. A link leads from a state that names a class to the next that names a part of the same old class.
pub record SplitUpto (most : ℕ) (ks cs ns ls : List ℕ) (k p : ℕ) : Type 0 where
  pub long : length ns ≡ most
  pub wide : length ls ≡ most
  pub rises : (r : ℕ) → r < p → at ls r ≢ 0 → (r < at ls r) × (at ls r < p)
  pub past : (r : ℕ) → p ≤ r → at ls r ≡ 0
  pub low : (q : ℕ) → q < p → at ns q ≤ q
  pub own : (q : ℕ) → q < p → at ns (at ns q) ≡ at ns q
  pub key : (q : ℕ) → q < p → at ks (at ns q) ≡ at ks q
  pub class : (q : ℕ) → q < p → at cs (at ns q) ≡ at cs q
  pub one : (r q : ℕ) → r < p → q < p → at ns r ≡ r → at ns q ≡ q → at cs r ≡ at cs q → at ks r ≡ at ks q → r ≡ q
  pub chain : (r : ℕ) → r < p → at ns r ≡ r → Reach ls (at cs r) r
  pub onward : (r : ℕ) → r < p → at ls r ≢ 0 → (at ns (at ls r) ≡ at ls r) × (at cs (at ls r) ≡ at cs r)
  pub rest : (q : ℕ) → p ≤ q → at ns q ≡ at cs q
  pub count : k ≡ owned ns p

pub split_start : (most : ℕ) (ks cs ls : List ℕ) → length cs ≡ most → length ls ≡ most → ((r : ℕ) → at ls r ≡ 0) → SplitUpto most ks cs cs ls 0 0
unfolding owned
split_start most ks cs ls e f z = record {
  long = e;
  wide = f;
  rises = λ r h. absurd (not-suc-le-zero h);
  past = λ r h. z r;
  low = λ q h. absurd (not-suc-le-zero h);
  own = λ q h. absurd (not-suc-le-zero h);
  key = λ q h. absurd (not-suc-le-zero h);
  class = λ q h. absurd (not-suc-le-zero h);
  one = λ r q h. absurd (not-suc-le-zero h);
  chain = λ r h. absurd (not-suc-le-zero h);
  onward = λ r h. absurd (not-suc-le-zero h);
  rest = λ q h. refl;
  count = refl;
}

below : (p q : ℕ) → q < p + 1 → (q < p) ⊎ (q ≡ p)
below p q h = go (lt_cases q p)
  where
    go : LtCases q p → (q < p) ⊎ (q ≡ p)
    go (inl x) = inl x.0
    go (inr x) = inr (omega arith)

module _ (most n : ℕ) (ks cs ns ls : List ℕ) (count p : ℕ) (room : n ≤ most) (named : Named cs n) (h : p < n) (u : SplitUpto most ks cs ns ls count p) where
  -- along the links from a state that names a class
  way_names : (s r : ℕ) → s < p → at ns s ≡ s → Reach ls s r → (r < p) × (at ns r ≡ r) × (at cs r ≡ at cs s)
  way_names s r b e (here _) = (b, e, refl)
  way_names s r b e (there _ _ d w) =
      let (x, y, z) = way_names (at ls s) r (u.rises s b d).1 (u.onward s b d).0 w in
      (x, y, z ∙ (u.onward s b d).1)

  stuck : (s r : ℕ) → at ls s ≡ 0 → Reach ls s r → s ≡ r
  stuck s r e (here _) = refl
  stuck s r e (there _ _ d w) = absurd (d e)

  -- the least state of p's old class names a new one
  first_names : at cs p < p → at ns (at cs p) ≡ at cs p
  first_names b =
      let s : ℕ = at cs p in
      let o : at cs s ≡ s = named.own p h in
      let l : at ns s ≤ s = u.low s b in
      let k : at cs (at ns s) ≤ at ns s = named.low (at ns s) (omega arith) in
      omega (arith, u.class s b)

  -- p's new class is v
  module _ (v : ℕ) where
    new : at (set ns p v) p ≡ v
    new = get_or-set_same ns p v 0 (omega (arith, u.long))

    old : (q : ℕ) → q < p → at (set ns p v) q ≡ at ns q
    old q b = get_or-set_other ns p q v 0 (λ e. omega arith)

    count_own : v ≡ p → count + 1 ≡ owned (set ns p v) (p + 1)
    count_own e = rw (add-one p, owned_yes (set ns p v) p (new ∙ e), owned_ext (set ns p v) ns p old) (omega (arith, u.count))

    count_other : v ≢ p → count ≡ owned (set ns p v) (p + 1)
    count_other d = rw (add-one p, owned_no (set ns p v) p (λ e. d (sym new ∙ e)), owned_ext (set ns p v) ns p old) u.count

    -- with the links ms
    extend : (ms : List ℕ) (k : ℕ) → length ms ≡ most → (v < p → at ns v ≡ v) → v ≤ p → at ks v ≡ at ks p → at cs v ≡ at cs p
        → (v ≡ p → (q : ℕ) → q < p → at ns q ≡ q → at cs q ≡ at cs p → at ks q ≡ at ks p → ⊥)
        → ((a b : ℕ) → Reach ls a b → Reach ms a b) → (v ≡ p → Reach ms (at cs p) p)
        → ((q : ℕ) → q < p + 1 → at ms q ≢ 0 → (q < at ms q) × (at ms q < p + 1)) → ((q : ℕ) → p + 1 ≤ q → at ms q ≡ 0)
        → ((q : ℕ) → q < p + 1 → at ms q ≢ 0 → (at (set ns p v) (at ms q) ≡ at ms q) × (at cs (at ms q) ≡ at cs q))
        → k ≡ owned (set ns p v) (p + 1) → SplitUpto most ks cs (set ns p v) ms k (p + 1)
    extend ms k wide rep le key class unique grow mine rises past onward count = record {
      long = length-set ns p v ∙ u.long;
      wide = wide;
      rises = rises;
      past = past;
      low = λ q b. low q (below p q b);
      own = λ q b. own q (below p q b);
      key = λ q b. keys q (below p q b);
      class = λ q b. classes q (below p q b);
      one = λ a b x y. one a b (below p a x) (below p b y);
      chain = λ q b. chain q (below p q b);
      onward = onward;
      rest = λ q b. get_or-set_other ns p q v 0 (λ e. omega arith) ∙ u.rest q (omega arith);
      count = count;
    }
      where
        rep_at : at (set ns p v) v ≡ v
        rep_at = go (lt_cases v p)
          where
            go : LtCases v p → at (set ns p v) v ≡ v
            go (inl x) = old v x.0 ∙ rep x.0
            go (inr x) = let z : v ≡ p = omega arith in ap (at (set ns p v)) z ∙ new

        low : (q : ℕ) → (q < p) ⊎ (q ≡ p) → at (set ns p v) q ≤ q
        low q (inl x) = rw (old q x) (u.low q x)
        low q (inr x) = rw (x, new) le

        own : (q : ℕ) → (q < p) ⊎ (q ≡ p) → at (set ns p v) (at (set ns p v) q) ≡ at (set ns p v) q
        own q (inl x) = rw (old q x) (old (at ns q) (omega (arith, u.low q x)) ∙ u.own q x)
        own q (inr x) = rw (x, new) rep_at

        keys : (q : ℕ) → (q < p) ⊎ (q ≡ p) → at ks (at (set ns p v) q) ≡ at ks q
        keys q (inl x) = rw (old q x) (u.key q x)
        keys q (inr x) = rw (x, new) key

        classes : (q : ℕ) → (q < p) ⊎ (q ≡ p) → at cs (at (set ns p v) q) ≡ at cs q
        classes q (inl x) = rw (old q x) (u.class q x)
        classes q (inr x) = rw (x, new) class

        -- where p names a class, v is p
        is_own : (q : ℕ) → q ≡ p → at (set ns p v) q ≡ q → v ≡ p
        is_own q x e = sym new ∙ (rw x at e)

        one : (a b : ℕ) → (a < p) ⊎ (a ≡ p) → (b < p) ⊎ (b ≡ p) → at (set ns p v) a ≡ a → at (set ns p v) b ≡ b → at cs a ≡ at cs b → at ks a ≡ at ks b → a ≡ b
        one a b (inl x) (inl y) e f c d = u.one a b x y (sym (old a x) ∙ e) (sym (old b y) ∙ f) c d
        one a b (inl x) (inr y) e f c d = absurd (unique (is_own b y f) a x (sym (old a x) ∙ e) (rw y at c) (rw y at d))
        one a b (inr x) (inl y) e f c d = absurd (unique (is_own a x e) b y (sym (old b y) ∙ f) (sym (rw x at c)) (sym (rw x at d)))
        one a b (inr x) (inr y) e f c d = x ∙ sym y

        chain : (q : ℕ) → (q < p) ⊎ (q ≡ p) → at (set ns p v) q ≡ q → Reach ms (at cs q) q
        chain q (inl x) e = grow (at cs q) q (u.chain q x (sym (old q x) ∙ e))
        chain q (inr x) e = rw x (mine (is_own q x e))

  same_rises : (q : ℕ) → q < p + 1 → at ls q ≢ 0 → (q < at ls q) × (at ls q < p + 1)
  same_rises q b d = go (below p q b)
    where
      go : (q < p) ⊎ (q ≡ p) → (q < at ls q) × (at ls q < p + 1)
      go (inl x) = let t = u.rises q x d in (t.0, omega (arith, t.1))
      go (inr x) = absurd (d (rw x (u.past p (le_refl p))))

  same_onward : (v q : ℕ) → q < p + 1 → at ls q ≢ 0 → (at (set ns p v) (at ls q) ≡ at ls q) × (at cs (at ls q) ≡ at cs q)
  same_onward v q b d = go (below p q b)
    where
      go : (q < p) ⊎ (q ≡ p) → (at (set ns p v) (at ls q) ≡ at ls q) × (at cs (at ls q) ≡ at cs q)
      go (inl x) = (old v (at ls q) (u.rises q x d).1 ∙ (u.onward q x d).0, (u.onward q x d).1)
      go (inr x) = absurd (d (rw x (u.past p (le_refl p))))

  -- p is the least of its old class, and stays as it is.
  pub split_least : at ns p ≡ p → SplitUpto most ks cs ns ls (count + 1) (p + 1)
  split_least e =
      let o : at cs p ≡ p = sym (u.rest p (le_refl p)) ∙ e in
      subst (λ (l : List ℕ). SplitUpto most ks cs l ls (count + 1) (p + 1)) (ap (λ (v : ℕ). set ns p v) (sym e) ∙ set-get_or ns p 0)
      (extend p ls (count + 1) u.wide (λ x. absurd (omega arith)) (le_refl p) refl refl
      (λ _ q b _ c _. omega (arith, named.low q (omega arith), o, c)) (λ a b w. w) (λ _. rw o (here p))
      same_rises (λ q b. u.past q (omega arith)) (same_onward p) (count_own p refl))

  module _ (r : ℕ) (g : Found ks ls (at ns p) (at ks p) p r) where
    f : Found ks ls (at cs p) (at ks p) p r
    f = rw (u.rest p (le_refl p)) at g

    -- where the search ends before p, the old class has an earlier state, and r names a part of it
    names : r ≢ p → (r < p) × (at ns r ≡ r) × (at cs r ≡ at cs p)
    names d = go (lt_cases (at cs p) p)
      where
        go : LtCases (at cs p) p → (r < p) × (at ns r ≡ r) × (at cs r ≡ at cs p)
        go (inl x) = let (a, b, c) = way_names (at cs p) r x.0 (first_names x.0) f.way in (a, b, c ∙ named.own p h)
        go (inr x) = let z : at cs p ≡ p = omega (arith, named.low p h) in absurd (d (sym (stuck p r (u.past p (le_refl p)) (rw z at f.way))))

    -- p is not alone
    apart : at ns p ≢ p → r ≢ p
    apart d e = go (lt_cases (at cs p) p)
      where
        go : LtCases (at cs p) p → ⊥
        go (inl x) = let t = (way_names (at cs p) r x.0 (first_names x.0) f.way).0 in omega arith
        go (inr x) = let z : at cs p ≡ p = omega (arith, named.low p h) in d (u.rest p (le_refl p) ∙ z)

    -- p is of r's new class.
    pub split_joins : at ns p ≢ p → at ks r ≡ at ks p → SplitUpto most ks cs (set ns p r) ls count (p + 1)
    split_joins k e = let d : r ≢ p = apart k in let (b, x, y) = names d in
        extend r ls count u.wide (λ _. x) (omega arith) e y (λ z. absurd (d z)) (λ a b w. w) (λ z. absurd (d z))
        same_rises (λ q b. u.past q (omega arith)) (same_onward r) (count_other r d)

    -- p is the first of a new class, linked behind r.
    pub split_new : at ns p ≢ p → at ks r ≢ at ks p → SplitUpto most ks cs (set ns p p) (set ls r p) (count + 1) (p + 1)
    split_new k₀ e = extend p (set ls r p) (count + 1) (length-set ls r p ∙ u.wide) (λ x. absurd (omega arith)) (le_refl p) refl refl
        (λ _ q b x c k. e (ap (at ks) (stuck r q end (f.first q (rw c at (u.chain q b x)) k)) ∙ k)) grow
        (λ _. reach_on (set ls r p) (at cs p) r p (grow (at cs p) r f.way) linked) rises past onward (count_own p refl)
      where
        d : r ≢ p
        d = apart k₀

        b : r < p
        b = (names d).0

        end : at ls r ≡ 0
        end = go f.stop
          where
            go : (at ks r ≡ at ks p) ⊎ (at ls r ≡ 0) → at ls r ≡ 0
            go (inl x) = absurd (e x)
            go (inr x) = x

        link : at (set ls r p) r ≡ p
        link = get_or-set_same ls r p 0 (omega (arith, u.wide))

        other : (q : ℕ) → q ≢ r → at (set ls r p) q ≡ at ls q
        other q x = get_or-set_other ls r q p 0 x

        linked : Reach (set ls r p) r p
        linked = there r p (λ z. omega (arith, link, b)) (rw link (here p))

        grow : (a c : ℕ) → Reach ls a c → Reach (set ls r p) a c
        grow a c (here _) = here a
        grow a c (there _ _ x w) =
            let y : at (set ls r p) a ≡ at ls a = other a (λ z. x (rw z end)) in
            there a c (λ z. x (sym y ∙ z)) (rw y (grow (at ls a) c w))

        same : (q : ℕ) → (q ≡ r) ⊎ (q ≢ r)
        same q = go (lt_cases q r) (lt_cases r q)
          where
            go : LtCases q r → LtCases r q → (q ≡ r) ⊎ (q ≢ r)
            go (inl x) y = inr (λ z. omega arith)
            go (inr x) (inl y) = inr (λ z. omega arith)
            go (inr x) (inr y) = inl (omega arith)

        rises : (q : ℕ) → q < p + 1 → at (set ls r p) q ≢ 0 → (q < at (set ls r p) q) × (at (set ls r p) q < p + 1)
        rises q x z = go (same q)
          where
            go : (q ≡ r) ⊎ (q ≢ r) → (q < at (set ls r p) q) × (at (set ls r p) q < p + 1)
            go (inl y) = rw (y, link) (b, omega arith)
            go (inr y) = rw (other q y) (same_rises q x (λ k. z (other q y ∙ k)))

        past : (q : ℕ) → p + 1 ≤ q → at (set ls r p) q ≡ 0
        past q x = other q (λ z. omega (arith, b)) ∙ u.past q (omega arith)

        onward : (q : ℕ) → q < p + 1 → at (set ls r p) q ≢ 0 → (at (set ns p p) (at (set ls r p) q) ≡ at (set ls r p) q) × (at cs (at (set ls r p) q) ≡ at cs q)
        onward q x z = go (same q)
          where
            go : (q ≡ r) ⊎ (q ≢ r) → (at (set ns p p) (at (set ls r p) q) ≡ at (set ls r p) q) × (at cs (at (set ls r p) q) ≡ at cs q)
            go (inl y) = rw (y, link) (new p, sym (names d).2)
            go (inr y) = rw (other q y) (same_onward p q x (λ k. z (other q y ∙ k)))
