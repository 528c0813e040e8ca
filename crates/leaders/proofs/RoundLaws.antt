-- Laws of one round of partition refinement: comparing two states, searching the leaders of a class.
use mathlib.Core.Path.{◌≡◌, refl, sym, ◌∙◌}
use mathlib.Core.Bool.{Bool, true, false, true≢false}
use mathlib.Core.Logic.{inl, inr, ◌≢◌}
use mathlib.Core.List.{List}
use Prim.Native.Nat.{ℕ, ◌+◌, ◌≤◌, ◌<◌}
use native.Mathlib.Omega.{arith}
use Rattle.std.specs.Prelude.{Some, None}
use Rattle.automata.specs.Basics.{LtCases, lt_cases}
use Rattle.automata.specs.Machine.{Machine, automaton}
use Rattle.automata.specs.Refinement.{SameSignature}
use Rattle.entries.specs.declared.table.Table.{Table}
use Rattle.entries.specs.Entries.{class_of, machine_of}
use Rattle.entries.specs.Classes.{Led}
use Rattle.leaders.specs.Round.{Says, SameClass, Together, Latest, Linked, Under, Leads}

-- ---- states that a round keeps together

module _ (k : ℕ) (M : Machine) (f : ℕ → ℕ) where
  pub together_refl : (p : ℕ) → Together k M f p p
  together_refl p = record { class = refl; signature = record { accepting = refl; step = λ c h. refl } }

  pub together_sym : (p q : ℕ) → Together k M f p q → Together k M f q p
  together_sym p q t = record { class = sym t.class; signature = record { accepting = sym t.signature.accepting; step = λ c h. sym (t.signature.step c h) } }

  pub together_trans : (p q r : ℕ) → Together k M f p q → Together k M f q r → Together k M f p r
  together_trans p q r t u = record {
    class = t.class ∙ u.class;
    signature = record { accepting = t.signature.accepting ∙ u.signature.accepting; step = λ c h. t.signature.step c h ∙ u.signature.step c h };
  }

-- ---- searching the leaders of a class

-- r is a leader of p's class, and no later one goes with p.
pub record Searching (k : ℕ) (M : Machine) (f g : ℕ → ℕ) (p r : ℕ) : Type 0 where
  pub below : r < p
  pub class : f r ≡ f p
  pub leads : g r ≡ r
  pub none : (s : ℕ) → r < s → s < p → g s ≡ s → Together k M f s p → ⊥

module _ (k n : ℕ) (M : Machine) (f g l : ℕ → ℕ) (p : ℕ) (D : Led n f) (hp : p < n) (L : Linked f g l p) where
  pub search_start : f p ≢ p → Searching k M f g p (l (f p))
  search_start d =
      let h : f p < p = omega (arith, D.low p hp) in
      let z = L.head (f p) h (D.again p hp) in
      record { below = z.below; class = z.class; leads = z.leads; none = λ s a b e t. z.none s a b e t.class }

  pub search_found : (r : ℕ) → Searching k M f g p r → SameSignature k M f r p → Leads k M f g p (Some r)
  search_found r z s = (z.below, z.leads, record { class = z.class; signature = s })

  -- none of the leaders from r on
  later : (r : ℕ) → Searching k M f g p r → (SameSignature k M f r p → ⊥) → (s : ℕ) → r ≤ s → s < p → g s ≡ s → Together k M f s p → ⊥
  later r z d s a b e t = go (lt_cases r s)
    where
      go : LtCases r s → ⊥
      go (inl x) = z.none s x.0 b e t
      go (inr x) = let i : s ≡ r = omega arith in d (rw i at t.signature)

  -- the last leader is the class's own
  pub search_end : (r : ℕ) → r ≡ f p → Searching k M f g p r → (SameSignature k M f r p → ⊥) → Leads k M f g p None
  search_end r i z d = λ s b e t. later r z d s (omega (arith, D.low s (omega arith), t.class)) b e t

  pub search_next : (r : ℕ) → r ≢ f p → Searching k M f g p r → (SameSignature k M f r p → ⊥) → Searching k M f g p (l r) × (l r < r)
  search_next r i z d =
      let y = L.inner r z.below z.leads (λ e. i (sym e ∙ z.class)) in (
        record {
          below = omega (arith, y.below, z.below);
          class = y.class ∙ z.class;
          leads = y.leads;
          none = λ s a b e t. go y s a b e t (lt_cases s r);
        },
        y.below,
      )
    where
      go : Latest f g (f r) (l r) r → (s : ℕ) → l r < s → s < p → g s ≡ s → Together k M f s p → LtCases s r → ⊥
      go y s a b e t (inl x) = y.none s a x.0 e (t.class ∙ sym z.class)
      go y s a b e t (inr x) = later r z d s x.0 b e t

-- ---- the search in the lists

module _ {T : Table} {p : ℕ} {classes next links : List ℕ} (U : Under T p classes next links) where
  abbrev M : Machine
  M = machine_of T

  abbrev f : ℕ → ℕ
  f = class_of classes

  pub class_low : (c : ℕ) → c ≡ f p → c ≤ p
  class_low c e = rw e (U.partial.led.low p U.inside)

  pub leader_start : (c r : ℕ) → (f p ≡ p → ⊥) → c ≡ f p → r ≡ class_of links c → Searching T.columns M f (class_of next) p r
  leader_start c r d e i = rw (i, e) (search_start T.columns T.states M f (class_of next) (class_of links) p U.partial.led U.inside U.partial.linked d)

  -- a class goes by a state of its own
  pub class_same : (c : ℕ) → c ≡ f p → f c ≡ f p
  class_same c e = rw e (U.partial.led.again p U.inside)

  -- the class's own leader
  pub leader_first : (c : ℕ) (b : Bool) → (f p ≡ p → ⊥) → c ≡ f p → Says b (SameSignature T.columns M f c p) → b ≡ true → Leads T.columns M f (class_of next) p (Some c)
  leader_first c b d e s y =
      let low = class_low c e in
      let o : c ≡ p → ⊥ = λ z. d (sym e ∙ z) in
      let h : c < p = omega arith in
      let class = class_same c e in
      let self : f (class_of next c) ≡ c = (U.partial.placed.sound c h).class ∙ class ∙ sym e in
      let under = U.partial.placed.low c h in
      let over : c ≤ class_of next c = omega (arith, self, U.partial.led.low (class_of next c) (omega (arith, U.inside))) in
      (h, omega arith, record { class = class; signature = s.yes y })

  pub leader_found : (r : ℕ) (b : Bool) → Searching T.columns M f (class_of next) p r → Says b (SameSignature T.columns M f r p) → b ≡ true → Leads T.columns M f (class_of next) p (Some r)
  leader_found r b z s e = search_found T.columns T.states M f (class_of next) (class_of links) p U.partial.led U.inside U.partial.linked r z (s.yes e)

  pub leader_end : (c r : ℕ) (b : Bool) → c ≡ f p → r ≡ c → Searching T.columns M f (class_of next) p r → Says b (SameSignature T.columns M f c p) → b ≡ false
      → Leads T.columns M f (class_of next) p None
  leader_end c r b i j z s e =
      search_end T.columns T.states M f (class_of next) (class_of links) p U.partial.led U.inside U.partial.linked r (j ∙ i) z (rw j (s.no e))

  pub leader_next : (c r x : ℕ) (b : Bool) → c ≡ f p → r ≢ c → x ≡ class_of links r → Searching T.columns M f (class_of next) p r → Says b (SameSignature T.columns M f r p) → b ≡ false
      → Searching T.columns M f (class_of next) p x × (x < r)
  leader_next c r x b i j v z s e =
      rw v (search_next T.columns T.states M f (class_of next) (class_of links) p U.partial.led U.inside U.partial.linked r (λ y. j (y ∙ sym i)) z (s.no e))

-- ---- two states compared column by column, two at a time

module _ (M : Machine) (f : ℕ → ℕ) (p q : ℕ) where
  -- The columns below e lead to one class each.
  abbrev pub SameBelow : ℕ → Type 0
  SameBelow e = (c : ℕ) → c < e → SameClass M f p q c

  pub below_none : SameBelow 0
  below_none c h = absurd (omega arith)

  pub below_more : (e : ℕ) → SameBelow e → SameClass M f p q e → SameBelow (e + 1)
  below_more e a b c h = go (lt_cases c e)
    where
      go : LtCases c e → SameClass M f p q c
      go (inl x) = a c x.0
      go (inr x) = let i : e ≡ c = omega arith in rw i at b

  module _ (k : ℕ) (same : (automaton M).accepting p ≡ (automaton M).accepting q) where
    pub all_same : SameBelow k → Says true (SameSignature k M f p q)
    all_same a = record { yes = λ e. record { accepting = same; step = λ c h. (a c h).step }; no = λ e s. true≢false e }

    -- the last column decides
    pub last_says : (c : ℕ) (b : Bool) → c + 1 ≡ k → SameBelow c → Says b (SameClass M f p q c) → Says b (SameSignature k M f p q)
    last_says c b i a r = record {
      yes = λ e. record { accepting = same; step = λ d h. (below_more c a (r.yes e) d (rw (← i) at h)).step };
      no = λ e s. r.no e (record { step = s.step c (omega (arith, i)) });
    }
