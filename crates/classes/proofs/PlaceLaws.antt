-- Laws of placing a state in a round.
use mathlib.Core.Path.{◌≡◌, refl, sym, ap, ◌∙◌}
use mathlib.Core.Bool.{Bool, true, false}
use mathlib.Core.Logic.{inl, inr, ◌≢◌}
use mathlib.Core.List.{List}
use Rattle.std.specs.Prelude.{Some, None}
use Prim.Native.Nat.{ℕ, zero, suc, ◌+◌, ◌≤◌, ◌<◌}
use native.Mathlib.Nat.{le_refl}
use native.Mathlib.Omega.{arith}
use lib.ListN.{set, length-set}
use lib.Seq.{get_or-set_same, get_or-set_other}
use borrow.Author.Tests.{eq-eqb, ne_eqb}
use Rattle.automata.specs.Basics.{LtCases, lt_cases}
use Rattle.automata.specs.Machine.{Machine}
use Rattle.automata.specs.Partition.{bit}
use Rattle.entries.specs.declared.table.Table.{Table}
use Rattle.entries.specs.Entries.{class_of, machine_of}
use Rattle.entries.specs.Classes.{Led, leaders}
use Rattle.leaders.specs.Round.{Together, Placed, Latest, Linked, Under, Leads}
use Rattle.classes.specs.Refine.{Placing}
use Rattle.leaders.proofs.RoundLaws.{together_refl, together_sym, together_trans, class_low}

-- ---- placing a state

-- p goes with r: an earlier leader, or p itself where the round keeps no earlier leader together with p
pub record Joins (k : ℕ) (M : Machine) (f g : ℕ → ℕ) (p r : ℕ) : Type 0 where
  pub low : r ≤ p
  pub sound : Together k M f r p
  pub leads : r < p → g r ≡ r
  pub none : r ≡ p → (s : ℕ) → s < p → g s ≡ s → Together k M f s p → ⊥

module _ (k n : ℕ) (M : Machine) (f g g' : ℕ → ℕ) (p r : ℕ) (D : Led n f) (hp : p < n) (here : g' p ≡ r) (other : (q : ℕ) → q < p → g' q ≡ g q) where
  pub placed_more : Placed k M f g p → Joins k M f g p r → Placed k M f g' (suc p)
  placed_more P R = record {
    low = λ q h. low q (lt_cases q p) (omega arith);
    again = λ q h. again q (lt_cases q p) (omega arith);
    sound = λ q h. sound q (lt_cases q p) (omega arith);
    whole = λ q s hq hs t. whole q s (lt_cases q p) (lt_cases s p) (omega arith) (omega arith) t;
  }
    where
      low : (q : ℕ) → LtCases q p → q ≤ p → g' q ≤ q
      low q (inl x) h = rw (other q x.0) (P.low q x.0)
      low q (inr x) h = let i : q ≡ p = omega arith in rw (i, here) R.low

      again : (q : ℕ) → LtCases q p → q ≤ p → g' (g' q) ≡ g' q
      again q (inl x) h = rw (other q x.0) (other (g q) (omega (arith, P.low q x.0, x.0)) ∙ P.again q x.0)
      again q (inr x) h = let i : q ≡ p = omega arith in rw (i, here) (mine (lt_cases r p))
        where
          mine : LtCases r p → g' r ≡ r
          mine (inl y) = other r y.0 ∙ R.leads y.0
          mine (inr y) = let j : r ≡ p = omega (arith, R.low) in ap g' j ∙ here

      sound : (q : ℕ) → LtCases q p → q ≤ p → Together k M f (g' q) q
      sound q (inl x) h = rw (other q x.0) (P.sound q x.0)
      sound q (inr x) h = let i : q ≡ p = omega arith in rw (i, here) R.sound

      -- what the round keeps together with p goes where p goes
      joins : (q : ℕ) → q < p → Together k M f q p → g q ≡ r
      joins q h t = go (lt_cases r p)
        where
          go : LtCases r p → g q ≡ r
          go (inl y) = P.whole q r h y.0 (together_trans k M f q p r t (together_sym k M f r p R.sound)) ∙ R.leads y.0
          go (inr y) = absurd (R.none (omega (arith, R.low)) (g q) (omega (arith, P.low q h)) (P.again q h) (together_trans k M f (g q) q p (P.sound q h) t))

      whole : (q s : ℕ) → LtCases q p → LtCases s p → q ≤ p → s ≤ p → Together k M f q s → g' q ≡ g' s
      whole q s (inl x) (inl y) h b t = other q x.0 ∙ P.whole q s x.0 y.0 t ∙ sym (other s y.0)
      whole q s (inl x) (inr y) h b t = let i : s ≡ p = omega arith in rw i (other q x.0 ∙ joins q x.0 (rw i at t) ∙ sym here)
      whole q s (inr x) (inl y) h b t = let i : q ≡ p = omega arith in rw i (here ∙ sym (joins s y.0 (together_sym k M f p s (rw i at t))) ∙ sym (other s y.0))
      whole q s (inr x) (inr y) h b t = let i : q ≡ s = omega arith in ap g' i

  -- a leader stays the latest while no leader of its class is placed
  stays : (c s : ℕ) → Latest f g c s p → (r ≡ p → f p ≢ c) → Latest f g' c s (suc p)
  stays c s z d = record {
    below = omega (arith, z.below);
    class = z.class;
    leads = other s z.below ∙ z.leads;
    none = λ q a b e i. none q a e i (lt_cases q p) (omega arith);
  }
    where
      none : (q : ℕ) → s < q → g' q ≡ q → f q ≡ c → LtCases q p → q ≤ p → ⊥
      none q a e i (inl x) h = z.none q a x.0 (sym (other q x.0) ∙ e) i
      none q a e i (inr x) h = let j : q ≡ p = omega arith in d (sym here ∙ (rw j at e)) (rw j at i)

  -- and what is linked below p stays linked
  kept : (c s b : ℕ) → b ≤ p → Latest f g c s b → Latest f g' c s b
  kept c s b h z = record {
    below = z.below;
    class = z.class;
    leads = other s (omega (arith, z.below)) ∙ z.leads;
    none = λ q a v e i. z.none q a v (sym (other q (omega arith)) ∙ e) i;
  }

  -- p is the latest leader of its class
  pub first : r ≡ p → Latest f g' (f p) p (suc p)
  first e = record { below = le_refl (suc p); class = refl; leads = here ∙ e; none = λ q a b. absurd (omega arith) }

  module _ (l l' : ℕ → ℕ) (L : Linked f g l p) where
    -- p goes with an earlier leader
    pub linked_joins : r ≢ p → ((q : ℕ) → q < p → l' q ≡ l q) → f p ≢ p → Linked f g' l' (suc p)
    linked_joins d same e = record { head = λ q h i. head q i (lt_cases q p) (omega arith); inner = λ q h i j. inner q i j (lt_cases q p) (omega arith) }
      where
        head : (q : ℕ) → f q ≡ q → LtCases q p → q ≤ p → Latest f g' q (l' q) (suc p)
        head q i (inl x) h = rw (same q x.0) (stays q (l q) (L.head q x.0 i) (λ z. absurd (d z)))
        head q i (inr x) h = let j : q ≡ p = omega arith in absurd (e (rw j at i))

        inner : (q : ℕ) → g' q ≡ q → f q ≢ q → LtCases q p → q ≤ p → Latest f g' (f q) (l' q) q
        inner q i v (inl x) h = rw (same q x.0) (kept (f q) (l q) q h (L.inner q x.0 (sym (other q x.0) ∙ i) v))
        inner q i v (inr x) h = let j : q ≡ p = omega arith in absurd (d (sym here ∙ (rw j at i)))

    -- p leads its old class
    pub linked_head : r ≡ p → ((q : ℕ) → q < p → l' q ≡ l q) → f p ≡ p → l' p ≡ p → Linked f g' l' (suc p)
    linked_head d same e u = record { head = λ q h i. head q i (lt_cases q p) (omega arith); inner = λ q h i j. inner q i j (lt_cases q p) (omega arith) }
      where
        head : (q : ℕ) → f q ≡ q → LtCases q p → q ≤ p → Latest f g' q (l' q) (suc p)
        head q i (inl x) h = rw (same q x.0) (stays q (l q) (L.head q x.0 i) (λ _ z. absurd (omega (arith, x.0))))
        head q i (inr x) h = let j : q ≡ p = omega arith in rw (j, u) (rw e at (first d))

        inner : (q : ℕ) → g' q ≡ q → f q ≢ q → LtCases q p → q ≤ p → Latest f g' (f q) (l' q) q
        inner q i v (inl x) h = rw (same q x.0) (kept (f q) (l q) q h (L.inner q x.0 (sym (other q x.0) ∙ i) v))
        inner q i v (inr x) h = let j : q ≡ p = omega arith in absurd (v (rw j e))

    -- p leads a new class, which is the latest of its old one
    pub linked_leads : r ≡ p → ((q : ℕ) → q < p → q ≢ f p → l' q ≡ l q) → f p ≢ p → l' (f p) ≡ p → l' p ≡ l (f p) → Linked f g' l' (suc p)
    linked_leads d same e u v = record { head = λ q h i. head q i (lt_cases q p) (omega arith); inner = λ q h i j. inner q i j (lt_cases q p) (omega arith) }
      where
        low : f p < p
        low = omega (arith, D.low p hp)

        head : (q : ℕ) → f q ≡ q → LtCases q p → q ≤ p → Latest f g' q (l' q) (suc p)
        head q i (inl x) h = go (lt_cases q (f p)) (lt_cases (f p) q)
          where
            far : q ≢ f p → Latest f g' q (l' q) (suc p)
            far z = rw (same q x.0 z) (stays q (l q) (L.head q x.0 i) (λ _ y. z (sym y)))

            go : LtCases q (f p) → LtCases (f p) q → Latest f g' q (l' q) (suc p)
            go (inl y) z = far (omega arith)
            go (inr y) (inl z) = far (omega arith)
            go (inr y) (inr z) = let j : q ≡ f p = omega arith in rw (j, u) (first d)
        head q i (inr x) h = let j : q ≡ p = omega arith in absurd (e (rw j at i))

        inner : (q : ℕ) → g' q ≡ q → f q ≢ q → LtCases q p → q ≤ p → Latest f g' (f q) (l' q) q
        inner q i z (inl x) h =
            rw (same q x.0 (λ j. z (ap f j ∙ D.again p hp ∙ sym j)))
            (kept (f q) (l q) q h (L.inner q x.0 (sym (other q x.0) ∙ i) z))
        inner q i z (inr x) h = let j : q ≡ p = omega arith in rw (j, v) (kept (f p) (l (f p)) p (le_refl p) (L.head (f p) low (D.again p hp)))

  -- how many lead
  pub leaders_same : (m : ℕ) → m ≤ p → leaders g' m ≡ leaders g m
  unfolding leaders
  leaders_same zero h = refl
  leaders_same (suc m) h = rw (other m h, leaders_same m (omega arith))

  pub leaders_more : r ≡ p → leaders g' (suc p) ≡ 1 + leaders g p
  unfolding leaders
  leaders_more e = rw (eq-eqb (g' p) p (here ∙ e), leaders_same p (le_refl p)) (omega arith)

  pub leaders_joins : r ≢ p → leaders g' (suc p) ≡ 0 + leaders g p
  unfolding leaders
  leaders_joins e = rw (ne_eqb (g' p) p (λ z. e (sym here ∙ z)), leaders_same p (le_refl p)) (omega arith)

-- ---- placing a state in the lists

module _ {T : Table} {p : ℕ} {cls next links : List ℕ} (U : Under T p cls next links) where
  abbrev N : Machine
  N = machine_of T

  abbrev h : ℕ → ℕ
  h = class_of cls

  -- what the stores leave is known, entry by entry
  placing : (r : ℕ) (x : Bool) (next' links' : List ℕ) → class_of next' p ≡ r → ((q : ℕ) → q < p → class_of next' q ≡ class_of next q) → Joins T.columns N h (class_of next) p r
      → Linked h (class_of next') (class_of links') (suc p) → leaders (class_of next') (suc p) ≡ bit x + leaders (class_of next) p → Placing T p cls next next' links' x
  placing r x next' links' here other R L count = record {
    partial = record {
      led = U.partial.led;
      placed = placed_more T.columns T.states N h (class_of next) (class_of next') p r U.partial.led U.inside here other U.partial.placed R;
      linked = L;
    };
    count = count;
  }

  module _ (r : ℕ) where
    here : class_of (set next p r) p ≡ r
    here = get_or-set_same next p r 0 (omega (arith, U.inside, U.sized.next_long))

    other : (q : ℕ) → q < p → class_of (set next p r) q ≡ class_of next q
    other q b = get_or-set_other next p q r 0 (omega arith)

  -- the leader of an old class leads
  pub place_head : (c : ℕ) → c ≡ h p → c ≡ p → Placing T p cls next (set next p p) (set links p p) true
  place_head c e i = placing p true (set next p p) (set links p p) (here p) (other p) itself
      (linked_head T.columns T.states N h (class_of next) (class_of (set next p p)) p p U.partial.led U.inside (here p) (other p) (class_of links) (class_of (set links p p)) U.partial.linked refl
      (λ q b. get_or-set_other links p q p 0 (omega arith)) z (get_or-set_same links p p 0 (omega (arith, U.inside, U.sized.links_long))))
      (leaders_more T.columns T.states N h (class_of next) (class_of (set next p p)) p p U.partial.led U.inside (here p) (other p) refl)
    where
      z : h p ≡ p
      z = sym e ∙ i

      itself : Joins T.columns N h (class_of next) p p
      itself = record {
        low = le_refl p;
        sound = together_refl T.columns N h p;
        leads = λ b. absurd (omega arith);
        none = λ _ s b _ t. omega (arith, U.partial.led.low s (omega (arith, U.inside)), t.class, z);
      }

  module _ (c : ℕ) (e : c ≡ h p) (d : c ≢ p) where
    z : h p ≢ p
    z x = d (e ∙ x)

    -- p goes with an earlier leader
    pub place_joins : (r : ℕ) → Leads T.columns N h (class_of next) p (Some r) → Placing T p cls next (set next p r) links false
    place_joins r R =
        let y : r ≢ p = omega (arith, R.0) in
        placing r false (set next p r) links (here r) (other r) (record { low = omega (arith, R.0); sound = R.2; leads = λ _. R.1; none = λ i. absurd (y i) })
        (linked_joins T.columns T.states N h (class_of next) (class_of (set next p r)) p r U.partial.led U.inside (here r) (other r) (class_of links) (class_of links) U.partial.linked y (λ q _. refl) z)
        (leaders_joins T.columns T.states N h (class_of next) (class_of (set next p r)) p r U.partial.led U.inside (here r) (other r) y)

    -- p leads a class of its own
    pub place_leads : Leads T.columns N h (class_of next) p None → Placing T p cls next (set next p p) (set (set links p (class_of links c)) c p) true
    place_leads R = placing p true (set next p p) W (here p) (other p) (record { low = le_refl p; sound = together_refl T.columns N h p; leads = λ b. absurd (omega arith); none = λ _. R })
        (linked_leads T.columns T.states N h (class_of next) (class_of (set next p p)) p p U.partial.led U.inside (here p) (other p) (class_of links) (class_of W) U.partial.linked refl same z mine last)
        (leaders_more T.columns T.states N h (class_of next) (class_of (set next p p)) p p U.partial.led U.inside (here p) (other p) refl)
      where
        W₁ : List ℕ
        W₁ = set links p (class_of links c)

        W : List ℕ
        W = set W₁ c p

        low : c ≤ p
        low = class_low U c e

        mine : class_of W (h p) ≡ p
        mine = rw (← e) (get_or-set_same W₁ c p 0 (omega (arith, U.inside, U.sized.links_long, low, length-set links p (class_of links c))))

        last : class_of W p ≡ class_of links (h p)
        last = rw (← e) (get_or-set_other W₁ c p p 0 (omega (arith, d)) ∙ get_or-set_same links p (class_of links c) 0 (omega (arith, U.inside, U.sized.links_long)))

        same : (q : ℕ) → q < p → q ≢ h p → class_of W q ≡ class_of links q
        same q v i = get_or-set_other W₁ c q p 0 (λ o. i (o ∙ e)) ∙ get_or-set_other links p q (class_of links c) 0 (omega arith)
