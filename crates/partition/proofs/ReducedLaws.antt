-- Partition refinement column by column, and that it says whether two states of the machine are equivalent.
use mathlib.Core.Path.{◌≡◌, refl, sym, ap, ◌∙◌}
use mathlib.Core.Bool.{true, false, false≢true}
use mathlib.Core.Logic.{◌⊎◌, inl, inr, ◌≢◌}
use mathlib.Core.List.{List, [], ◌∷◌}
use Prim.Native.Nat.{ℕ, ◌+◌, ◌*◌, ◌≤◌, ◌<◌}
use native.Mathlib.Nat.{le_refl, not-suc-le-zero}
use native.Mathlib.Omega.{arith}
use lib.ListN.{length, get_or, replicate}
use lib.Dec.{eqb}
use Rattle.std.proofs.Common.{nat_eq}
use Rattle.automata.specs.Booleans.{bool_cases}
use Rattle.automata.specs.Decide.{contradict}
use Rattle.automata.specs.Basics.{LtCases, lt_cases, nat_test}
use Rattle.automata.specs.Machine.{Machine, Equivalent, Reduced}
use Rattle.automata.specs.Refinement.{Settled, settled_equivalent, coarse_apart}
use Rattle.moves.specs.Holds.{Table, Holds, AcceptKeys}
use Rattle.sweeps.specs.Change.{Alike}
use Rattle.splits.specs.Splits.{Named, owned, Split, Columns, Refined}
use Rattle.partition.specs.Classes.{ReducedExactly, Classed, Stretch, ClassesExactly}
use Rattle.splits.proofs.ClassLaws.{none_linked, owned_le, owned_all, owned_some, owned_mono, owned_same}
use Rattle.moves.specs.TableLaws.{move_inside}

-- After the columns below c of a pass that began with `before` classes, there are k. Equivalent states share a class, and states of one class accept
-- alike; where no class was split in this pass, its columns lead from one class to one class.
pub record ClassesUpto (m : ℕ) (ms bs cs : List ℕ) (k before c : ℕ) : Type 0 where
  pub long : length cs ≡ 120
  pub named : Named cs (length ms)
  pub count : k ≡ owned cs (length ms)
  pub more : before ≤ k
  pub accept : (p q : ℕ) → p < length ms → q < length ms → get_or cs p 0 ≡ get_or cs q 0 → eqb 1 (get_or ms p 0) ≡ eqb 1 (get_or ms q 0)
  pub coarse : (M : Machine) → Holds m ms bs M → (p q : ℕ) → p < length ms → q < length ms → Equivalent m M p q → get_or cs p 0 ≡ get_or cs q 0
  pub quiet : k ≡ before → (p q i : ℕ) → p < length ms → q < length ms → i < c → get_or cs p 0 ≡ get_or cs q 0
      → get_or cs (get_or bs (p * m + i) 0) 0 ≡ get_or cs (get_or bs (q * m + i) 0) 0

pub one_class : (n : ℕ) → Named (replicate 120 0) n
one_class n = record { low = λ p h. rw (none_linked 120 p) (omega arith); own = λ p h. none_linked 120 (get_or (replicate 120 0) p 0) ∙ sym (none_linked 120 p) }

pub classes_start : (m : ℕ) (ms bs ks cs : List ℕ) (k : ℕ) → AcceptKeys ms ks → Split (length ms) ks (replicate 120 0) cs k → ClassesUpto m ms bs cs k k 0
classes_start m ms bs ks cs k a s = record {
  long = s.long;
  named = s.named;
  count = s.count;
  more = le_refl k;
  accept = λ p q h b e. a.sound p q h b (sym (s.key p h) ∙ ap (λ i. get_or ks i 0) e ∙ s.key q b);
  coarse = λ M H p q h b e. s.joins p q h b (none_linked 120 p ∙ sym (none_linked 120 q))
      (a.whole p q h b (sym (H.accepting p h) ∙ e [] tt ∙ H.accepting q b));
  quiet = λ _ p q i h b v. absurd (not-suc-le-zero v);
}

pub refined_low : (m n c : ℕ) (bs cs ns : List ℕ) (r : ℕ) → Refined m bs n c cs ns r → r ≤ n
refined_low m n c bs cs ns r u = omega (arith, u.count, owned_le ns n)

module _ (m : ℕ) (ms bs : List ℕ) (t : Table 120 m ms bs) where
  pub columns_of : (n c : ℕ) → n ≡ length ms → c < m → Columns m n c bs
  columns_of n c e h = rw e (record { some = t.some; most = t.states_most; column = h; long = t.long; inside = t.inside })

  module _ (cs : List ℕ) (k before c : ℕ) (u : ClassesUpto m ms bs cs k before c) where
    refined_keeps : (ns : List ℕ) (r : ℕ) → Refined m bs (length ms) c cs ns r → (p : ℕ) → p < length ms → get_or cs p 0 ≡ p → get_or ns p 0 ≡ p
    refined_keeps ns r s p a x =
        let q : ℕ = get_or ns p 0 in
        let l : q ≤ p = s.named.low p a in
        let y : get_or cs q 0 ≡ get_or cs p 0 = (s.parts q p (omega arith) a (s.named.own p a)).0 in
        omega (arith, u.named.low q (omega arith))

    -- there are no fewer classes
    pub refined_grows : (ns : List ℕ) (r : ℕ) → Refined m bs (length ms) c cs ns r → k ≤ r
    refined_grows ns r s = omega (arith, u.count, s.count, owned_mono cs ns (length ms) (refined_keeps ns r s))

    -- one column more, which splits no class,
    pub classes_next : (ns : List ℕ) (r : ℕ) → c < m → Refined m bs (length ms) c cs ns r → ClassesUpto m ms bs ns r before (c + 1)
    classes_next ns r h s = record {
      long = s.long;
      named = s.named;
      count = s.count;
      more = omega (arith, u.more, grows);
      accept = λ p q a b x. u.accept p q a b (s.parts p q a b x).0;
      coarse = λ M H p q a b x. s.joins p q a b (u.coarse M H p q a b x)
          (u.coarse M H (get_or bs (p * m + c) 0) (get_or bs (q * m + c) 0) (move_inside _ _ _ _ t p c a h) (move_inside _ _ _ _ t q c b h)
          (rw (← H.step p c a h, ← H.step q c b h) (λ w o. x (c ∷ w) (h, o))));
      quiet = λ x p q i a b v y. still x p q i a b v y (lt_cases i c);
    }
      where
        keeps : (p : ℕ) → p < length ms → get_or cs p 0 ≡ p → get_or ns p 0 ≡ p
        keeps = refined_keeps ns r s

        grows : k ≤ r
        grows = refined_grows ns r s

        -- where there are no more classes, they are the same
        same : r ≡ before → (p : ℕ) → p < length ms → get_or ns p 0 ≡ get_or cs p 0
        same x p a =
            let q : ℕ = get_or ns p 0 in
            let l : q ≤ p = s.named.low p a in
            let y : get_or cs q 0 ≡ get_or cs p 0 = (s.parts q p (omega arith) a (s.named.own p a)).0 in
            sym (owned_same cs ns (length ms) keeps (omega (arith, u.count, s.count, u.more, grows)) q (omega arith) (s.named.own p a)) ∙ y

        still : r ≡ before → (p q i : ℕ) → p < length ms → q < length ms → i < c + 1 → get_or ns p 0 ≡ get_or ns q 0 → LtCases i c
            → get_or ns (get_or bs (p * m + i) 0) 0 ≡ get_or ns (get_or bs (q * m + i) 0) 0
        still x p q i a b v y (inl z) = same x (get_or bs (p * m + i) 0) (move_inside _ _ _ _ t p i a (omega arith))
            ∙ u.quiet (omega (arith, u.more, grows)) p q i a b z.0 (sym (same x p a) ∙ y ∙ same x q b) ∙ sym (same x (get_or bs (q * m + i) 0) (move_inside _ _ _ _ t q i b (omega arith)))
        still x p q i a b v y (inr z) = let j : i ≡ c = omega arith in
            rw j (same x (get_or bs (p * m + c) 0) (move_inside _ _ _ _ t p c a h) ∙ (s.parts p q a b y).1 ∙ sym (same x (get_or bs (q * m + c) 0) (move_inside _ _ _ _ t q c b h)))

    -- or it does, and the same column comes again.
    pub classes_stay : (ns : List ℕ) (r : ℕ) → c < m → Refined m bs (length ms) c cs ns r → ClassesUpto m ms bs ns r before c
    classes_stay ns r h s = let u' = classes_next ns r h s in
        record { long = u'.long; named = u'.named; count = u'.count; more = u'.more; accept = u'.accept; coarse = u'.coarse; quiet = λ x p q i a b v. u'.quiet x p q i a b (omega arith) }

    -- a new pass
    pub classes_again : ClassesUpto m ms bs cs k k 0
    classes_again = record { long = u.long; named = u.named; count = u.count; more = le_refl k; accept = u.accept; coarse = u.coarse; quiet = λ _ p q i h b v. absurd (not-suc-le-zero v) }

    -- what is left of it
    pub classed : Classed m ms bs cs k
    classed = record { long = u.long; named = u.named; count = u.count; accept = u.accept; coarse = u.coarse }

    -- Each state is alone in its class:
    pub exact_alone : length ms ≤ k → ClassesExactly m ms bs cs k
    exact_alone h = record {
      named = u.named;
      count = u.count;
      sound = λ M H p q a b e. let z : p ≡ q = sym (alone p a) ∙ e ∙ alone q b in rw z (λ w o. refl);
      whole = u.coarse;
    }
      where
        alone : (p : ℕ) → p < length ms → get_or cs p 0 ≡ p
        alone = owned_all cs (length ms) (omega (arith, u.count))

    -- or a pass split no class.
    pub exact_settled : m ≤ c → k ≡ before → ClassesExactly m ms bs cs k
    exact_settled l e = record {
      named = u.named;
      count = u.count;
      sound = λ M H p q a b x. settled_equivalent m M H.formed (λ p. get_or cs p 0) (settled M H) p q (rw H.states a) (rw H.states b) x;
      whole = u.coarse;
    }
      where
        settled : (M : Machine) → Holds m ms bs M → Settled m M (λ p. get_or cs p 0)
        settled M H p q a b x =
            let a' : p < length ms = rw H.states at a in
            let b' : q < length ms = rw H.states at b in
            record {
              accepting = H.accepting p a' ∙ u.accept p q a' b' x ∙ sym (H.accepting q b');
              step = λ i v. rw (H.step p i a' v, H.step q i b' v) (u.quiet e p q i a' b' (omega arith) x);
            }

-- ---- a stretch of passes

pub upto_start : (m : ℕ) (ms bs cs : List ℕ) (k : ℕ) → Classed m ms bs cs k → ClassesUpto m ms bs cs k k 0
upto_start m ms bs cs k u = record { long = u.long; named = u.named; count = u.count; more = le_refl k; accept = u.accept; coarse = u.coarse; quiet = λ _ p q i h b v. absurd (not-suc-le-zero v) }

pub classed_low : (m : ℕ) (ms bs cs : List ℕ) (k : ℕ) → Classed m ms bs cs k → k ≤ length ms
classed_low m ms bs cs k u = omega (arith, u.count, owned_le cs (length ms))

module _ (m : ℕ) (ms bs : List ℕ) (t : Table 120 m ms bs) (cs : List ℕ) (k before c : ℕ) (u : ClassesUpto m ms bs cs k before c) (begun : ℕ) (h : begun ≤ before) where
  pub stretch_alone : length ms ≤ k → Stretch m ms bs begun cs k
  stretch_alone l = record { classed = classed m ms bs t cs k before c u; more = omega (arith, u.more); done = λ _. exact_alone m ms bs t cs k before c u l }

  pub stretch_settled : m ≤ c → k ≡ before → Stretch m ms bs begun cs k
  stretch_settled l e = record { classed = classed m ms bs t cs k before c u; more = omega (arith, u.more); done = λ _. exact_settled m ms bs t cs k before c u l e }

  pub stretch_late : (k ≡ before → ⊥) → Stretch m ms bs begun cs k
  stretch_late d = record { classed = classed m ms bs t cs k before c u; more = omega (arith, u.more); done = λ e. absurd (d (omega (arith, e, h, u.more))) }

pub classed_first : (m : ℕ) (ms bs : List ℕ) (t : Table 120 m ms bs) (ks cs : List ℕ) (k : ℕ) → AcceptKeys ms ks → Split (length ms) ks (replicate 120 0) cs k → Classed m ms bs cs k
classed_first m ms bs t ks cs k a s = classed m ms bs t cs k k 0 (classes_start m ms bs ks cs k a s)

pub split_grows : (m : ℕ) (ms bs fs cs ns : List ℕ) (k r : ℕ) → Classed m ms bs cs k → Split (length ms) fs cs ns r → k ≤ r
split_grows m ms bs fs cs ns k r u s = omega (arith, u.count, s.count, owned_mono cs ns (length ms) keeps)
  where
    keeps : (p : ℕ) → p < length ms → get_or cs p 0 ≡ p → get_or ns p 0 ≡ p
    keeps p a x =
        let q : ℕ = get_or ns p 0 in
        let l : q ≤ p = s.named.low p a in
        let y : get_or cs q 0 ≡ get_or cs p 0 = s.class p a in
        omega (arith, u.named.low q (omega arith))

pub classed_alone : (m : ℕ) (ms bs : List ℕ) (t : Table 120 m ms bs) (cs : List ℕ) (k : ℕ) → Classed m ms bs cs k → k ≡ length ms → ClassesExactly m ms bs cs k
classed_alone m ms bs t cs k u e = exact_alone m ms bs t cs k k 0 (upto_start m ms bs cs k u) (omega arith)

-- ---- what the classes say of test 26

module _ (m : ℕ) (ms bs cs : List ℕ) (k : ℕ) (u : ClassesExactly m ms bs cs k) where
  -- Each state is alone in its class:
  pub reduced_yes : k ≡ length ms → ReducedExactly m ms bs true
  reduced_yes h = record {
    exact = λ M H. (
      λ _. coarse_apart m M H.formed (λ p. get_or cs p 0)
          (λ p q a b e. u.whole M H p q (rw H.states at a) (rw H.states at b) e)
          (λ p q a b e. sym (alone p (rw H.states at a)) ∙ e ∙ alone q (rw H.states at b)),
      λ _. refl,
    );
  }
    where
      alone : (p : ℕ) → p < length ms → get_or cs p 0 ≡ p
      alone = owned_all cs (length ms) (omega (arith, u.count))

  -- or two states share one.
  pub reduced_no : (k ≡ length ms → ⊥) → ReducedExactly m ms bs false
  reduced_no h = record { exact = λ M H. (λ x. absurd (false≢true x), λ R. absurd (twice M H R)) }
    where
      few : LtCases k (length ms) → k < length ms
      few (inl x) = x.0
      few (inr x) = absurd (h (omega (arith, u.count, owned_le cs (length ms))))

      two : (p : ℕ) × (p < length ms) × (get_or cs p 0 ≢ p)
      two = owned_some cs (length ms) (omega (arith, u.count, few (lt_cases k (length ms))))

      twice : (M : Machine) → Holds m ms bs M → Reduced m M → ⊥
      twice M H R =
          let (p, b, d) = two in
          let q : ℕ = get_or cs p 0 in
          let c' : q < length ms = omega (arith, u.named.low p b) in
          d (R q p (rw H.states c') (rw H.states b) (u.sound M H q p c' b (u.named.own p b)))

  pub reduced_exactly : ReducedExactly m ms bs (nat_eq k (length ms))
  reduced_exactly = go (bool_cases (nat_eq k (length ms)))
    where
      go : (nat_eq k (length ms) ≡ true) ⊎ (nat_eq k (length ms) ≡ false) → ReducedExactly m ms bs (nat_eq k (length ms))
      go (inl e) = rw e (reduced_yes (nat_test.sound k (length ms) e))
      go (inr e) = rw e (reduced_no (λ x. contradict (rw x (nat_test.whole (length ms))) e))

-- ---- the split by how far a change is

pub classed_split : (m : ℕ) (ms bs fs cs ns : List ℕ) (k r : ℕ) → Alike m ms bs fs → Classed m ms bs cs k → Split (length ms) fs cs ns r → Classed m ms bs ns r
classed_split m ms bs fs cs ns k r f u s = record {
  long = s.long;
  named = s.named;
  count = s.count;
  accept = λ p q h b e. u.accept p q h b (sym (s.class p h) ∙ ap (λ i. get_or cs i 0) e ∙ s.class q b);
  coarse = λ M H p q h b e. s.joins p q h b (u.coarse M H p q h b e) (f.alike M H p q h b e);
}
