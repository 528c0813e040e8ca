-- The census of a card answers what the paper asks, for every row of bytes and every length, and one answer only is right; the three numbers sum to m to
-- the power k, and are those of every listing of the plans that judging calls so.
use Rattle.std.specs.Prelude.{◌≡◌, refl, Bool, true, ◌↔◌, List, ℕ, suc, ◌+◌, ◌^◌, ◌≤◌, eqb, ltb}
use Rattle.std.proofs.Common.{sym, ap, ap₂, ◌∙◌, inl, inr, mul-zero, pow-suc, arith}
use Rattle.std.proofs.Math.Nat.{pow-zero}
use Rattle.automata.specs.Booleans.{choose}
use Rattle.automata.specs.Basics.{LtCases, lt_cases, nat_test}
use Rattle.automata.specs.Decide.{unless_elim, contradict}
use Rattle.automata.specs.Format.{Format}
use Rattle.card.specs.Layout.{letter_count, letters_of}
use Rattle.card.proofs.LayoutLaws.{letters_length}
use Rattle.card.specs.Load.{load_test}
use Rattle.card.proofs.LoadLaws.{tested, tested_only}
use Rattle.card.specs.Loads.{Loaded}
use Rattle.card.proofs.Loads.{load_loaded}
use Rattle.card.specs.Verdict.{Verdict, says_one}
use Rattle.card.specs.Judge.{plan_verdict, card_allows}
use Rattle.card.proofs.JudgeLaws.{loaded_says, judge_iff}
use Rattle.census.specs.Listing.{passing}
use Rattle.census.specs.Plans.{plans_of, OfLength, NumberOf, allowed_verdict, unfinished_verdict, hopeless_verdict, OfKind, NumbersOf, RightCounts}
use Rattle.census.specs.Census.{longest_plan, most_plans, Past, Within, Census, counts, refused, count_of, census, JudgedSo, Answers, no_card, count_too_large, are_counts}
use Rattle.census.proofs.PlanLaws.{number_one, lists_alike, lists_passing, plans_listed, plans_many}
use Rattle.census.specs.CountLaws.{three_kinds}

-- ---- three numbers of a set of plans

-- One row of numbers at most is right, for any kind of plans.
pub numbers_one : (P : (Verdict → Bool) → List ℕ → Type 0) (a u h a' u' h' : ℕ) → NumbersOf P a u h → NumbersOf P a' u' h' → counts a u h ≡ counts a' u' h'
numbers_one P a u h a' u' h' x y =
    let p = number_one (P allowed_verdict) a a' x.allowed y.allowed in
    let q = number_one (P unfinished_verdict) u u' x.unfinished y.unfinished in
    let r = number_one (P hopeless_verdict) h h' x.hopeless y.hopeless in
    λ t. counts (p t) (q t) (r t)

-- The same plans in other words.
pub numbers_alike : (P Q : (Verdict → Bool) → List ℕ → Type 0) → ((is : Verdict → Bool) (plan : List ℕ) → P is plan ↔ Q is plan) → (a u h : ℕ) → NumbersOf P a u h → NumbersOf Q a u h
numbers_alike P Q f a u h x = record { allowed = one allowed_verdict a x.allowed; unfinished = one unfinished_verdict u x.unfinished; hopeless = one hopeless_verdict h x.hopeless }
  where
    one : (is : Verdict → Bool) (n : ℕ) → NumberOf (P is) n → NumberOf (Q is) n
    one is n y = record { list = y.list; lists = lists_alike (P is) (Q is) (f is) y.list y.lists; long = y.long }

-- ---- a loaded card

module _ (fmt : Format) (c : List ℕ) (l : Loaded fmt c) (k : ℕ) where
  abbrev ls : List ℕ
  ls = letters_of fmt c

  -- The plans that pass are those of which a verdict of this kind is right,
  number_of : (is : Verdict → Bool) → NumberOf (OfKind (card_allows fmt c) ls k is) (count_of fmt c k is)
  number_of is = record {
    list = passing (λ plan. is (plan_verdict fmt c plan)) (plans_of ls k);
    lists = lists_alike (λ plan. OfLength ls k plan × (is (plan_verdict fmt c plan) ≡ true)) (OfKind (card_allows fmt c) ls k is) alike
        (passing (λ plan. is (plan_verdict fmt c plan)) (plans_of ls k))
        (lists_passing (OfLength ls k) (λ plan. is (plan_verdict fmt c plan)) (plans_of ls k) (plans_listed ls l.alphabet k));
    long = refl;
  }
    where
      alike : (plan : List ℕ) → (OfLength ls k plan × (is (plan_verdict fmt c plan) ≡ true)) ↔ OfKind (card_allows fmt c) ls k is plan
      alike plan = (
        λ p. (p.0, (plan_verdict fmt c plan, loaded_says fmt c l plan p.0.0, p.1)),
        λ p. let e = says_one (card_allows fmt c) plan p.1.0 (plan_verdict fmt c plan) p.1.1 (loaded_says fmt c l plan p.0.0) in (p.0, rw e at p.1.2),
      )

  -- THE THREE NUMBERS are right,
  pub loaded_counted : RightCounts (card_allows fmt c) ls k (count_of fmt c k allowed_verdict) (count_of fmt c k unfinished_verdict) (count_of fmt c k hopeless_verdict)
  loaded_counted = record { allowed = number_of allowed_verdict; unfinished = number_of unfinished_verdict; hopeless = number_of hopeless_verdict }

  -- and THEY SUM TO M TO THE POWER k.
  pub loaded_sum : count_of fmt c k allowed_verdict + count_of fmt c k unfinished_verdict + count_of fmt c k hopeless_verdict ≡ letter_count fmt c ^ k
  loaded_sum = three_kinds (plan_verdict fmt c) (plans_of ls k) ∙ plans_many ls k ∙ ap (λ m. m ^ k) (letters_length fmt c l.contents)

-- ---- every answer

-- THE CENSUS answers so,
pub answers : (fmt : Format) (c : List ℕ) (k : ℕ) → Answers fmt c k (census fmt c k)
unfolding census
answers fmt c k =
    unless_elim (Answers fmt c k) (refused (load_test fmt c)) (eqb (load_test fmt c) 0) _
    (λ e. no_card (load_test fmt c) (λ z. contradict (rw z (nat_test.whole 0)) e) (tested fmt c)) λ e.
    loaded (nat_test.sound (load_test fmt c) 0 e) (lt_cases longest_plan k) (lt_cases most_plans (letter_count fmt c ^ k))
  where
    three : Census
    three = counts (count_of fmt c k allowed_verdict) (count_of fmt c k unfinished_verdict) (count_of fmt c k hopeless_verdict)

    loaded : load_test fmt c ≡ 0 → LtCases longest_plan k → LtCases most_plans (letter_count fmt c ^ k)
        → Answers fmt c k (choose (ltb longest_plan k) (λ _. refused 31) λ _. choose (ltb most_plans (letter_count fmt c ^ k)) (λ _. refused 31) λ _. three)
    loaded z (inl p) q = rw p.1 (count_too_large z (inl p.0))
    loaded z (inr p) (inl q) = rw (p.1, q.1) (count_too_large z (inr q.0))
    loaded z (inr p) (inr q) = rw (p.1, q.1) (are_counts z (p.0, q.0) _ _ _ (loaded_counted fmt c (load_loaded fmt c z) k))

-- and one answer only is right.
pub answers_one : (fmt : Format) (c : List ℕ) (k : ℕ) (r r' : Census) → Answers fmt c k r → Answers fmt c k r' → r ≡ r'
answers_one fmt c k r r' (no_card v n t) (no_card v' n' t') = ap refused (sym (tested_only fmt c v t) ∙ tested_only fmt c v' t')
answers_one fmt c k r r' (no_card v n t) (count_too_large z p) = absurd (n (sym (tested_only fmt c v t) ∙ z))
answers_one fmt c k r r' (no_card v n t) (are_counts z p a u h x) = absurd (n (sym (tested_only fmt c v t) ∙ z))
answers_one fmt c k r r' (count_too_large z p) (no_card v n t) = absurd (n (sym (tested_only fmt c v t) ∙ z))
answers_one fmt c k r r' (count_too_large z p) (count_too_large z' p') = refl
answers_one fmt c k r r' (count_too_large z (inl p)) (are_counts z' q a u h x) = absurd (omega arith)
answers_one fmt c k r r' (count_too_large z (inr p)) (are_counts z' q a u h x) = absurd (omega arith)
answers_one fmt c k r r' (are_counts z p a u h x) (no_card v n t) = absurd (n (sym (tested_only fmt c v t) ∙ z))
answers_one fmt c k r r' (are_counts z p a u h x) (count_too_large z' (inl p')) = absurd (omega arith)
answers_one fmt c k r r' (are_counts z p a u h x) (count_too_large z' (inr p')) = absurd (omega arith)
answers_one fmt c k r r' (are_counts z p a u h x) (are_counts z' p' a' u' h' x') = numbers_one (OfKind (card_allows fmt c) (letters_of fmt c) k) a u h a' u' h' x x'

pub answers_only : (fmt : Format) (c : List ℕ) (k : ℕ) (r : Census) → Answers fmt c k r → census fmt c k ≡ r
answers_only fmt c k r a = answers_one fmt c k (census fmt c k) r (answers fmt c k) a

-- ---- on a card that loads

module _ (fmt : Format) (c : List ℕ) (z : load_test fmt c ≡ 0) (k : ℕ) where
  -- 31 EXACTLY in its two cases,
  pub too_large_iff : (census fmt c k ≡ refused 31) ↔ Past (letter_count fmt c) k
  too_large_iff = (λ e. go (census fmt c k) e (answers fmt c k), λ p. answers_only fmt c k (refused 31) (count_too_large z p))
    where
      go : (r : Census) → r ≡ refused 31 → Answers fmt c k r → Past (letter_count fmt c) k
      go r e (no_card v n t) = absurd (n (sym (tested_only fmt c v t) ∙ z))
      go r e (count_too_large y p) = p
      go r e (are_counts y p a u h x) = absurd (let w : ◌≡◌ {A = ℕ} 0 1 = cc e in omega arith)

  -- and else the three numbers, EXACTLY where they are right.
  pub census_iff : (a u h : ℕ) → (census fmt c k ≡ counts a u h) ↔ (Within (letter_count fmt c) k × RightCounts (card_allows fmt c) (letters_of fmt c) k a u h)
  census_iff a u h = (
    λ e. go (census fmt c k) e (answers fmt c k),
    λ p. answers_only fmt c k (counts a u h) (are_counts z p.0 a u h p.1),
  )
    where
      go : (r : Census) → r ≡ counts a u h → Answers fmt c k r → Within (letter_count fmt c) k × RightCounts (card_allows fmt c) (letters_of fmt c) k a u h
      go r e (no_card v n t) = absurd (n (sym (tested_only fmt c v t) ∙ z))
      go r e (count_too_large y p) = absurd (let w : ◌≡◌ {A = ℕ} 0 1 = cc e in omega arith)
      go r e (are_counts y p a' u' h' x) =
          let f : a' ≡ a = cc e in
          let g : u' ≡ u = cc e in
          let i : h' ≡ h = cc e in
          (p, rw (← f, ← g, ← i) x)

  module _ (a u h : ℕ) (e : census fmt c k ≡ counts a u h) where
    -- "The three sum to m to the power k",
    pub three_sum : a + u + h ≡ letter_count fmt c ^ k
    three_sum =
        let x = ((census_iff a u h).0 e).1 in
        let y = numbers_one (OfKind (card_allows fmt c) (letters_of fmt c) k) a u h _ _ _ x (loaded_counted fmt c (load_loaded fmt c z) k) in
        let f : a ≡ count_of fmt c k allowed_verdict = cc y in
        let g : u ≡ count_of fmt c k unfinished_verdict = cc y in
        let i : h ≡ count_of fmt c k hopeless_verdict = cc y in
        ap₂ ◌+◌ (ap₂ ◌+◌ f g) i ∙ loaded_sum fmt c (load_loaded fmt c z) k

    -- "and each equals the number in a listing of those plans without repeats", of just the plans of length k that judging calls so. There is a listing, and
    -- every other one is as long (`number_long`).
    pub judged_numbers : NumbersOf (JudgedSo fmt c k) a u h
    judged_numbers = numbers_alike (OfKind (card_allows fmt c) (letters_of fmt c) k) (JudgedSo fmt c k) so a u h ((census_iff a u h).0 e).1
      where
        so : (is : Verdict → Bool) (plan : List ℕ) → OfKind (card_allows fmt c) (letters_of fmt c) k is plan ↔ JudgedSo fmt c k is plan
        so is plan = (
          λ p. (p.0, (p.1.0, (judge_iff fmt c plan p.1.0 z p.0.0).1 p.1.1, p.1.2)),
          λ p. (p.0, (p.1.0, (judge_iff fmt c plan p.1.0 z p.0.0).0 p.1.1, p.1.2)),
        )

-- ---- no letters, in the plan or on the card

module _ (fmt : Format) (c : List ℕ) (z : load_test fmt c ≡ 0) where
  -- "Length 0 has one plan, also where m = 0";
  pub one_plan : (a u h : ℕ) → census fmt c 0 ≡ counts a u h → a + u + h ≡ 1
  one_plan a u h e = three_sum fmt c z 0 a u h e ∙ pow-zero (letter_count fmt c)

  -- "for k from 1 to 4,096 and m = 0 all three are 0."
  pub no_letters_none : letter_count fmt c ≡ 0 → (j : ℕ) → suc j ≤ longest_plan → census fmt c (suc j) ≡ counts 0 0 0
  no_letters_none e j h = all ∙ (λ t. counts (a t) (u t) (d t))
    where
      l : Loaded fmt c
      l = load_loaded fmt c z

      none : letter_count fmt c ^ suc j ≡ 0
      none = ap (λ m. m ^ suc j) e ∙ pow-suc 0 j ∙ mul-zero (0 ^ j)

      all : census fmt c (suc j) ≡ counts (count_of fmt c (suc j) allowed_verdict) (count_of fmt c (suc j) unfinished_verdict) (count_of fmt c (suc j) hopeless_verdict)
      all = answers_only fmt c (suc j) _ (are_counts z (h, omega (arith, none)) _ _ _ (loaded_counted fmt c l (suc j)))

      a : count_of fmt c (suc j) allowed_verdict ≡ 0
      a = omega (arith, loaded_sum fmt c l (suc j), none)

      u : count_of fmt c (suc j) unfinished_verdict ≡ 0
      u = omega (arith, loaded_sum fmt c l (suc j), none)

      d : count_of fmt c (suc j) hopeless_verdict ≡ 0
      d = omega (arith, loaded_sum fmt c l (suc j), none)
