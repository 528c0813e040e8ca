-- The census of a card: of all plans of a length how many are allowed, unfinished and hopeless, computed; and what each answer means.
use Rattle.std.specs.Prelude.{◌≡◌, Bool, true, ◌⊎◌, ◌≢◌, List, ℕ, ◌^◌, ◌≤◌, ◌<◌, length, eqb, ltb}
use Rattle.automata.specs.Booleans.{choose}
use Rattle.automata.specs.Decide.{unless}
use Rattle.automata.specs.Format.{Format}
use Rattle.card.specs.Layout.{letter_count, letters_of}
use Rattle.card.specs.Load.{load_test, Tested}
use Rattle.card.specs.Verdict.{Verdict}
use Rattle.card.specs.Reply.{answered}
use Rattle.card.specs.Judge.{plan_verdict, card_allows, judge}
use Rattle.census.specs.Listing.{passing}
use Rattle.census.specs.Plans.{plans_of, OfLength, allowed_verdict, unfinished_verdict, hopeless_verdict, RightCounts}

-- "k exceeds 4,096"
abbrev pub longest_plan : ℕ
longest_plan = 4096

-- "m to the power k exceeds 18,446,744,073,709,551,615"
abbrev pub most_plans : ℕ
most_plans = 18446744073709551615

abbrev pub Past : ℕ → ℕ → Type 0
Past m k = (longest_plan < k) ⊎ (most_plans < m ^ k)

-- neither
abbrev pub Within : ℕ → ℕ → Type 0
Within m k = (k ≤ longest_plan) × (m ^ k ≤ most_plans)

-- Three numbers of plans, or the number of a refusal.
pub data Census : Type 0 where
  counts : (allowed unfinished hopeless : ℕ) → Census
  refused : (number : ℕ) → Census

-- Of all plans of k of the card's letters, how many get a verdict of this kind.
abbrev pub count_of : Format → List ℕ → ℕ → (Verdict → Bool) → ℕ
count_of fmt c k is = length (passing (λ plan. is (plan_verdict fmt c plan)) (plans_of (letters_of fmt c) k))

-- "31 "past counting", when k exceeds 4,096 or m to the power k exceeds 18,446,744,073,709,551,615; tested after the card."
unfoldable pub census : Format → List ℕ → ℕ → Census
census fmt c k =
    let r = load_test fmt c in
    unless (refused r) (eqb r 0) λ _.
    choose (ltb longest_plan k) (λ _. refused 31) λ _.
    choose (ltb most_plans (letter_count fmt c ^ k)) (λ _. refused 31) λ _.
    counts (count_of fmt c k allowed_verdict) (count_of fmt c k unfinished_verdict) (count_of fmt c k hopeless_verdict)

-- A plan of k of the card's letters that judging calls so.
abbrev pub JudgedSo : Format → List ℕ → ℕ → (Verdict → Bool) → List ℕ → Type 0
JudgedSo fmt c k is plan = OfLength (letters_of fmt c) k plan × ((v : Verdict) × (judge fmt c plan ≡ answered v) × (is v ≡ true))

-- What each answer means: the three numbers are those of the plans that the card allows.
pub data Answers (fmt : Format) (c : List ℕ) (k : ℕ) : Census → Type 0 where
  no_card : (r : ℕ) → r ≢ 0 → Tested fmt c r → Answers fmt c k (refused r)
  count_too_large : load_test fmt c ≡ 0 → Past (letter_count fmt c) k → Answers fmt c k (refused 31)
  are_counts : load_test fmt c ≡ 0 → Within (letter_count fmt c) k → (a u h : ℕ) → RightCounts (card_allows fmt c) (letters_of fmt c) k a u h → Answers fmt c k (counts a u h)
