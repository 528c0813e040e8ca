-- Laws of what specs/MountedVerdict.antt defines.
use Rattle.std.specs.Prelude.{◌≡◌, refl, Bool, true, false, ◌⊎◌, List, [], ℕ, eqb}
use Rattle.std.proofs.Common.{ap, ◌∙◌, inl, inr, append-nil, arith}
use Rattle.automata.specs.Booleans.{bool_cases}
use Rattle.automata.specs.Basics.{LtCases, lt_cases}
use Rattle.automata.specs.Decide.{contradict}
use Rattle.automata.specs.Format.{Format}
use Rattle.card.specs.Layout.{mark_at}
use Rattle.card.proofs.Loads.{load_loaded}
use Rattle.card.specs.Verdict as Today
use Rattle.card.specs.Verdict.{Verdict, Says, hopeless_plan}
use Rattle.card.specs.Reply.{Reply, asked, map_reply, Replies}
use Rattle.card.proofs.Reply.{asked_map, asked_replies, replies_one}
use Rattle.card.specs.Judge.{Place, none, found, by_place, state_after, first_dead, verdict_at, plan_verdict, judge, card_allows}
use Rattle.card.proofs.JudgeLaws.{loaded_says}
use Rattle.card.specs.Demand.{Demand3}
use Rattle.card.specs.MountedVerdict.{MountedDemand3, MountedSays, MountedVerdict, hopeless, is_allowed, is_hopeless, is_unfinished, less_number, mounted_at, mounted_judge, mounted_verdict}

-- ---- less its number

verdict_less : (fmt : Format) (c plan : List ℕ) → mounted_verdict fmt c plan ≡ less_number (plan_verdict fmt c plan)
verdict_less fmt c plan = go (first_dead fmt c plan 0 0) (bool_cases (eqb (mark_at fmt c p) 1))
  where
    p : ℕ
    p = state_after fmt c plan 0

    go : (d : Place) → (eqb (mark_at fmt c p) 1 ≡ true) ⊎ (eqb (mark_at fmt c p) 1 ≡ false)
        → by_place d hopeless (λ _. mounted_at fmt c p) ≡ less_number (by_place d Today.hopeless (λ _. verdict_at fmt c p))
    go (found k) e = refl
    go none (inl e) = rw e
    go none (inr e) = rw e

-- A MOUNTED BOARD'S REPLY is today's less its number, on every row of bytes and every plan.
pub less_number_lem : (fmt : Format) (c plan : List ℕ) → mounted_judge fmt c plan ≡ map_reply less_number (judge fmt c plan)
unfolding mounted_judge judge
less_number_lem fmt c plan = ap (asked fmt c plan) (verdict_less fmt c plan) ∙ asked_map fmt c plan less_number (plan_verdict fmt c plan)

-- What today's verdict says, the mounted one says less the number,
pub less_says : (ok : List ℕ → Bool) (plan : List ℕ) (v : Verdict) → Says ok plan v → MountedSays ok plan (less_number v)
less_says ok plan v (Today.is_allowed a) = is_allowed a
less_says ok plan v (Today.is_unfinished a rest t l) = is_unfinished a rest t
less_says ok plan v (Today.is_hopeless k h f g) = is_hopeless k h f g

-- and one such verdict at most is right.
pub mounted_says_one : (ok : List ℕ → Bool) (plan : List ℕ) (v v' : MountedVerdict) → MountedSays ok plan v → MountedSays ok plan v' → v ≡ v'
mounted_says_one ok plan v v' (is_allowed a) (is_allowed b) = refl
mounted_says_one ok plan v v' (is_allowed a) (is_unfinished b u c) = contradict a b
mounted_says_one ok plan v v' (is_allowed a) (is_hopeless k h f g) = contradict (ap ok (append-nil plan) ∙ a) (hopeless_plan ok plan k f [])
mounted_says_one ok plan v v' (is_unfinished a u c) (is_allowed b) = contradict b a
mounted_says_one ok plan v v' (is_unfinished a u c) (is_unfinished b x d) = refl
mounted_says_one ok plan v v' (is_unfinished a u c) (is_hopeless k h f g) = contradict c (hopeless_plan ok plan k f u)
mounted_says_one ok plan v v' (is_hopeless k h f g) (is_allowed b) = contradict (ap ok (append-nil plan) ∙ b) (hopeless_plan ok plan k f [])
mounted_says_one ok plan v v' (is_hopeless k h f g) (is_unfinished b u c) = contradict c (hopeless_plan ok plan k f u)
mounted_says_one ok plan v v' (is_hopeless k h f g) (is_hopeless k' h' f' g') = ap hopeless (go (lt_cases k k') (lt_cases k' k))
  where
    go : LtCases k k' → LtCases k' k → k ≡ k'
    go (inl p) q = let (r, e) = g' k p.0 in contradict e (f r)
    go (inr p) (inl q) = let (r, e) = g k' q.0 in contradict e (f' r)
    go (inr p) (inr q) = omega arith

-- A CARD THAT KEEPS DEMAND 3 today keeps it on a mounted board.
pub mounted_demand : (fmt : Format) (ls : List ℕ) (ok : List ℕ → Bool) (c : List ℕ) → Demand3 fmt ls ok c → MountedDemand3 fmt ls ok c
mounted_demand fmt ls ok c D = record {
  loads = D.loads;
  laid_out = D.laid_out;
  letters = D.letters;
  plans = D.plans;
  verdicts = λ plan o.
      let J = D.verdicts plan o in
      let s : MountedSays ok plan (less_number J.answer) = less_says ok plan J.answer J.right in
      record {
        answer = less_number J.answer;
        replied = less_number_lem fmt c plan ∙ ap (map_reply less_number) J.replied;
        right = s;
        only = λ v t. mounted_says_one ok plan v (less_number J.answer) t s;
      };
  least = D.least;
  one = D.one;
}

-- So a mounted board replies as 01 asks,
pub mounted_replies : (fmt : Format) (c plan : List ℕ) → Replies fmt c plan (MountedSays (card_allows fmt c) plan) (mounted_judge fmt c plan)
unfolding mounted_judge
mounted_replies fmt c plan = asked_replies fmt c plan (MountedSays (card_allows fmt c) plan) (mounted_verdict fmt c plan)
    (λ z o. rw (verdict_less fmt c plan) (less_says (card_allows fmt c) plan (plan_verdict fmt c plan) (loaded_says fmt c (load_loaded fmt c z) plan o)))

-- and one reply only is right.
pub mounted_replies_only : (fmt : Format) (c plan : List ℕ) (r : Reply MountedVerdict) → Replies fmt c plan (MountedSays (card_allows fmt c) plan) r → mounted_judge fmt c plan ≡ r
mounted_replies_only fmt c plan r a =
    replies_one fmt c plan (MountedSays (card_allows fmt c) plan) (mounted_says_one (card_allows fmt c) plan) (mounted_judge fmt c plan) r (mounted_replies fmt c plan) a
