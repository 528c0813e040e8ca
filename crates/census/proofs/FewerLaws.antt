-- Fewer plans: where each plan that is allowed is allowed elsewhere too, no more plans of any length are allowed, and no fewer are hopeless. So a rule more makes no
-- day possible, and its price can be read off two censuses.
use Rattle.std.specs.Prelude.{◌≡◌, refl, Bool, true, false, List, [], ◌++◌, ℕ, ◌≤◌}
use Rattle.std.proofs.Common.{ap, ◌∙◌, append-nil, arith}
use Rattle.std.proofs.lemmas.Bool.{false≢true}
use Rattle.automata.specs.Decide.{contradict}
use Rattle.card.specs.Alphabet.{Known}
use Rattle.card.specs.Verdict.{Verdict, hopeless, Says, is_allowed, is_unfinished, is_hopeless, hopeless_plan}
use Rattle.census.specs.Listing.{once_shorter}
use Rattle.census.specs.Plans.{NumberOf, allowed_verdict, hopeless_verdict, OfKind, RightCounts}

-- So many plans at the most, where all of them are among others.
number_most : (P Q : List ℕ → Type 0) → ((plan : List ℕ) → P plan → Q plan) → (n n' : ℕ) → NumberOf P n → NumberOf Q n' → n ≤ n'
number_most P Q f n n' a b =
    omega (arith, a.long, b.long, once_shorter [] a.list b.list a.lists.once (λ plan s. b.lists.whole plan (f plan (a.lists.sound plan s))))

module _ (ok ok' : List ℕ → Bool) (fewer : (plan : List ℕ) → ok plan ≡ true → ok' plan ≡ true) (ls : List ℕ) (k : ℕ) where
  still_allowed : (plan : List ℕ) → OfKind ok ls k allowed_verdict plan → OfKind ok' ls k allowed_verdict plan
  still_allowed plan (o, (v, s, t)) = go v s t
    where
      go : (v : Verdict) → Says ok plan v → allowed_verdict v ≡ true → OfKind ok' ls k allowed_verdict plan
      go v (is_allowed a) t = (o, (_, is_allowed (fewer plan a), refl))
      go v (is_unfinished f rest a l) t = absurd (false≢true t)
      go v (is_hopeless j h f g) t = absurd (false≢true t)

  -- where a verdict of each plan of these letters is right
  module _ (told : (plan : List ℕ) → Known ls plan → (v : Verdict) × Says ok plan v) where
    already_hopeless : (plan : List ℕ) → OfKind ok' ls k hopeless_verdict plan → OfKind ok ls k hopeless_verdict plan
    already_hopeless plan (o, (v, s, t)) = at v s t (told plan o.0).0 (told plan o.0).1
      where
        -- no plan that begins so is allowed there, and so none here
        go : ((rest : List ℕ) → ok' (plan ++ rest) ≡ false) → (w : Verdict) → Says ok plan w → OfKind ok ls k hopeless_verdict plan
        go n w (is_allowed a) = contradict (fewer (plan ++ []) (ap ok (append-nil plan) ∙ a)) (n [])
        go n w (is_unfinished f rest a l) = contradict (fewer (plan ++ rest) a) (n rest)
        go n w (is_hopeless j h f g) = (o, (hopeless j, is_hopeless j h f g, refl))

        at : (v : Verdict) → Says ok' plan v → hopeless_verdict v ≡ true → (w : Verdict) → Says ok plan w → OfKind ok ls k hopeless_verdict plan
        at v (is_allowed a) t w x = absurd (false≢true t)
        at v (is_unfinished f rest a l) t w x = absurd (false≢true t)
        at v (is_hopeless j h f g) t w x = go (hopeless_plan ok' plan j f) w x

    -- NO MORE are allowed, and NO FEWER hopeless.
    pub counts_fewer : (a u h a' u' h' : ℕ) → RightCounts ok ls k a u h → RightCounts ok' ls k a' u' h' → (a ≤ a') × (h' ≤ h)
    counts_fewer a u h a' u' h' x y = (
      number_most (OfKind ok ls k allowed_verdict) (OfKind ok' ls k allowed_verdict) still_allowed a a' x.allowed y.allowed,
      number_most (OfKind ok' ls k hopeless_verdict) (OfKind ok ls k hopeless_verdict) already_hopeless h' h y.hopeless x.hopeless,
    )
