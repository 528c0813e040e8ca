-- The three verdicts in the words of demand 3, from what `Says` says of them.
use mathlib.Core.Path.{◌≡◌, refl, sym, ap, ◌∙◌, subst}
use mathlib.Core.Bool.{true, false}
use mathlib.Core.Logic.{inl, inr, ◌↔◌}
use mathlib.Core.List.{List, ◌++◌}
use Prim.Native.Nat.{ℕ, ◌≤◌, ◌<◌}
use native.Mathlib.Omega.{arith}
use lib.ListN.{length, take, drop, take-append-drop}
use Rattle.automata.specs.Basics.{LtCases, lt_cases}
use Rattle.automata.specs.Decide.{contradict}
use Rattle.automata.specs.Format.{narrow}
use Rattle.card.specs.Verdict.{Verdict, allowed, unfinished, hopeless, hopeless_plan, Says, is_allowed, is_unfinished, is_hopeless}
use Rattle.card.specs.Reply.{Reply, answered, refused}
use Rattle.card.specs.Judge.{judge}
use Rattle.card.specs.Demand.{Judged}
use Rattle.promises.specs.Demands.{book_allows}
use Rattle.delivery.specs.Delivers.{NoneBegins, HopelessAfter, OwedAfter}

module _ (text plan : List ℕ) where
  -- what demand 3 says of each verdict
  abbrev pub Means : Verdict → Type 0
  Means allowed = book_allows text plan ≡ true
  Means (unfinished k) = OwedAfter text plan k
  Means (hopeless k) = HopelessAfter text plan k

  -- Where no allowed plan begins with the first k letters, the plan is not allowed, and no longer one is.
  none_whole : (k : ℕ) → NoneBegins text plan k → book_allows text plan ≡ false
  none_whole k f = ap (book_allows text) (sym (take-append-drop k plan)) ∙ f (drop k plan)

  none_longer : (k : ℕ) → NoneBegins text plan k → (rest : List ℕ) → book_allows text (plan ++ rest) ≡ false
  none_longer = hopeless_plan (book_allows text) plan

  hopeless_means : (k : ℕ) → k ≤ length plan → NoneBegins text plan k → ((j : ℕ) → j < k → (rest : List ℕ) × (book_allows text (take j plan ++ rest) ≡ true)) → HopelessAfter text plan k
  hopeless_means k h f g = record { within = h; none = f; least = λ j b n. let (rest, t) = g j b in contradict t (n rest) }

  says_means : (v : Verdict) → Says (book_allows text) plan v → Means v
  says_means v (is_allowed t) = t
  says_means v (is_unfinished f rest t l) = record { not_yet = λ a. contradict a f; reached = (rest, refl, t); least = l }
  says_means v (is_hopeless k h f g) = hopeless_means k h f g

  -- The verdict that the demand gives is the one that is said.
  means_one : (v w : Verdict) → Means v → Says (book_allows text) plan w → v ≡ w
  means_one allowed w m (is_allowed t) = refl
  means_one allowed w m (is_unfinished f rest t l) = contradict m f
  means_one allowed w m (is_hopeless k h f g) = contradict m (none_whole k f)
  means_one (unfinished j) w m (is_allowed t) = absurd (m.not_yet t)
  means_one (unfinished j) w m (is_unfinished f rest t l) = let (r, e, s) = m.reached in ap unfinished (omega (arith, e, m.least rest t, l r s))
  means_one (unfinished j) w m (is_hopeless k h f g) = let (r, e, s) = m.reached in contradict s (none_longer k f r)
  means_one (hopeless j) w m (is_allowed t) = contradict t (none_whole j m.none)
  means_one (hopeless j) w m (is_unfinished f rest t l) = contradict t (none_longer j m.none rest)
  means_one (hopeless j) w m (is_hopeless k h f g) = ap hopeless (go (lt_cases j k) (lt_cases k j))
    where
      go : LtCases j k → LtCases k j → j ≡ k
      go (inl p) q = let (rest, t) = g j p.0 in contradict t (m.none rest)
      go (inr p) (inl q) = absurd (m.least k q.0 f)
      go (inr p) (inr q) = omega arith

  verdict_in : Verdict → Reply Verdict → Verdict
  verdict_in d (answered v) = v
  verdict_in d (refused number before) = d

  -- THE VERDICT is v exactly when the demand says v.
  pub verdict_means : (c : List ℕ) → Judged narrow (book_allows text) c plan → (v : Verdict) → (judge narrow c plan ≡ answered v) ↔ Means v
  unfolding verdict_in
  verdict_means c j v = (
    λ e. says_means v (subst (Says (book_allows text) plan) (ap (verdict_in v) (sym j.replied ∙ e)) j.right),
    λ m. j.replied ∙ ap answered (sym (means_one v j.answer m j.right)),
  )

  -- UNFINISHED in every other case.
  pub other_means : (c : List ℕ) → Judged narrow (book_allows text) c plan
      → ((k : ℕ) × (judge narrow c plan ≡ answered (unfinished k))) ↔ ((¬ (book_allows text plan ≡ true)) × ((k : ℕ) → ¬ HopelessAfter text plan k))
  other_means c j = (to, λ (a, h). back j.answer refl j.right a h)
    where
      to : (k : ℕ) × (judge narrow c plan ≡ answered (unfinished k)) → (¬ (book_allows text plan ≡ true)) × ((k : ℕ) → ¬ HopelessAfter text plan k)
      to (k, e) =
          let m : OwedAfter text plan k = (verdict_means c j (unfinished k)).0 e in
          let (rest, l, t) = m.reached in
          (m.not_yet, λ i H. contradict t (none_longer i H.none rest))

      back : (v : Verdict) → j.answer ≡ v → Says (book_allows text) plan v → ¬ (book_allows text plan ≡ true) → ((k : ℕ) → ¬ HopelessAfter text plan k)
          → (k : ℕ) × (judge narrow c plan ≡ answered (unfinished k))
      back v e (is_allowed t) a h = absurd (a t)
      back v e (is_unfinished f rest t l) a h = (length rest, j.replied ∙ ap answered e)
      back v e (is_hopeless k b f g) a h = absurd (h k (hopeless_means k b f g))
