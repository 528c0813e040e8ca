-- Laws of what specs/PlanCuts.antt defines.
use Rattle.std.specs.Prelude.{◌≡◌, refl, true, ◌↔◌, ℕ}
use Rattle.std.proofs.Common.{ap, ap₂, ◌∙◌, subst, inl, inr, arith}
use mathlib.Core.List.{List, [], ◌∷◌, ◌++◌, head-eq_of_cons-eq, tail-eq_of_cons-eq}
use Rattle.language.specs.Language.{Language}
use Rattle.language.specs.Restriction.{RuleKind, restricts, forbids, obliges, Context, Fits, Demands}
use Rattle.language.specs.Matches.{Rule, Obeys}
use Rattle.card.specs.Alphabet.{columns}
use Rattle.card.proofs.Alphabet.{columns_append}
use Rattle.promises.specs.PlanCuts.{EveryCut, EveryRule, OneContext}

-- ---- the same of the plan's columns

-- a cut of the columns is one of the plan
columns_cut : (ls plan u w : List ℕ) → columns ls plan ≡ u ++ w → (a : List ℕ) × (b : List ℕ) × (plan ≡ a ++ b) × (columns ls a ≡ u) × (columns ls b ≡ w)
columns_cut ls plan [] w e = ([], plan, refl, refl, e)
columns_cut ls [] (i ∷ u) w e = let z : ◌≡◌ {A = ℕ} 0 1 = cc e in absurd (omega arith)
columns_cut ls (l ∷ plan) (i ∷ u) w e =
    let (a, b, p, q, r) = columns_cut ls plan u w (tail-eq_of_cons-eq e) in
    (l ∷ a, b, ap (λ t. l ∷ t) p, ap₂ ◌∷◌ (head-eq_of_cons-eq e) q, r)

module _ (ls : List ℕ) where
  one_context : (cs : List Context) (v y : List ℕ) → Fits cs (columns ls v) (columns ls y) → OneContext ls cs v y
  one_context [] v y f = f
  one_context (c ∷ cs) v y (inl p) = inl p
  one_context (c ∷ cs) v y (inr f) = inr (one_context cs v y f)

  context_fits : (cs : List Context) (v y : List ℕ) → OneContext ls cs v y → Fits cs (columns ls v) (columns ls y)
  context_fits [] v y f = f
  context_fits (c ∷ cs) v y (inl p) = inl p
  context_fits (c ∷ cs) v y (inr f) = inr (context_fits cs v y f)

  -- what holds of all cuts of the columns holds of all cuts of the plan
  all_cuts : (Q : List ℕ → List ℕ → List ℕ → Type 0) (plan : List ℕ)
      → ((v x y : List ℕ) → columns ls plan ≡ v ++ (x ++ y) → Q v x y) ↔ ((v x y : List ℕ) → plan ≡ v ++ (x ++ y) → Q (columns ls v) (columns ls x) (columns ls y))
  all_cuts Q plan = (to, back)
    where
      to : ((v x y : List ℕ) → columns ls plan ≡ v ++ (x ++ y) → Q v x y) → (v x y : List ℕ) → plan ≡ v ++ (x ++ y) → Q (columns ls v) (columns ls x) (columns ls y)
      to f v x y e = f (columns ls v) (columns ls x) (columns ls y) (ap (columns ls) e ∙ columns_append ls v (x ++ y) ∙ ap (λ w. columns ls v ++ w) (columns_append ls x y))

      back : ((v x y : List ℕ) → plan ≡ v ++ (x ++ y) → Q (columns ls v) (columns ls x) (columns ls y)) → (v x y : List ℕ) → columns ls plan ≡ v ++ (x ++ y) → Q v x y
      back g v x y e =
          let (a, b, p, q, r) = columns_cut ls plan v (x ++ y) e in
          let (c, d, p', q', r') = columns_cut ls b x y r in
          subst (λ w. Q w x y) q (subst (λ w. Q (columns ls a) w y) q' (subst (λ w. Q (columns ls a) (columns ls c) w) r' (g a c d (p ∙ ap (λ w. a ++ w) p'))))

  every_cut : (kind : RuleKind) (P : Language) (cs : List Context) (plan : List ℕ) → Demands kind P cs (columns ls plan) ↔ EveryCut ls kind P cs plan
  every_cut restricts P cs plan =
      let (to, back) = all_cuts (λ v x y. P x ≡ true → Fits cs v y) plan in
      (λ f v x y e t. one_context cs v y (to f v x y e t), λ g. back λ v x y e t. context_fits cs v y (g v x y e t))
  every_cut forbids P cs plan =
      let (to, back) = all_cuts (λ v x y. P x ≡ true → ¬ Fits cs v y) plan in
      (λ f v x y e t. to f v x y e t.0 (context_fits cs v y t.1), λ g. back λ v x y e t h. g v x y e (t, one_context cs v y h))
  every_cut obliges P cs plan =
      let (to, back) = all_cuts (λ v x y. Fits cs v y → P x ≡ true) plan in
      (λ f v x y e h. to f v x y e (context_fits cs v y h), λ g. back λ v x y e h. g v x y e (one_context cs v y h))

  pub every_rule : (rs : List Rule) (plan : List ℕ) → Obeys rs (columns ls plan) ↔ EveryRule ls rs plan
  every_rule [] plan = (λ o. o, λ o. o)
  every_rule (r ∷ rs) plan = (
    λ o. ((every_cut r.kind r.pattern r.contexts plan).0 o.0, (every_rule rs plan).0 o.1),
    λ o. ((every_cut r.kind r.pattern r.contexts plan).1 o.0, (every_rule rs plan).1 o.1),
  )
