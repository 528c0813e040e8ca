-- The best stretch so far, before any letter and after one letter more.
use mathlib.Core.Path.{◌≡◌, refl, sym, subst}
use mathlib.Core.Bool.{Bool}
use mathlib.Core.List.{List, [], ◌∷◌}
use Prim.Native.Nat.{ℕ, suc, ◌-◌, ◌≤◌, ◌<◌}
use native.Mathlib.Omega.{arith}
use lib.ListN.{length, get_or, drop}
use lib.Seq.{drop-length, drop-cons}
use Rattle.std.specs.Prelude.{Option, Some, None}
use Rattle.std.specs.Option.{ForSome}
use Rattle.factor.specs.Factor.{Inside, Shortest, none, at, Blames, is_none}
use Rattle.factor.proofs.Factor.{none_apart}
use Rattle.factor.specs.LongerLaws.{ShortestStart}
use Rattle.factor.proofs.LongerLaws.{longer_inside, longer_first, longer_nearer, longer_kept}
use Rattle.forbidden.specs.declared.Stretch.{Stretch}
use Rattle.forbidden.specs.Reading.{shortest_in}
use Rattle.forbidden.specs.Pass.{Bettered, nearer, nowhere, longer}

-- The best stretch of the letters from i on, as an answer for these letters.
abbrev pub best_of : ℕ → Option Stretch → Shortest
best_of i None = none
best_of i (Some s) = at (s.start - i) s.length

pub record BestFrom (ok : List ℕ → Bool) (plan : List ℕ) (i : ℕ) (b : Option Stretch) : Type 0 where
  pub low : ForSome b (λ s. i ≤ s.start)
  pub right : Blames ok (drop i plan) (best_of i b)

same_stretch : (s t : Stretch) → ◌≡◌ {A = Option Stretch} (Some s) (Some t) → s ≡ t
same_stretch s t e = cc

no_stretch : {A : Type 0} (t : Stretch) → ◌≡◌ {A = Option Stretch} None (Some t) → A
no_stretch t e = cc

module _ (ok : List ℕ → Bool) (plan : List ℕ) where
  pub best_start : Inside ok [] → BestFrom ok plan (length plan) None
  best_start e = record { low = λ s f. no_stretch s f; right = rw (drop-length plan) (is_none e) }

  module _ (never i : ℕ) (h : i < length plan) (last : ℕ)
      (inside : never ≤ last → Inside ok (drop i plan)) (starts : last < never → ShortestStart ok (drop i plan) (last - i)) where
    abbrev x : ℕ
    x = get_or plan i 0

    abbrev s : List ℕ
    s = drop (suc i) plan

    cut : drop i plan ≡ x ∷ s
    cut = drop-cons plan i 0 h

    near : (b : Option Stretch) → BestFrom ok plan (suc i) b → last < never → ForSome b (λ t. last - i ≤ t.length) → Blames ok (x ∷ s) (at 0 (last - i))
    near None B y z = longer_first ok x s (last - i) (rw (← cut) (starts y)) B.right
    near (Some t) B y z = longer_nearer ok x s (last - i) (rw (← cut) (starts y)) (t.start - suc i) t.length B.right (z t refl)

    far : (b : Option Stretch) → BestFrom ok plan (suc i) b → never ≤ last → b ≡ None
    far None B y = refl
    far (Some t) B y = absurd (none_apart (t.start - suc i) t.length (sym (longer_inside ok x s (at (t.start - suc i) t.length) (subst (Inside ok) cut (inside y)) B.right)))

    best_found : (b : Option Stretch) → BestFrom ok plan (suc i) b → last < never → ForSome b (λ t. last - i ≤ t.length) → BestFrom ok plan i (Some (record { start = i; length = last - i }))
    best_found b B y z =
        let v : i - i ≡ 0 = omega arith in
        record { low = λ t f. rw (← same_stretch _ t f) (omega arith); right = rw (cut, v) (near b B y z) }

    best_kept : (t : Stretch) → BestFrom ok plan (suc i) (Some t) → last < never → t.length < last - i → BestFrom ok plan i (Some t)
    best_kept t B y z =
        let w : suc i ≤ t.start = B.low t refl in
        let v : suc (t.start - suc i) ≡ t.start - i = omega arith in
        record {
          low = λ u f. rw (← same_stretch t u f) (omega (arith, w));
          right = rw (cut, ← v) (longer_kept ok x s (last - i) (rw (← cut) (starts y)) (t.start - suc i) t.length B.right z);
        }

    best_nowhere : never ≤ last → BestFrom ok plan i None
    best_nowhere y = record { low = λ t f. no_stretch t f; right = is_none (inside y) }

    pub best_next : (b : Option Stretch) → BestFrom ok plan (suc i) b → (r : Option Stretch) → Bettered b i last never r → BestFrom ok plan i r
    best_next b B r (nearer y z e) = rw e (best_found b B y z)
    best_next b B r (nowhere y e) = rw (e, far b B y) (best_nowhere y)
    best_next b B r (longer y t f z e) = rw (e, f) (best_kept t (rw f at B) y z)

  -- after all letters
  pub best_last : (b : Option Stretch) → BestFrom ok plan 0 b → Blames ok plan (shortest_in b)
  best_last None B = B.right
  best_last (Some t) B = let v : t.start - 0 ≡ t.start = omega arith in rw v at B.right
