-- How many of a list pass: tests that agree count alike, joined lists add up, and three tests of which each entry passes one count the whole list.
use Rattle.std.specs.Prelude.{◌≡◌, refl, Bool, true, false, List, [], ◌∷◌, ◌++◌, map, ℕ, suc, ◌+◌, length}
use Rattle.std.proofs.Common.{sym, ap, ap₂, ◌∙◌, arith}
use Rattle.automata.specs.Booleans.{choose}
use Rattle.card.specs.Verdict.{Verdict, allowed, unfinished, hopeless}
use Rattle.census.specs.Listing.{In, passing, in_here, in_there}
use Rattle.census.specs.Plans.{allowed_verdict, unfinished_verdict, hopeless_verdict}

-- one more where the test passes
abbrev counted : Bool → ℕ → ℕ
counted b n = choose b (λ _. suc n) (λ _. n)

module _ {A : Type 0} where
  pub passing_cons : (f : A → Bool) (x : A) (l : List A) → length (passing f (x ∷ l)) ≡ counted (f x) (length (passing f l))
  passing_cons f x l = go (f x)
    where
      go : (b : Bool) → length (choose b (λ _. x ∷ passing f l) (λ _. passing f l)) ≡ counted b (length (passing f l))
      go true = refl
      go false = refl

  -- Tests that agree on a list count alike.
  pub passing_alike : (d : A) (f g : A → Bool) (l : List A) → ((x : A) → In d x l → f x ≡ g x) → length (passing f l) ≡ length (passing g l)
  passing_alike d f g [] h = refl
  passing_alike d f g (x ∷ l) h =
      passing_cons f x l ∙ ap₂ counted (h x (in_here d x l)) (passing_alike d f g l (λ y s. h y (in_there d y x l s))) ∙ sym (passing_cons g x l)

  pub passing_append : (f : A → Bool) (l r : List A) → length (passing f (l ++ r)) ≡ length (passing f l) + length (passing f r)
  passing_append f [] r = omega arith
  passing_append f (x ∷ l) r =
      passing_cons f x (l ++ r) ∙ ap (counted (f x)) (passing_append f l r) ∙ go (f x) ∙ ap (λ n. n + length (passing f r)) (sym (passing_cons f x l))
    where
      go : (b : Bool) → counted b (length (passing f l) + length (passing f r)) ≡ counted b (length (passing f l)) + length (passing f r)
      go true = omega arith
      go false = refl

  -- A verdict is of one of three kinds.
  pub three_kinds : (v : A → Verdict) (l : List A)
      → length (passing (λ x. allowed_verdict (v x)) l) + length (passing (λ x. unfinished_verdict (v x)) l) + length (passing (λ x. hopeless_verdict (v x)) l) ≡ length l
  three_kinds v [] = refl
  three_kinds v (x ∷ l) =
      ap₂ ◌+◌ (ap₂ ◌+◌ (passing_cons (λ x. allowed_verdict (v x)) x l) (passing_cons (λ x. unfinished_verdict (v x)) x l)) (passing_cons (λ x. hopeless_verdict (v x)) x l)
      ∙ go (v x) (three_kinds v l)
    where
      go : (w : Verdict)
          → length (passing (λ x. allowed_verdict (v x)) l) + length (passing (λ x. unfinished_verdict (v x)) l) + length (passing (λ x. hopeless_verdict (v x)) l) ≡ length l
          → counted (allowed_verdict w) (length (passing (λ x. allowed_verdict (v x)) l)) + counted (unfinished_verdict w) (length (passing (λ x. unfinished_verdict (v x)) l))
          + counted (hopeless_verdict w) (length (passing (λ x. hopeless_verdict (v x)) l)) ≡ suc (length l)
      go allowed e = omega arith
      go (unfinished j) e = omega arith
      go (hopeless j) e = omega arith

-- A function before the test.
pub passing_map : {A B : Type 0} (f : A → Bool) (g : B → A) (l : List B) → length (passing f (map g l)) ≡ length (passing (λ x. f (g x)) l)
passing_map f g [] = refl
passing_map f g (x ∷ l) = passing_cons f (g x) (map g l) ∙ ap (counted (f (g x))) (passing_map f g l) ∙ sym (passing_cons (λ x. f (g x)) x l)
