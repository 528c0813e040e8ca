-- Laws of what specs/Restriction.antt defines.
use Rattle.std.specs.Prelude.{◌≡◌, refl, Bool, true, false, not, ◌&&◌, ◌||◌, ◌↔◌, List, [], ◌∷◌, ◌++◌}
use Rattle.std.proofs.Common.{sym, ◌∙◌, true≢false, inl, inr}
use Rattle.std.proofs.lemmas.Bool.{false≢true}
use Rattle.language.specs.Cuts.{Word, all_cut₃, all_cut₃_sound, all_cut₃_whole, all_cut₃_ext}
use Rattle.language.specs.Language.{Language}
use Rattle.language.specs.Restriction.{Context, Demands, Fits, RuleKind, demands, fits, forbids, obliges, restricts, violates}

-- ---- the same in words

pub fits_sound : (cs : List Context) (v y : Word) → fits cs v y ≡ true → Fits cs v y
fits_sound [] v y e = absurd (false≢true e)
fits_sound (c ∷ cs) v y e = go (c.0 v) (c.1 y) refl refl e (fits_sound cs v y)
  where
    go : (a b : Bool) → c.0 v ≡ a → c.1 y ≡ b → a && b || fits cs v y ≡ true → (fits cs v y ≡ true → Fits cs v y) → Fits (c ∷ cs) v y
    go true true p q t f = inl (p, q)
    go true false p q t f = inr (f t)
    go false b p q t f = inr (f t)

pub fits_whole : (cs : List Context) (v y : Word) → Fits cs v y → fits cs v y ≡ true
fits_whole [] v y f = absurd f
fits_whole (c ∷ cs) v y (inl (p, q)) = rw (p, q)
fits_whole (c ∷ cs) v y (inr f) = go (c.0 v && c.1 y) (fits_whole cs v y f)
  where
    go : (b : Bool) → fits cs v y ≡ true → b || fits cs v y ≡ true
    go true t = refl
    go false t = t

module _ (P : Language) (cs : List Context) (w : Word) where
  fit : (v y : Word) → fits cs v y ≡ false → ¬ Fits cs v y
  fit v y f t = true≢false (sym (fits_whole cs v y t) ∙ f)

  sound : (kind : RuleKind) → demands kind P cs w ≡ true → (v x y : Word) → w ≡ v ++ (x ++ y) → not (violates kind P cs v x y) ≡ true
  sound kind e v x y q = all_cut₃_sound (λ v x y. not (violates kind P cs v x y)) v x y (rw q at e)

  twice : (b : Bool) → not (not b) ≡ true → b ≡ true
  twice true t = refl
  twice false t = t

  to : (kind : RuleKind) → demands kind P cs w ≡ true → Demands kind P cs w
  to restricts e = λ v x y q p. fits_sound cs v y (twice (fits cs v y) (rw p at (sound restricts e v x y q)))
  to forbids e = λ v x y q p t. false≢true (rw (p, fits_whole cs v y t) at (sound forbids e v x y q))
  to obliges e = λ v x y q t. go (P x) (rw (fits_whole cs v y t) at (sound obliges e v x y q))
    where
      go : (b : Bool) → not (not b && true) ≡ true → b ≡ true
      go true t = refl
      go false t = t

  back : (kind : RuleKind) → Demands kind P cs w → (v x y : Word) → w ≡ v ++ (x ++ y) → not (violates kind P cs v x y) ≡ true
  back restricts h v x y q = go (P x) (fits cs v y) refl refl
    where
      go : (a b : Bool) → P x ≡ a → fits cs v y ≡ b → not (a && not b) ≡ true
      go true true p f = refl
      go true false p f = absurd (fit v y f (h v x y q p))
      go false b p f = refl
  back forbids h v x y q = go (P x) (fits cs v y) refl refl
    where
      go : (a b : Bool) → P x ≡ a → fits cs v y ≡ b → not (a && b) ≡ true
      go true true p f = absurd (h v x y q p (fits_sound cs v y f))
      go true false p f = refl
      go false b p f = refl
  back obliges h v x y q = go (P x) (fits cs v y) refl refl
    where
      go : (a b : Bool) → P x ≡ a → fits cs v y ≡ b → not (not a && b) ≡ true
      go true b p f = refl
      go false true p f = absurd (false≢true (sym p ∙ h v x y q (fits_sound cs v y f)))
      go false false p f = refl

-- THE RULE, of each kind.
pub demands_iff : (kind : RuleKind) (P : Language) (cs : List Context) (w : Word) → (demands kind P cs w ≡ true) ↔ Demands kind P cs w
demands_iff kind P cs w = (to P cs w kind, λ h. all_cut₃_whole (λ v x y. not (violates kind P cs v x y)) w (back P cs w kind h))

-- `>` means what it meant before it had sisters.
pub restricts_as_before : (P : Language) (cs : List Context) (w : Word) → demands restricts P cs w ≡ all_cut₃ (λ v x y. not (P x) || fits cs v y) w
restricts_as_before P cs w = all_cut₃_ext (λ v x y. not (violates restricts P cs v x y)) (λ v x y. not (P x) || fits cs v y) w (λ v x y. either_way (P x) (fits cs v y))
  where
    either_way : (p f : Bool) → not (p && not f) ≡ not p || f
    either_way true true = refl
    either_way true false = refl
    either_way false f = refl

-- "For `^`: .. as `<` with q for p."
pub obliges_as_forbids : (P : Language) (cs : List Context) (w : Word) → demands obliges P cs w ≡ demands forbids (λ x. not (P x)) cs w
obliges_as_forbids P cs w = refl
