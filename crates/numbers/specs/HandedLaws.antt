-- From an answer to the numbers that are handed back.
use Rattle.std.specs.Prelude.{◌≡◌}
use Rattle.std.proofs.Common.{ap, ◌∙◌}
use Rattle.numbers.specs.Handed.{Handed}

-- the numbers of one answer, where it is the other
pub handed_as : {A : Type 0} (f : A → Handed) (h : Handed) (a b : A) → h ≡ f a → a ≡ b → h ≡ f b
handed_as f h a b p e = p ∙ ap f e
