-- Laws of what specs/Matches.antt defines.
use Rattle.std.specs.Prelude.{true, ◌≡◌, refl, List, [], ◌∷◌}
use Rattle.automata.specs.Booleans.{and_left, and_right, and_both}
use Rattle.language.specs.Cuts.{Word}
use Rattle.language.specs.Restriction.{demands}
use Rattle.language.proofs.Restriction.{demands_iff}
use Rattle.language.specs.Matches.{Obeys, Rule, obeys}

-- ---- the same in words

pub obeys_sound : (rs : List Rule) (w : Word) → obeys rs w ≡ true → Obeys rs w
obeys_sound [] w e = tt
obeys_sound (r ∷ rs) w e = (
  (demands_iff r.kind r.pattern r.contexts w).0 (and_left (demands r.kind r.pattern r.contexts w) (obeys rs w) e),
  obeys_sound rs w (and_right (demands r.kind r.pattern r.contexts w) (obeys rs w) e),
)

pub obeys_whole : (rs : List Rule) (w : Word) → Obeys rs w → obeys rs w ≡ true
obeys_whole [] w o = refl
obeys_whole (r ∷ rs) w o = and_both (demands r.kind r.pattern r.contexts w) (obeys rs w) ((demands_iff r.kind r.pattern r.contexts w).1 o.0) (obeys_whole rs w o.1)
