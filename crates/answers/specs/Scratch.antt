-- What a stage works in.
use Rattle.std.specs.Prelude.{◌≡◌, length}
use Rattle.std.proofs.Common.{refl, ◌∙◌}
use Rattle.answers.specs.declared.Scratch.{Scratch}

-- the same buffers, of the same lengths
abbrev pub SameRoom : Scratch → Scratch → Type 0
SameRoom s t = (length t.rows.now ≡ length s.rows.now) × (length t.table.now ≡ length s.table.now) × (length t.work.now ≡ length s.work.now)
    × (t.rows.ghost_name ≡ s.rows.ghost_name) × (t.table.ghost_name ≡ s.table.ghost_name) × (t.work.ghost_name ≡ s.work.ghost_name)

pub same_room : (s : Scratch) → SameRoom s s
same_room s = (refl, refl, refl, refl, refl, refl)

pub room_on : (s t u : Scratch) → SameRoom s t → SameRoom t u → SameRoom s u
room_on s t u a b = (b.0 ∙ a.0, b.1 ∙ a.1, b.2 ∙ a.2, b.3 ∙ a.3, b.4 ∙ a.4, b.5 ∙ a.5)
