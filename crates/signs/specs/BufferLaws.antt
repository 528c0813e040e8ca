-- Laws of a buffer in which the code grows: a byte more, and one part behind the other.
use Rattle.std.specs.Prelude.{◌≡◌, refl, List, ℕ, ◌+◌, ◌-◌, take, drop, set}
use Rattle.std.proofs.Common.{sym, ap, ◌∙◌, arith, drop-set-lt, take-take, drop-drop}
use Rattle.std.proofs.lemmas.List.{take-set-le}
use Rattle.signs.specs.Buffer.{Grown}

pub grown_none : (o : List ℕ) (a : ℕ) → Grown o a o a
grown_none o a = record { up = omega arith; before = refl; past = refl }

pub grown_byte : (o : List ℕ) (i b : ℕ) → Grown o i (set o i b) (i + 1)
grown_byte o i b = record { up = omega arith; before = take-set-le i o i b (omega arith); past = drop-set-lt (i + 1) o i b (omega arith) }

-- what stays before b stays before a too
pub grown_before : {o o' : List ℕ} {a b : ℕ} (o'' : List ℕ) → Grown o a o' b → take b o'' ≡ take b o' → take a o'' ≡ take a o
grown_before {o} {o'} {a} {b} o'' g e = sym (take-take a b o'' g.up) ∙ ap (λ (l : List ℕ). take a l) e ∙ take-take a b o' g.up ∙ g.before

pub grown_more : {o o' o'' : List ℕ} {a b d : ℕ} → Grown o a o' b → Grown o' b o'' d → Grown o a o'' d
grown_more {o} {o'} {o''} {a} {b} {d} g h = record {
  up = omega (arith, g.up, h.up);
  before = grown_before o'' g h.before;
  past = h.past ∙ ap (λ (i : ℕ). drop i o') z ∙ sym (drop-drop (d - b) b o') ∙ ap (λ (l : List ℕ). drop (d - b) l) g.past ∙ drop-drop (d - b) b o ∙ ap (λ (i : ℕ). drop i o) (sym z);
}
  where
    z : d ≡ b + (d - b)
    z = omega (arith, h.up)
