-- Any array that names each class of equivalent states by its least state is the list `classes` of the definitions: so code may refine as it likes.
use mathlib.Core.Path.{◌≡◌, sym, ◌∙◌}
use mathlib.Core.List.{List}
use Prim.Native.Nat.{ℕ, zero, ◌≤◌, ◌<◌, suc-le-suc}
use native.Mathlib.Nat.{le_trans}
use native.Mathlib.Omega.{arith}
use lib.ListN.{length, get_or}
use lib.Seq.{ext_get_or}
use Rattle.automata.specs.Machine.{Machine, size, WellFormed, Equivalent}
use Rattle.automata.specs.Partition.{classes, classes_length, classes_low, classes_least, classes_equivalent}

module _ (k : ℕ) (M : Machine) (F : WellFormed k M) (cs : List ℕ) (long : length cs ≡ size M)
    (low : (p : ℕ) → p < size M → get_or cs p zero ≤ p) (own : (p : ℕ) → p < size M → get_or cs (get_or cs p zero) zero ≡ get_or cs p zero)
    (sound : (p q : ℕ) → p < size M → q < size M → get_or cs p zero ≡ get_or cs q zero → Equivalent k M p q)
    (whole : (p q : ℕ) → p < size M → q < size M → Equivalent k M p q → get_or cs p zero ≡ get_or cs q zero) where
  pub classes_unique : cs ≡ classes k M
  classes_unique = ext_get_or zero cs (classes k M) (long ∙ sym (classes_length k M F)) λ p b. same p (rw long at b)
    where
      same : (p : ℕ) → p < size M → get_or cs p zero ≡ get_or (classes k M) p zero
      same p h =
          let c : ℕ = get_or cs p zero in
          let d : ℕ = get_or (classes k M) p zero in
          let hc : c < size M = le_trans (suc-le-suc (low p h)) h in
          let hd : d < size M = le_trans (suc-le-suc (classes_low k M F p h)) h in
          let a : d ≤ c = classes_least k M F p c h hc (sound c p hc h (own p h)) in
          let e : get_or cs d zero ≡ c = whole d p hd h (classes_equivalent k M F p h) in
          omega (arith, a, e, low d hd)
