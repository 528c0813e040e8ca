use Rattle.std.proofs.Common.{◌≡◌, ℕ, ◌+◌, ◌-◌, ◌≤◌, get_or, length, take, drop, refl, ap, sym, ◌∙◌, arith, length-take-le, length-drop}
use Rattle.slots.specs.Aside.{part_copied}
use Rattle.kept.proofs.copy.Goals as goal

pub copy-requires : goal.copy-requires
copy-requires c =
    let a = c.args in
    let n : 3362 ≤ length (drop a.at a.to.now) = omega (arith, length-drop a.at a.to.now) in
    let e : a.at + 3362 - a.at ≡ 3362 = omega arith in
    ap (λ n. length (take n (drop a.at a.to.now))) e ∙ length-take-le 3362 (drop a.at a.to.now) n ∙ sym (length-take-le 3362 a.from.now c.requires.in_bounds)

pub returns : goal.returns
returns c =
    let a = c.args in
    let W = part_copied a.at (a.at + 3362) a.to.now c.copy.new.to a.from.now 0 3362 0 3362 c.copy.ensures refl refl refl c.requires.at_in_bounds c.requires.in_bounds in
    record { long = W.long; here = λ i h. W.here i h ∙ ap (λ j. get_or a.from.now j 0) (zero_add i); there = W.there }
  where
    zero_add : (i : ℕ) → 0 + i ≡ i
    zero_add i = omega arith
