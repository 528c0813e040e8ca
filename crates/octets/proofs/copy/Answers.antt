-- `octets::copy` meets its contract: one item more is copied in a turn.
use Rattle.std.proofs.Common.{[], ◌∷◌, ◌++◌, take, refl, sym, ap, ◌∙◌, arith}
use Rattle.std.proofs.lemmas.List.{take_all, take_more, take_more_set}
use Rattle.octets.proofs.copy.Goals as goal

pub loop-i-init : goal.loop-i-init
loop-i-init g c = refl

pub loop-i-preserved : goal.loop-i-preserved
loop-i-preserved g c =
    let i = c.loop-i.i in
    let x = c.index-from-i.result in
    let from = c.args.from.now in
    take_more_set c.loop-i.to i x (omega (arith, c.loop-i-test.true, c.loop-i.auto.to, c.requires))
    ∙ ap (λ xs. xs ++ (x ∷ [])) c.loop-i.invariant
    ∙ ap (λ y. take i from ++ (y ∷ [])) c.index-from-i.is
    ∙ sym (take_more from i x c.loop-i-test.true)

pub returns : goal.returns
returns g c =
    sym (take_all c.loop-i.i c.loop-i.to (omega (arith, c.loop-i-test.false, c.loop-i.auto.to, c.requires)))
    ∙ c.loop-i.invariant
    ∙ take_all c.loop-i.i c.args.from.now c.loop-i-test.false
