-- `tested` meets its contract, test by test.
use mathlib.Core.Path.{ap}
use mathlib.Core.Bool.{not}
use Rattle.loading.proofs.LoadLaws.{load_22, alphabet_right, load_23, inside_right}
use Rattle.loading.proofs.tested.Goals as goal

pub returns-then-not-alphabet : goal.returns-then-not-alphabet
returns-then-not-alphabet c = load_22 _ _ _ c.args.layout.now.right _ _ c.letters.ensures c.alphabet.ensures (ap not c.if-not-alphabet.true)

pub returns-then-not-inside : goal.returns-then-not-inside
returns-then-not-inside c =
    let a = alphabet_right _ _ _ c.args.layout.now.right _ _ c.letters.ensures c.alphabet.ensures (ap not c.if-not-alphabet.false) in
    load_23 _ _ _ c.args.layout.now.right a _ c.moves.ensures _ c.inside.ensures (ap not c.if-not-inside.true)

pub states_tested-requires : goal.states_tested-requires
states_tested-requires c =
    let a = alphabet_right _ _ _ c.args.layout.now.right _ _ c.letters.ensures c.alphabet.ensures (ap not c.if-not-alphabet.false) in
    record { letters = a; moves = inside_right _ _ _ c.args.layout.now.right a _ c.moves.ensures _ c.inside.ensures (ap not c.if-not-inside.false) }
