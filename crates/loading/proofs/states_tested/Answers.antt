-- `states_tested` meets its contract, test by test.
use mathlib.Core.Path.{ap}
use mathlib.Core.Bool.{not}
use Rattle.loading.proofs.LoadLaws.{lettered, letters_most, load_24, numbered_right, marked_right, load_25, load_26, load_0}
use Rattle.loading.proofs.states_tested.Goals as goal

pub returns-then-not-numbered : goal.returns-then-not-numbered
returns-then-not-numbered c =
    let s = c.states-states.ensures in
    load_24 _ _ _ (lettered s.letters c.args.layout.now.right) c.requires.letters _ s.moves c.requires.moves _ s.marks _ c.numbered.ensures (ap not c.if-not-numbered.true)

pub returns-then-not-marked : goal.returns-then-not-marked
returns-then-not-marked c =
    let s = c.states-states.ensures in
    let r = lettered s.letters c.args.layout.now.right in
    let n = numbered_right _ _ _ r c.requires.letters _ s.moves c.requires.moves _ s.marks _ c.numbered.ensures (ap not c.if-not-numbered.false) in
    load_25 _ _ _ r c.requires.letters _ s.moves c.requires.moves _ s.marks n _ c.marked.ensures (ap not c.if-not-marked.true)

pub reduced-requires : goal.reduced-requires
reduced-requires c =
    let s = c.states-states.ensures in
    letters_most _ _ _ (lettered s.letters c.args.layout.now.right) c.requires.letters _ s.moves c.requires.moves _ s.marks

pub returns-then-not-reduced : goal.returns-then-not-reduced
returns-then-not-reduced c =
    let s = c.states-states.ensures in
    let r = lettered s.letters c.args.layout.now.right in
    let n = numbered_right _ _ _ r c.requires.letters _ s.moves c.requires.moves _ s.marks _ c.numbered.ensures (ap not c.if-not-numbered.false) in
    let l = marked_right _ _ _ r c.requires.letters _ s.moves c.requires.moves _ s.marks n _ c.marked.ensures (ap not c.if-not-marked.false) in
    load_26 _ _ _ r c.requires.letters _ s.moves c.requires.moves _ s.marks n _ c.marked.ensures l _ c.reduced.ensures (ap not c.if-not-reduced.true)

pub returns : goal.returns
returns c =
    let s = c.states-states.ensures in
    let r = lettered s.letters c.args.layout.now.right in
    let n = numbered_right _ _ _ r c.requires.letters _ s.moves c.requires.moves _ s.marks _ c.numbered.ensures (ap not c.if-not-numbered.false) in
    let l = marked_right _ _ _ r c.requires.letters _ s.moves c.requires.moves _ s.marks n _ c.marked.ensures (ap not c.if-not-marked.false) in
    load_0 _ _ _ r c.requires.letters _ s.moves c.requires.moves _ s.marks n _ c.marked.ensures l _ c.reduced.ensures (ap not c.if-not-reduced.false)
