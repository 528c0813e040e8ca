-- choice, blend, chain, item and atom meet their contracts: each loop keeps what comes of the part ahead (`Ahead`).
use Rattle.std.proofs.Common.{refl, le_refl, arith}
use Rattle.automata.specs.Stages.{either}
use Rattle.language.specs.Expression.{pair, join}
use Rattle.book.specs.Kind.{letter_kind, at_kind, bang_kind, ampersand_kind, minus_kind}
use Rattle.lexer.specs.declared.kinds.Kind.TheVariants.{Open, Close, Bar}
use Rattle.lexer.proofs.KindLaws.{unequal_true, unequal_false, inside, outside}
use Rattle.choice.specs.ReadingLaws.{read_to}
use Rattle.choice.proofs.ReadLaws.{choice_row, blend_row, chain_row, ahead_start, ahead_more, row_done}
use Rattle.choice.proofs.KindLaws.{choices_stop, blends_stop, chains_stop, choices_turn, blends_turn, chains_turn}
use Rattle.choice.proofs.ItemLaws.{item_refused, item_done, atom_put, atom_refused, bracket_refused, bracket_open, bracket_done}
use Rattle.choice.proofs.TurnLaws.{turn_less, turn_fewer, turn_falls, same_less}
use Rattle.choice.proofs.+atom_blend_chain_choice_item.Goals as goal

pub atom-returns-then-is_leaf : goal.atom-returns-then-is_leaf
atom-returns-then-is_leaf t c =
    let q = inside letter_kind at_kind c.token-t.result.kind c.is_leaf.ensures c.if-is_leaf.true in
    atom_put (c.token-t.ensures.token (λ e. omega (arith, q.1))) q.0 (omega (arith, q.1)) c.put.ensures

pub atom-returns-then-ne : goal.atom-returns-then-ne
atom-returns-then-ne t c =
    let p = outside letter_kind at_kind c.token-t.result.kind c.is_leaf.ensures c.if-is_leaf.false in
    let q = unequal_true _ Open c.ne.ensures c.if-ne.true in
    atom_refused _ c.token-t.ensures.kind_is (λ h. omega (arith, p h))

pub atom-returns-in_err-n : goal.atom-returns-in_err-n
atom-returns-in_err-n t c =
    let q = unequal_false _ Open c.ne.ensures c.if-ne.false in
    rw c.from_residual.ensures (bracket_refused (c.token-t.ensures.token (λ e. omega (arith, q))) q c.in_err-n.ensures refl)

pub atom-returns-then-ne-2 : goal.atom-returns-then-ne-2
atom-returns-then-ne-2 t c =
    let q = unequal_false _ Open c.ne.ensures c.if-ne.false in
    bracket_open (c.token-t.ensures.token (λ e. omega (arith, q))) q c.in_ok-n.ensures _ refl c.token-end.ensures.kind_is (unequal_true _ Close c.ne-2.ensures c.if-ne-2.true)

pub atom-returns : goal.atom-returns
atom-returns t c =
    let p = unequal_false _ Open c.ne.ensures c.if-ne.false in
    let q = unequal_false _ Close c.ne-2.ensures c.if-ne-2.false in
    bracket_done (c.token-t.ensures.token (λ e. omega (arith, p))) p c.in_ok-n.ensures refl (c.token-end.ensures.token (λ e. omega (arith, q))) q

pub blend-loop-n-init : goal.blend-loop-n-init
blend-loop-n-init t c = ahead_start blend_row

pub blend-returns-then-not-is_operator : goal.blend-returns-then-not-is_operator
blend-returns-then-not-is_operator t c =
    let q = outside ampersand_kind minus_kind c.token-t.result.kind c.is_operator.ensures c.if-not-is_operator.true in
    row_done blend_row (c.loop-n.invariant.reads _ _ _ _ (read_to c.in_ok-n.ensures refl) c.put_if-end.ensures c.chain.auto.out c.put_if-end.auto.out)
    (blends_stop _ _ c.token-t.ensures.kind_is (λ e. omega (arith, q)) (λ e. omega (arith, q)))

pub blend-loop-n-preserved : goal.blend-loop-n-preserved
blend-loop-n-preserved t c =
    let q = inside ampersand_kind minus_kind c.token-t.result.kind c.is_operator.ensures c.if-not-is_operator.false in
    let x = c.token-t.ensures.token (λ e. omega (arith, q.1)) in
    let y = blends_turn x q.0 q.1 in
    ahead_more blend_row y.op (c.loop-n.invariant.reads _ _ _ _ (read_to c.in_ok-n.ensures refl) c.put_if-end.ensures c.chain.auto.out c.put_if-end.auto.out)
    y.turn refl (turn_less x _ _ blend_row.part_less) (turn_fewer x) (turn_falls x) y.code

pub chain-loop-n-init : goal.chain-loop-n-init
chain-loop-n-init t c = ahead_start chain_row

pub chain-returns-then-not-begins_item : goal.chain-returns-then-not-begins_item
chain-returns-then-not-begins_item t c =
    row_done chain_row (c.loop-n.invariant.reads _ _ _ _ (read_to c.in_ok-n.ensures refl) c.put_if-end.ensures c.item.auto.out c.put_if-end.auto.out)
    (chains_stop _ _ c.token-t.ensures.kind_is cc)

pub chain-loop-n-preserved : goal.chain-loop-n-preserved
chain-loop-n-preserved t c =
    let q = inside letter_kind bang_kind c.token-t.result.kind c.begins_item.ensures c.if-not-begins_item.false in
    let x = c.token-t.ensures.token (λ e. omega (arith, q.1)) in
    ahead_more chain_row join (c.loop-n.invariant.reads _ _ _ _ (read_to c.in_ok-n.ensures refl) c.put_if-end.ensures c.item.auto.out c.put_if-end.auto.out)
    (chains_turn x q.0 q.1) refl (same_less _ _ _ chain_row.part_less) (le_refl _) (le_refl _) (λ e g. refl)

pub choice-loop-n-init : goal.choice-loop-n-init
choice-loop-n-init t c = ahead_start choice_row

pub choice-returns-then-ne : goal.choice-returns-then-ne
choice-returns-then-ne t c =
    row_done choice_row (c.loop-n.invariant.reads _ _ _ _ (read_to c.in_ok-n.ensures refl) c.put_if-end.ensures c.blend.auto.out c.put_if-end.auto.out)
    (choices_stop _ _ c.token-t.ensures.kind_is (unequal_true _ Bar c.ne.ensures c.if-ne.true))

pub choice-loop-n-preserved : goal.choice-loop-n-preserved
choice-loop-n-preserved t c =
    let q = unequal_false _ Bar c.ne.ensures c.if-ne.false in
    let x = c.token-t.ensures.token (λ e. omega (arith, q)) in
    ahead_more choice_row (pair either) (c.loop-n.invariant.reads _ _ _ _ (read_to c.in_ok-n.ensures refl) c.put_if-end.ensures c.blend.auto.out c.put_if-end.auto.out)
    (choices_turn x q) refl (turn_less x _ _ choice_row.part_less) (turn_fewer x) (turn_falls x) (λ e g. refl)

pub item-returns-in_err-n : goal.item-returns-in_err-n
item-returns-in_err-n t c = rw c.from_residual.ensures (item_refused c.nots-first.ensures c.in_err-n.ensures refl)

pub item-returns : goal.item-returns
item-returns t c = item_done c.nots-first.ensures c.in_ok-n.ensures refl c.suffixed-m.ensures c.negate.ensures
