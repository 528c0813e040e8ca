-- `contents` meets its contract: each test is one of the contents' conditions.
use native.Mathlib.Omega.{arith}
use Rattle.fields.proofs.ReadLaws.{two_bytes, counts_bad, counts_moves, counts_long, counts_right, cells_most}
use Rattle.fields.proofs.contents.Goals as goal

pub returns-then-card-lt12 : goal.returns-then-card-lt12
returns-then-card-lt12 c =
    counts_bad _ (λ r. omega (arith, r.long))

pub returns-then-m-gt26 : goal.returns-then-m-gt26
returns-then-m-gt26 c =
    counts_bad _ (λ r. omega (arith, r.letters_most, c.read-m.ensures))

pub returns-then-n-lt1 : goal.returns-then-n-lt1
returns-then-n-lt1 c =
    counts_bad _ (λ r. omega (arith, r.states_some, c.read-n.ensures))

pub returns-then-n-gt120 : goal.returns-then-n-gt120
returns-then-n-gt120 c =
    counts_bad _ (λ r. omega (arith, r.states_most, c.read-n.ensures))

pub returns-then-read-ne12 : goal.returns-then-read-ne12
returns-then-read-ne12 c =
    counts_bad _ (λ r. c.if-read-ne12.true (omega (arith, r.letters_offset, c.read.ensures)))

pub returns-then-read-m : goal.returns-then-read-m
returns-then-read-m c =
    counts_bad _ (λ r. c.if-read-m.true (omega (arith, r.marks_offset, c.read-2.ensures, c.read-m.ensures)))

pub returns-then-read-m-2 : goal.returns-then-read-m-2
returns-then-read-m-2 c =
    counts_bad _ (λ r. c.if-read-m-2.true (omega (arith, r.moves_offset, c.read-3.ensures, c.read-m.ensures, c.read-n.ensures)))

pub overflow_mul-n : goal.overflow_mul-n
overflow_mul-n c =
    omega (arith, cells_most c.read-m.result c.read-n.result (omega arith) (omega arith))

pub returns-then-read-n : goal.returns-then-read-n
returns-then-read-n c =
    counts_bad _ (λ r. c.if-read-n.true (omega (arith, counts_moves _ _ _ (two_bytes c.args.card.now 2 c.read-m.ensures) (two_bytes c.args.card.now 6 c.read-n.ensures) r, c.read-4.ensures)))

pub overflow_mul-n-2 : goal.overflow_mul-n-2
overflow_mul-n-2 c =
    omega (arith, cells_most c.read-m.result c.read-n.result (omega arith) (omega arith))

pub overflow_add-m-6 : goal.overflow_add-m-6
overflow_add-m-6 c =
    omega (arith, cells_most c.read-m.result c.read-n.result (omega arith) (omega arith))

pub returns-then-card-m : goal.returns-then-card-m
returns-then-card-m c =
    counts_bad _ (λ r. c.if-card-m.true (counts_long _ _ _ (two_bytes c.args.card.now 2 c.read-m.ensures) (two_bytes c.args.card.now 6 c.read-n.ensures) r))

pub returns : goal.returns
returns c =
    counts_right _ _ _ (two_bytes c.args.card.now 2 c.read-m.ensures) (two_bytes c.args.card.now 6 c.read-n.ensures) (omega arith) (omega arith) (omega arith) (omega (arith, c.read.ensures)) (omega (arith, c.read-2.ensures)) (omega (arith, c.read-3.ensures)) (omega (arith, c.read-4.ensures)) (omega arith)
