-- Machines in slots of bytes, one behind another: the machines of a stack and of the registers, as the bytes hold them, and what a change of bytes leaves
-- as it was.
use Rattle.std.specs.Prelude.{◌≡◌, refl, List, [], ◌∷◌, ℕ, zero, suc, ◌+◌, ◌*◌, ◌≤◌, ◌<◌, length, get_or, drop}
use Rattle.std.proofs.Math.Path.{sym, ap}
use Rattle.std.proofs.Common.{ap₂, ◌∙◌, inl, inr, mul-le-mul_right, suc-mul, arith}
use Rattle.std.proofs.Math.ListN.{length-drop}
use Rattle.std.proofs.Math.Seq.{get_or-drop}
use Rattle.automata.specs.Basics.{LtCases, lt_cases}
use Rattle.automata.specs.Machine.{Machine}
use Rattle.automata.specs.Table.{ClosedTable, table_machine}
use Rattle.rows.specs.Rows.{number_at}
use Rattle.slots.specs.Slot.{Slot, slot_machine, Holds, table_same, slot_cells, slot_ends as slot_length, number_drop}

-- the bytes that a slot needs for any machine that is kept
abbrev pub needs : ℕ → ℕ → ℕ
needs most k = 2 + (most + most * k)

-- the bytes of a slot that its machine fills
abbrev pub fills : ℕ → ℕ → List ℕ → ℕ
fills most k s = 2 + (most + number_at s 0 * k)

pub fills_most : {most k : ℕ} {s : List ℕ} → Slot most k s → fills most k s ≤ needs most k
fills_most S = omega (arith, slot_cells S)

-- As code counts them, by the number of states that it reads.
pub counted : {most k : ℕ} (s : List ℕ) (at n : ℕ) → Slot most k (drop at s) → n ≡ number_at s at
    → (2 + (most + n * k) ≡ fills most k (drop at s)) × (2 + (most + n * k) ≤ needs most k) × (at + 2 + (most + n * k) ≤ length s)
counted {most} {k} s at n S e =
    let z : n ≡ number_at (drop at s) 0 = e ∙ number_drop s at in
    let w : 2 + (most + n * k) ≡ fills most k (drop at s) = ap (λ n. 2 + (most + n * k)) z in
    (w, omega (arith, fills_most S), slot_length s at S n z)

-- the machine in the slot of a number
abbrev pub slot_at : ℕ → ℕ → ℕ → List ℕ → ℕ → Machine
slot_at most k size s i = slot_machine most k (drop (i * size) s)

-- Each of the first n slots holds a machine.
pub record Slots (most k size n : ℕ) (s : List ℕ) : Type 0 where
  pub held : (i : ℕ) → i < n → Slot most k (drop (i * size) s)

-- the machines of the first n slots, the last one first: a stack with its top in front
abbrev pub machines : ℕ → ℕ → ℕ → List ℕ → ℕ → List Machine
machines most k size s zero = []
machines most k size s (suc n) = slot_at most k size s n ∷ machines most k size s n

-- Nothing before a place is changed.
pub record Below (n : ℕ) (s t : List ℕ) : Type 0 where
  pub long : length t ≡ length s
  pub same : (j : ℕ) → j < n → get_or t j 0 ≡ get_or s j 0

-- ---- the same bytes hold the same machine

module _ {most k : ℕ} (s t : List ℕ) (a b : ℕ) (S : Slot most k (drop a s)) (room : b + fills most k (drop a s) ≤ length t)
    (same : (i : ℕ) → i < fills most k (drop a s) → get_or t (b + i) 0 ≡ get_or s (a + i) 0) where
  at : (i : ℕ) → i < fills most k (drop a s) → get_or (drop b t) i 0 ≡ get_or (drop a s) i 0
  at i h = get_or-drop b t i 0 ∙ same i h ∙ sym (get_or-drop a s i 0)

  count : number_at (drop b t) 0 ≡ number_at (drop a s) 0
  count = ap₂ (λ x y. x + 256 * y) (at 0 (omega arith)) (at 1 (omega arith))

  pub slot_filled : Holds most k (drop b t) (slot_machine most k (drop a s))
  unfolding slot_machine
  slot_filled =
      let n = number_at (drop a s) 0 in
      let C : ClosedTable most n k (drop 2 (drop a s)) = S.closed in
      let (c, m) = table_same most n k (drop 2 (drop a s)) (drop 2 (drop b t)) C (omega (arith, length-drop 2 (drop b t), length-drop b t))
      (λ i h. get_or-drop 2 (drop a s) i 0 ∙ sym (at (2 + i) (omega arith)) ∙ sym (get_or-drop 2 (drop b t) i 0)) in
      record { slot = record { closed = rw count c }; machine = ap (λ n. table_machine most n k (drop 2 (drop b t))) count ∙ sym m }

-- so do all bytes of a slot
pub slot_same : {most k : ℕ} (s t : List ℕ) (a b : ℕ) → Slot most k (drop a s) → b + needs most k ≤ length t
    → ((i : ℕ) → i < needs most k → get_or t (b + i) 0 ≡ get_or s (a + i) 0) → Holds most k (drop b t) (slot_machine most k (drop a s))
slot_same s t a b S room same = slot_filled s t a b S (omega (arith, fills_most S)) (λ i h. same i (omega (arith, fills_most S)))

-- ---- what is below a change stays

slot_ends : (size i n : ℕ) → i < n → i * size + size ≤ n * size
slot_ends size i n h = omega (arith, mul-le-mul_right {m = suc i} {n = n} size h, suc-mul i size)

pub slot_below : {most k : ℕ} (size n : ℕ) (s t : List ℕ) (i : ℕ) → needs most k ≤ size → n * size ≤ length s → i < n → Below (n * size) s t → Slot most k (drop (i * size) s)
    → Holds most k (drop (i * size) t) (slot_at most k size s i)
slot_below size n s t i h l b B S =
    slot_same s t (i * size) (i * size) S (omega (arith, slot_ends size i n b, B.long)) (λ j v. B.same (i * size + j) (omega (arith, slot_ends size i n b)))

pub slots_below : {most k : ℕ} (size n : ℕ) (s t : List ℕ) → needs most k ≤ size → n * size ≤ length s → Below (n * size) s t → Slots most k size n s → Slots most k size n t
slots_below size n s t h l B S = record { held = λ i b. (slot_below size n s t i h l b B (S.held i b)).slot }

below_less : (n n' : ℕ) (s t : List ℕ) → n' ≤ n → Below n s t → Below n' s t
below_less n n' s t h B = record { long = B.long; same = λ j b. B.same j (omega arith) }

pub slots_less : {most k size n : ℕ} {s : List ℕ} (n' : ℕ) → n' ≤ n → Slots most k size n s → Slots most k size n' s
slots_less n' h S = record { held = λ i b. S.held i (omega arith) }

pub machines_below : {most k : ℕ} (size n : ℕ) (s t : List ℕ) → needs most k ≤ size → n * size ≤ length s → Below (n * size) s t → Slots most k size n s
    → machines most k size t n ≡ machines most k size s n
machines_below size zero s t h l B S = refl
machines_below size (suc n) s t h l B S =
    let z : n * size ≤ suc n * size = mul-le-mul_right {m = n} {n = suc n} size (omega arith) in
    ap₂ ◌∷◌ (slot_below size (suc n) s t n h l (omega arith) B (S.held n (omega arith))).machine
    (machines_below size n s t h (omega arith) (below_less (suc n * size) (n * size) s t z B) (slots_less n (omega arith) S))

-- one slot more
pub slots_more : {most k size n : ℕ} {s : List ℕ} → Slots most k size n s → Slot most k (drop (n * size) s) → Slots most k size (suc n) s
slots_more {most} {k} {size} {n} {s} S T = record { held = λ i b. go i b (lt_cases i n) }
  where
    go : (i : ℕ) → i < suc n → LtCases i n → Slot most k (drop (i * size) s)
    go i b (inl p) = S.held i p.0
    go i b (inr p) = let z : n ≡ i = omega arith in rw z at T
