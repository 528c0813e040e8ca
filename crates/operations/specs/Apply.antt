-- Operations on machines of a stack in slots: what they ask of the lent buffers, and what they leave.
use Rattle.std.specs.Prelude.{◌≡◌, refl, List, [], ◌∷◌, ◌++◌, Result, Ok, Err, length, get_or, drop}
use Rattle.std.proofs.Common.{sym, ◌∙◌, subst, inl, inr, mul-le-mul_right, suc-mul, zero-mul, add-one, arith}
use Rattle.std.proofs.Math.Path.{ap, ap₂}
use Prim.Native.Nat.{ℕ, suc, max, ◌+◌, ◌*◌, ◌≤◌, ◌<◌}
use Rattle.automata.specs.Format.{Format, narrow}
use Rattle.automata.specs.Machine.{Machine}
use Rattle.automata.specs.Stage.{Made, made, refused, after, then_made}
use Rattle.automata.specs.Stages.{star_stage, concat_stage}
use Rattle.sets.specs.Operations.{operation_of}
use Rattle.sets.specs.declared.Operation.{Operation as Code}
use Rattle.slots.specs.Slot.{Slot, Holds, Written}
use Rattle.slots.specs.Aside.{Aside}
use Rattle.answers.specs.Operate.{operate}
use Rattle.answers.specs.Stage.{Ready, StageDone}
use Rattle.answers.specs.declared.Made.{Made as Stage}
use Rattle.answers.specs.declared.Scratch.{Scratch}
use Rattle.answers.specs.Scratch.{SameRoom, same_room}
use Rattle.answers.specs.declared.TooMany.{TooMany}
use Rattle.answers.specs.Refusal.{refusal_of}
use Rattle.operands.specs.Stack.{needs, slot_at, Below, fills, slot_same, slot_below}
use Rattle.operands.specs.Operand.{operand_in, OperandReady, Shelves, Bringing, Brought, copied, written_aside}
use Rattle.operands.specs.declared.Layout.{Layout}
use Rattle.codes.specs.declared.Source.{Source}

-- the format whose limits the layout has; all else is today's
abbrev pub format_of : Layout → Format
format_of l = record {
  least_letters = narrow.least_letters;
  most_letters = narrow.most_letters;
  most_states = l.limits.states;
  most_sets = l.limits.sets;
  most_names = narrow.most_names;
  number_bytes = narrow.number_bytes;
  move_bytes = narrow.move_bytes;
}

-- the greatest of the numbers, 0 if there is none
abbrev pub greatest : List ℕ → ℕ
greatest [] = 0
greatest (c ∷ cs) = max c (greatest cs)

-- The most machines that a stack holds.
abbrev pub tallest : ℕ
tallest = 19

-- The lent buffers: room for the stack, for the rows and their table, and for two operands and in their place the classes.
pub record Lent (l : Layout) (m : ℕ) (stack : List ℕ) (scratch : Scratch) : Type 0 where
  pub states : (3 ≤ l.limits.states) × (l.limits.states ≤ 256)
  pub sets : (1 ≤ l.limits.sets) × (l.limits.sets < 65536)
  pub slot : needs l.limits.states (suc m) ≤ l.size
  pub stack_long : tallest * l.size ≤ length stack
  pub rows_long : l.limits.sets * (l.limits.states + 2) ≤ length scratch.rows.now
  pub table_long : l.limits.sets + l.limits.sets * suc m ≤ length scratch.table.now
  pub work_long : (l.limits.states + l.limits.states * suc m) + (l.limits.states + l.limits.states * suc m) ≤ length scratch.work.now
  pub classes_long : (l.limits.sets + (l.limits.sets + l.limits.sets) ≤ length scratch.work.now) × (l.limits.sets + l.limits.sets + l.limits.states ≤ length scratch.work.now)

-- buffers of the same lengths
pub lent_kept : {l : Layout} {m : ℕ} {stack stack' : List ℕ} {scratch scratch' : Scratch} → Lent l m stack scratch → length stack' ≡ length stack → SameRoom scratch scratch' → Lent l m stack' scratch'
lent_kept L a k = record {
  states = L.states;
  sets = L.sets;
  slot = L.slot;
  stack_long = rw a L.stack_long;
  rows_long = rw k.0 L.rows_long;
  table_long = rw k.1 L.table_long;
  work_long = rw k.2 L.work_long;
  classes_long = rw k.2 L.classes_long;
}

-- a slot of the stack ends in it
pub slot_room : {l : Layout} {m : ℕ} {stack : List ℕ} {scratch : Scratch} → Lent l m stack scratch → (i : ℕ) → i < tallest → i * l.size + l.size ≤ length stack
slot_room {l} L i h = omega (arith, L.stack_long, mul-le-mul_right {m = suc i} {n = tallest} l.size h, suc-mul i l.size)

-- the columns are counted
pub lent_columns : {l : Layout} {m : ℕ} {stack : List ℕ} {scratch : Scratch} → Lent l m stack scratch → m + 1 ≤ length stack
lent_columns {l} {m} L =
    omega (arith, slot_room L 0 (omega arith), L.slot, L.states.0, mul-le-mul_right {m = 1} {n = l.limits.states} (suc m) (omega (arith, L.states.0)), suc-mul 0 (suc m), zero-mul (suc m), zero-mul l.size)

-- An operation on the machines of two slots of the stack.
pub record Applying (l : Layout) (m left right : ℕ) (stack : List ℕ) (scratch : Scratch) : Type 0 where
  pub lent : Lent l m stack scratch
  pub low : left < tallest
  pub high : right < tallest
  pub left_slot : Slot l.limits.states (suc m) (drop (left * l.size) stack)
  pub right_slot : Slot l.limits.states (suc m) (drop (right * l.size) stack)

-- What was made stands in the slot, with the most sets of a stage; or its refusal.
abbrev pub MadeBy : Layout → ℕ → ℕ → List ℕ → Result ℕ TooMany → Made → Type 0
MadeBy l m left t (Ok n) X =
    (counts : List ℕ) × (greatest counts ≡ n) × (X ≡ made counts (slot_at l.limits.states (suc m) l.size t left)) × Slot l.limits.states (suc m) (drop (left * l.size) t)
MadeBy l m left t (Err e) X = X ≡ refused (refusal_of e)

pub record Makes (l : Layout) (m left : ℕ) (s t : List ℕ) (r : Result ℕ TooMany) (X : Made) : Type 0 where
  pub answer : MadeBy l m left t r X
  pub below : Below (left * l.size) s t

-- ---- one operation

pub apply_ready : {l : Layout} {m left right : ℕ} {stack : List ℕ} {scratch : Scratch} → Applying l m left right stack scratch
    → Ready m l.limits (left * l.size) (right * l.size) stack scratch.work.now scratch.rows.now scratch.table.now
apply_ready {l} {m} {left} {right} {stack} {scratch} A = record {
  left_slot = A.left_slot;
  right_slot = A.right_slot;
  states = (omega (arith, A.lent.states.0), A.lent.states.1);
  sets = A.lent.sets;
  room = omega (arith, slot_room A.lent left A.low, A.lent.slot);
  operands_long = A.lent.work_long;
  classes_long = A.lent.classes_long;
  rows_long = A.lent.rows_long;
  table_long = A.lent.table_long;
}

pub aside_below : {at len : ℕ} {s t : List ℕ} → Aside at len s t → Below at s t
aside_below A = record { long = A.long; same = λ j h. A.same j (inl h) }

module _ (op : Code) (l : Layout) (m left right : ℕ) (s t : List ℕ) where
  abbrev answer : Made
  answer = operate (format_of l) m (operation_of op) (slot_at l.limits.states (suc m) l.size s left) (slot_at l.limits.states (suc m) l.size s right)

  pub apply_made : (r : Stage) → StageDone op m l.limits (left * l.size) (right * l.size) s t (Ok r) → Makes l m left s t (Ok r.sets) answer
  apply_made r D =
      let w : r.sets ≡ max r.sets 0 = omega arith in
      record { answer = (r.sets ∷ [], sym w, D.answer (format_of l) refl refl, D.slot.0); below = aside_below D.aside }

  pub apply_stops : (e : TooMany) → StageDone op m l.limits (left * l.size) (right * l.size) s t (Err e) → Makes l m left s t (Err e) answer
  apply_stops e D = record { answer = D.answer (format_of l) refl refl; below = aside_below D.aside }

-- ---- the top moved up

-- A slot of the stack with room for one more.
pub record Doubling (l : Layout) (m top : ℕ) (stack : List ℕ) (scratch : Scratch) : Type 0 where
  pub lent : Lent l m stack scratch
  pub low : top + 1 < tallest
  pub slot : Slot l.limits.states (suc m) (drop (top * l.size) stack)

pub record Besides (l : Layout) (ls first second registers : List ℕ) (x : Source) (top : ℕ) (stack : List ℕ) (scratch : Scratch) : Type 0 where
  pub doubling : Doubling l (length ls) top stack scratch
  pub shelves : Shelves l (length ls) first second registers
  pub ready : OperandReady l (suc (length ls)) first second registers x

pub double_room : {l : Layout} {m top : ℕ} {stack : List ℕ} {scratch : Scratch} → Doubling l m top stack scratch → top * l.size + l.size + l.size ≤ length stack
double_room {l} {m} {top} D = omega (arith, D.lent.stack_long, mul-le-mul_right {m = suc (suc top)} {n = tallest} l.size (omega (arith, D.low)), suc-mul top l.size, suc-mul (suc top) l.size)

-- what raising the top asks
pub raise_asks : {l : Layout} {m top : ℕ} {stack : List ℕ} {scratch : Scratch} → Doubling l m top stack scratch
    → Slot l.limits.states (m + 1) (drop (top * l.size) stack) × ((needs l.limits.states (m + 1) ≤ l.size) × (top * l.size + l.size + l.size ≤ length stack))
raise_asks {l} {m} {top} D = rw (add-one m) (D.slot, (D.lent.slot, double_room D))

-- The slot above holds the top too, and nothing before it is changed.
pub record Raised (l : Layout) (m top : ℕ) (s t : List ℕ) : Type 0 where
  pub holds : Holds l.limits.states (suc m) (drop ((top + 1) * l.size) t) (slot_at l.limits.states (suc m) l.size s top)
  pub below : Below ((top + 1) * l.size) s t

next_place_lem : (top size : ℕ) → top * size + size ≡ (top + 1) * size
next_place_lem top size = rw (add-one top) (omega (arith, suc-mul top size))

pub raised : {l : Layout} {m top : ℕ} {s : List ℕ} {scratch : Scratch} → Doubling l m top s scratch → (t : List ℕ)
    → Written s t (top * l.size + l.size) (fills l.limits.states (m + 1) (drop (top * l.size) s)) (λ i. get_or s (top * l.size + i) 0) → Raised l m top s t
raised {l} {m} {top} {s} D t W = record {
  holds = subst (λ p. Holds l.limits.states (suc m) (drop p t) (slot_at l.limits.states (suc m) l.size s top)) (next_place_lem top l.size)
      (copied s (top * l.size) s t (top * l.size + l.size) (omega (arith, double_room D, D.lent.slot)) D.slot (rw (add-one m) at W));
  below = subst (λ p. Below p s t) (next_place_lem top l.size) (aside_below (written_aside W));
}

-- ---- an operation on an operand and the top

-- a slot beside a change
pub slot_aside : (l : Layout) (m i : ℕ) (s t : List ℕ) → needs l.limits.states (suc m) ≤ l.size → (i + 1) * l.size + l.size ≤ length s → Aside (i * l.size) l.size s t
    → Slot l.limits.states (suc m) (drop ((i + 1) * l.size) s) → Holds l.limits.states (suc m) (drop ((i + 1) * l.size) t) (slot_at l.limits.states (suc m) l.size s (i + 1))
slot_aside l m i s t h g A S =
    slot_same s t ((i + 1) * l.size) ((i + 1) * l.size) S (omega (arith, A.long)) (λ j v. A.same ((i + 1) * l.size + j) (inr (omega (arith, next_place_lem i l.size))))

module _ {l : Layout} {ls first second registers : List ℕ} {x : Source} {top : ℕ} {s : List ℕ} {scratch : Scratch} (B : Besides l ls first second registers x top s scratch) where
  pub beside_bring : {t : List ℕ} → Raised l (length ls) top s t → Bringing l ls first second registers t top x
  beside_bring R = record { shelves = B.shelves; room = omega (arith, double_room B.doubling, R.below.long); ready = B.ready }

  up_room : (top + 1) * l.size + l.size ≤ length s
  up_room = omega (arith, double_room B.doubling, next_place_lem top l.size)

  pub beside_apply : {t u : List ℕ} {scratch' : Scratch} → Raised l (length ls) top s t → Brought l ls first second registers t u top x
      → SameRoom scratch scratch' → Applying l (length ls) top (top + 1) u scratch'
  beside_apply {t} {u} R P k = record {
    lent = lent_kept B.doubling.lent (P.aside.long ∙ R.below.long) k;
    low = omega (arith, B.doubling.low);
    high = B.doubling.low;
    left_slot = P.holds.slot;
    right_slot = (slot_aside l (length ls) top t u B.doubling.lent.slot (omega (arith, up_room, R.below.long)) P.aside R.holds.slot).slot;
  }

  pub beside_makes : {t u v : List ℕ} {r : Result ℕ TooMany} (op : Code) → Raised l (length ls) top s t → Brought l ls first second registers t u top x
      → Makes l (length ls) top u v r (operate (format_of l) (length ls) (operation_of op) (slot_at l.limits.states (suc (length ls)) l.size u top) (slot_at l.limits.states (suc (length ls)) l.size u (top + 1)))
      → Makes l (length ls) top s v r (operate (format_of l) (length ls) (operation_of op) (operand_in l ls first second registers x) (slot_at l.limits.states (suc (length ls)) l.size s top))
  beside_makes {t} {u} {v} {r} op R P M = record {
    answer = subst (MadeBy l (length ls) top v r) (ap₂ (operate (format_of l) (length ls) (operation_of op)) P.holds.machine (above.machine ∙ R.holds.machine)) M.answer;
    below = record {
      long = M.below.long ∙ P.aside.long ∙ R.below.long;
      same = λ j h. M.below.same j h ∙ P.aside.same j (inl h) ∙ R.below.same j (omega (arith, next_place_lem top l.size));
    };
  }
    where
      above : Holds l.limits.states (suc (length ls)) (drop ((top + 1) * l.size) u) (slot_at l.limits.states (suc (length ls)) l.size t (top + 1))
      above = slot_aside l (length ls) top t u B.doubling.lent.slot (omega (arith, up_room, R.below.long)) P.aside R.holds.slot

-- ---- `A+`

pub greatest_both : (a b : List ℕ) → greatest (a ++ b) ≡ max (greatest a) (greatest b)
greatest_both [] b = omega arith
greatest_both (c ∷ a) b = omega (arith, greatest_both a b)

-- A is in its slot still, and `A*` is made above it.
pub record Starred (l : Layout) (m top : ℕ) (s t : List ℕ) (r : Result ℕ TooMany) : Type 0 where
  pub under : Holds l.limits.states (suc m) (drop (top * l.size) t) (slot_at l.limits.states (suc m) l.size s top)
  pub star : MadeBy l m (top + 1) t r (star_stage (format_of l) (suc m) (slot_at l.limits.states (suc m) l.size s top))
  pub below : Below (top * l.size) s t

module _ {l : Layout} {m top : ℕ} {s : List ℕ} {scratch : Scratch} (D : Doubling l m top s scratch) where
  pub star_asks : {t : List ℕ} → Raised l m top s t → Applying l m (top + 1) (top + 1) t scratch
  star_asks R = record { lent = lent_kept D.lent R.below.long (same_room scratch); low = D.low; high = D.low; left_slot = R.holds.slot; right_slot = R.holds.slot }

  two : {t : List ℕ} → Raised l m top s t → (top + 1) * l.size ≤ length t
  two R = omega (arith, double_room D, next_place_lem top l.size, R.below.long)

  pub starred : {t u : List ℕ} {r : Result ℕ TooMany} → Raised l m top s t → Makes l m (top + 1) t u r (star_stage (format_of l) (suc m) (slot_at l.limits.states (suc m) l.size t (top + 1))) → Starred l m top s u r
  starred {t} {u} {r} R S =
      let a = slot_below l.size (top + 1) s t top D.lent.slot (omega (arith, two R, R.below.long)) (omega arith) R.below D.slot in
      let b = slot_below l.size (top + 1) t u top D.lent.slot (two R) (omega arith) S.below a.slot in
      record {
        under = record { slot = b.slot; machine = b.machine ∙ a.machine };
        star = subst (MadeBy l m (top + 1) u r) (ap (star_stage (format_of l) (suc m)) R.holds.machine) S.answer;
        below = record {
          long = S.below.long ∙ R.below.long;
          same = λ j h. S.below.same j (omega (arith, next_place_lem top l.size)) ∙ R.below.same j (omega (arith, next_place_lem top l.size));
        };
      }

  abbrev A : Machine
  A = slot_at l.limits.states (suc m) l.size s top

  abbrev plussed : Made
  plussed = then_made (star_stage (format_of l) (suc m) A) λ B. concat_stage (format_of l) (suc m) A B

  module _ {u : List ℕ} {r : Result ℕ TooMany} (S : Starred l m top s u r) where
    star_is : (x : Result ℕ TooMany) → r ≡ x → MadeBy l m (top + 1) u x (star_stage (format_of l) (suc m) A)
    star_is x e = subst (λ r. MadeBy l m (top + 1) u r (star_stage (format_of l) (suc m) A)) e S.star

    pub plus_refused : (e : TooMany) → r ≡ Err e → Makes l m top s u (Err e) plussed
    plus_refused e i = record { answer = ap (λ X. then_made X λ B. concat_stage (format_of l) (suc m) A B) (star_is (Err e) i); below = S.below }

    module _ (n : ℕ) (e : r ≡ Ok n) where
      pub plus_second : {scratch' : Scratch} → SameRoom scratch scratch' → Applying l m top (top + 1) u scratch'
      plus_second k = record {
        lent = lent_kept D.lent S.below.long k;
        low = omega (arith, D.low);
        high = D.low;
        left_slot = S.under.slot;
        right_slot = (star_is (Ok n) e).3;
      }

      abbrev joining : Made
      joining = concat_stage (format_of l) (suc m) (slot_at l.limits.states (suc m) l.size u top) (slot_at l.limits.states (suc m) l.size u (top + 1))

      counts : List ℕ
      counts = (star_is (Ok n) e).0

      joined : plussed ≡ after counts joining
      unfolding counts
      joined = ap (λ X. then_made X λ B. concat_stage (format_of l) (suc m) A B) (star_is (Ok n) e).2
          ∙ ap (λ Y. after counts (concat_stage (format_of l) (suc m) Y (slot_at l.limits.states (suc m) l.size u (top + 1)))) (sym S.under.machine)

      behind_below : {v : List ℕ} → Below (top * l.size) u v → Below (top * l.size) s v
      behind_below B = record { long = B.long ∙ S.below.long; same = λ j h. B.same j h ∙ S.below.same j h }

      pub plus_done : {v : List ℕ} (q : ℕ) {x : Result ℕ TooMany} → Makes l m top u v x joining → x ≡ Ok q → (p : ℕ) → p ≡ max n q → Makes l m top s v (Ok p) plussed
      unfolding counts
      plus_done {v} q T i p f =
          let (cs, g, b, d) = subst (λ x. MadeBy l m top v x joining) i T.answer in
          record { answer = (counts ++ cs, greatest_both counts cs ∙ ap₂ max (star_is (Ok n) e).1 g ∙ sym f, joined ∙ ap (after counts) b, d); below = behind_below T.below }

      pub plus_stopped : {v : List ℕ} (q : TooMany) {x : Result ℕ TooMany} → Makes l m top u v x joining → x ≡ Err q → Makes l m top s v (Err q) plussed
      unfolding counts
      plus_stopped {v} q T i = record { answer = joined ∙ ap (after counts) (subst (λ x. MadeBy l m top v x joining) i T.answer); below = behind_below T.below }
