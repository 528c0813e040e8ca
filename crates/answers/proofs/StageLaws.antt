-- The steps of a stage over lent buffers: what each step asks follows from what the stage asks, and the stage's answer from what the steps answer.
use Rattle.std.specs.Prelude.{◌≡◌, refl, List, [], ◌∷◌, ℕ, suc, ◌+◌, ◌*◌, ◌-◌, ◌≤◌, ◌<◌, length, take, drop, Option, Some, None, Ok, Err}
use Rattle.std.proofs.Common.{sym, ap, ◌∙◌, subst, mul-le-mul_right, mul-le-mul_left, suc-mul, zero-mul, add-one, arith, length-drop, take_all}
use Rattle.automata.specs.Automaton.{Automaton}
use Rattle.automata.specs.Machine.{Machine, size, automaton, WellFormed}
use Rattle.automata.specs.Smallest.{smallest}
use Rattle.automata.specs.Table.{ClosedTable, table_machine, table_size, table_formed}
use Rattle.entries.specs.declared.table.Table.{Table}
use Rattle.automata.specs.Format.{Format}
use Rattle.automata.specs.Stage.{Made as Answer, made, refused, StageResult}
use Rattle.rows.specs.Rows.{number_at}
use Rattle.sets.specs.Fits.{Listing}
use Rattle.sets.specs.Operands.{Fits}
use Rattle.sets.specs.Operations.{operation_of, row_width, rows_of}
use Rattle.sets.specs.declared.Operation.{Operation as Code}
use Rattle.sets.specs.declared.operands.Operands.{Operands}
use Rattle.turns.specs.Exploring.{Answers, Explores}
use Rattle.turns.specs.ExploringLaws.{explored_closed, explored_more}
use Rattle.slots.specs.declared.slot.Sizes.{Sizes}
use Rattle.answers.specs.declared.Limits.{Limits}
use Rattle.answers.specs.declared.TooMany.TheVariants.{TooManySets, TooManyStates}
use Rattle.slots.specs.Slot.{Slot, slot_machine, Loaded}
use Rattle.packing.specs.Keep.{Keepable, KeptAt}
use Rattle.answers.specs.Operate.{operate, operate_by, found_kept, found_large, found_many}
use Rattle.answers.specs.Stage.{width_most, table_rows, Reaches, Reached, Ready, StageDone}

-- ---- reaching the sets

module _ {k : ℕ} {l : Limits} {r : Sizes} {t rows table : List ℕ} (R : Reaches k l r t rows table) where
  abbrev half : ℕ
  half = l.states + l.states * k

  pub reach_half : half < length t
  reach_half = omega (arith, R.right.long, R.right.flags, R.right.some, length-drop half t)

  behind : take (length t - half) (drop half t) ≡ drop half t
  behind = take_all (length t - half) (drop half t) (omega (arith, length-drop half t))

  -- the second table, lent from its place on
  pub reach_right : ClosedTable l.states r.right k (take (length t - half) (drop half t))
  reach_right = rw behind R.right

  pub reach_fits : (op : Code) (w : ℕ) → w ≡ row_width (operation_of op) r.left r.right → (X Y : Table) → X.columns ≡ k → Y.columns ≡ k → X.states ≡ r.left → Y.states ≡ r.right → Fits op X Y w
  reach_fits op w e X Y x y p q = record {
    columns = omega (arith, R.columns, x);
    same = y ∙ sym x;
    left_small = omega (arith, R.left.flags, R.states.1, p);
    right_small = omega (arith, R.right.flags, R.states.1, q);
    width = rw (p, q) e;
  }

  pub reach_width : (op : Code) (w : ℕ) → w ≡ row_width (operation_of op) r.left r.right → w ≤ l.states + 2
  reach_width op w e = rw e (width_most (operation_of op) r.left r.right l.states R.left.flags R.right.flags R.states.0)

  module _ (s : Operands) (p : s.left.states ≡ r.left) (q : s.right.states ≡ r.right) where
    pub reach_asks : s.left.columns ≡ k → s.limit ≡ l.sets → (row : List ℕ) → length row ≡ s.width → Explores s rows row table
    reach_asks x y row h = record {
      room = record {
        some = omega (arith, R.sets.0, y);
        small = omega (arith, R.sets.1, y);
        rows_long = rw y (omega (arith, R.rows_long, mul-le-mul_left l.sets (reach_width s.op s.width (rw (p, q) at s.fits.width))));
        row_long = h;
        table_long = rw (x, y) R.table_long;
      };
    }

    pub reach_lists : (members : List ℕ) → length members ≡ 256 → Listing s members
    reach_lists members e = record {
      left = omega (arith, R.left.flags, R.states.1, p);
      right = omega (arith, R.right.flags, R.states.1, q);
      small = omega arith;
    }

  -- the rows of the two tables, the second lent from its place on
  abbrev lent_rows : Code → Automaton (List ℕ)
  lent_rows op = rows_of (operation_of op) (k - 1) r.left (automaton (table_machine l.states r.left k t)) r.right (automaton (table_machine l.states r.right k (take (length t - half) (drop half t))))

  pub reach_found : (op : Code) (w : ℕ) (rows' table' : List ℕ) (x : Option ℕ) → Answers (lent_rows op) k w l.sets rows' table' x → Reached op k l r t rows' table' x
  reach_found op w rows' table' x a = record { w = w; answers = rw behind at a }

-- ---- a slot's machine

slot_size : {most k : ℕ} {s : List ℕ} → Slot most k s → size (slot_machine most k s) ≡ number_at s 0
unfolding slot_machine
slot_size {most} {k} {s} C = table_size most (number_at s 0) k (drop 2 s) C.closed

slot_formed : {most k : ℕ} {s : List ℕ} → Slot most k s → WellFormed k (slot_machine most k s)
unfolding slot_machine
slot_formed {most} {k} {s} C = table_formed most (number_at s 0) k (drop 2 s) C.closed

-- ---- what the steps ask

module _ {m : ℕ} {l : Limits} {left right : ℕ} {slots operands rows table : List ℕ} (R : Ready m l left right slots operands rows table) where
  pub ready_columns : m + 1 ≤ length table
  ready_columns = omega (arith, R.table_long, R.sets.0, mul-le-mul_right {m = 1} {n = l.sets} (suc m) R.sets.0, suc-mul 0 (suc m), zero-mul (suc m))

  pub ready_load : Slot l.states (m + 1) (drop left slots) × (Slot l.states (m + 1) (drop right slots) × ((l.states + l.states * (m + 1)) + (l.states + l.states * (m + 1)) ≤ length operands))
  ready_load = rw (add-one m) (R.left_slot, (R.right_slot, R.operands_long))

  module _ {t : List ℕ} {r : Sizes} (L : Loaded l.states (m + 1) (drop left slots) (drop right slots) t r) where
    pub ready_reach : Reaches (m + 1) l r t rows table
    ready_reach = record {
      left = L.left.closed;
      right = L.right.closed;
      columns = omega arith;
      states = R.states;
      sets = R.sets;
      rows_long = R.rows_long;
      table_long = rw (add-one m) R.table_long;
    }

    abbrev A : Machine
    A = slot_machine l.states (suc m) (drop left slots)

    abbrev B : Machine
    B = slot_machine l.states (suc m) (drop right slots)

    -- the rows of the tables are the rows of the slots' machines
    rows_same : (op : Code) → table_rows op (m + 1) l.states r t ≡ rows_of (operation_of op) m (size A) (automaton A) (size B) (automaton B)
    rows_same op =
        let K : Loaded l.states (suc m) (drop left slots) (drop right slots) t r = rw (add-one m) at L in
        let z : suc m - 1 ≡ m = omega arith in
        let na : r.left ≡ size A = K.left.count ∙ sym (slot_size R.left_slot) in
        let nb : r.right ≡ size B = K.right.count ∙ sym (slot_size R.right_slot) in
        rw (add-one m) (λ i. rows_of (operation_of op) (z i) (na i) (automaton (K.left.same i)) (nb i) (automaton (K.right.same i)))

    -- what is found of the tables' rows is the stage's answer
    found : (op : Code) (fmt : Format) (a : Answer) → StageResult fmt (m + 1) (table_rows op (m + 1) l.states r t) a → operate fmt m (operation_of op) A B ≡ a
    found op fmt a s =
        operate_by (operation_of op) m A B (slot_formed R.left_slot) (slot_formed R.right_slot) fmt a
        (subst (λ k. StageResult fmt k (rows_of (operation_of op) m (size A) (automaton A) (size B) (automaton B)) a) (add-one m)
        (subst (λ X. StageResult fmt (m + 1) X a) (rows_same op) s))

    pub done_many : (op : Code) (rows' table' : List ℕ) (x : Option ℕ) → Reached op (m + 1) l r t rows' table' x → x ≡ None → StageDone op m l left right slots slots (Err TooManySets)
    done_many op rows' table' x H e = record {
      answer = λ fmt es et. found op fmt (refused 8) (found_many (table_rows op (m + 1) l.states r t) (m + 1) l.sets fmt es (explored_more (table_rows op (m + 1) l.states r t) (m + 1) H.w l.sets rows' table' (rw e at H.answers)));
      slot = tt;
      aside = record { long = refl; same = λ j h. refl };
    }

    module _ (op : Code) (n : ℕ) (rows' table' : List ℕ) (x : Option ℕ) (H : Reached op (m + 1) l r t rows' table' x) (e : x ≡ Some n) where
      -- the table that was laid out is closed, and lent as one it can be kept
      pub ready_keep : (work : List ℕ) → length work ≡ length operands
          → ClosedTable l.sets n (m + 1) table' × ((X : Table) → X.states ≡ n → X.columns ≡ m + 1 → Keepable X l.states left work slots)
      ready_keep work g =
          let h = rw e at H.answers in (
            explored_closed (table_rows op (m + 1) l.states r t) (m + 1) H.w l.sets n rows' table' h,
            λ X s k. record {
              few = omega (arith, h.within, R.sets.1, s);
              some = omega (arith, R.states.0);
              bytes = R.states.1;
              arrays = omega (arith, h.within, R.classes_long.0, g, s);
              order = omega (arith, h.within, R.classes_long.1, g, s);
              slot = subst (λ c. left + 2 + (l.states + l.states * c) ≤ length slots) (sym (k ∙ add-one m)) R.room;
            },
          )

      abbrev T : Machine
      T = table_machine l.sets n (m + 1) table'

      pub done_large : (slots' : List ℕ) → KeptAt (m + 1) l.states left T slots slots' None → StageDone op m l left right slots slots' (Err TooManyStates)
      done_large slots' K = record {
        answer = λ fmt es et. found op fmt (refused 9) (found_large (table_rows op (m + 1) l.states r t) (m + 1) H.w l.sets n rows' table' (rw e at H.answers) fmt es (rw (← et) at K.answer));
        slot = tt;
        aside = rw (add-one m) at K.aside;
      }

      pub done_made : (slots' : List ℕ) (q : ℕ) → KeptAt (m + 1) l.states left T slots slots' (Some q) → StageDone op m l left right slots slots' (Ok (record { sets = n; states = q }))
      done_made slots' q K =
          let k = K.answer in
          let v : Slot l.states (suc m) (drop left slots') = rw (add-one m) at k.0.slot in
          let c : slot_machine l.states (suc m) (drop left slots') ≡ smallest (m + 1) T = ap (λ k. slot_machine l.states k (drop left slots')) (sym (add-one m)) ∙ k.0.machine in
          record {
            answer = λ fmt es et.
                found op fmt (made (n ∷ []) (smallest (m + 1) T))
                (found_kept (table_rows op (m + 1) l.states r t) (m + 1) H.w l.sets n rows' table' (rw e at H.answers) fmt es (omega (arith, k.1, k.2, et)))
                ∙ ap (λ M. made (n ∷ []) M) (sym c);
            slot = (v, sym (slot_size v) ∙ ap size c ∙ k.1);
            aside = rw (add-one m) at K.aside;
          }
