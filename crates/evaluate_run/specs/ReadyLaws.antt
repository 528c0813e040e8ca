-- From a line that was read, buffers that are long enough and slots that hold machines to what running the line's program asks.
use Rattle.std.specs.Prelude.{◌≡◌, true, false, List, ℕ, suc, ◌+◌, ◌-◌, ◌*◌, ◌≤◌, ◌<◌, leb, length, get_or, take}
use Rattle.std.proofs.Common.{refl, sym, ap, ◌∙◌, subst, inl, inr, add-one, arith, le-leb}
use Rattle.std.proofs.lemmas.Bool.{lt-leb}
use Rattle.automata.specs.Basics.{LtCases, lt_cases}
use Rattle.automata.specs.Machine.{Machine}
use Rattle.book.specs.Kind.{is_name}
use Rattle.book.specs.Text.{define, rule}
use Rattle.book.specs.StackLaws.{highest}
use Rattle.book.proofs.StackLaws.{program_highest}
use Rattle.reader.specs.Answers.{program_length, ReadsNext}
use Rattle.reader.specs.AnswerLaws.{name_read, rule_read}
use Rattle.reader.specs.declared.names.Names.{Names}
use Rattle.std.specs.Prelude.{Result, Ok}
use Rattle.book.specs.declared.refusal.Refusal.{Refusal}
use Rattle.forms.specs.declared.Code.{Code}
use Rattle.forms.specs.declared.Code.TheVariants.{Define, Rule}
use Rattle.reader.specs.declared.line.Line.{Line}
use Rattle.reader.proofs.SymbolLaws.{name_byte}
use Rattle.slots.specs.Slot.{Slot, Holds, Written}
use Rattle.operands.specs.Stack.{Slots, Below, slots_below, slots_more}
use Rattle.operands.specs.Operand.{name_slot, lent}
use Rattle.evaluate.specs.Run.{height_of, Running}
use Rattle.evaluate.specs.Evaluated.{program_height}
use Rattle.answers.specs.declared.Scratch.{Scratch}
use Rattle.operands.specs.declared.Layout.{Layout}
use Rattle.evaluate_run.specs.Ready.{Coded}

-- ---- a line that was read

module _ {s : List ℕ} {at : ℕ} {letters : List ℕ} {f : Names} {o₀ o : List ℕ} {r : Result Line Refusal} (d : ReadsNext s at letters f o₀ o r) where
  pub line_coded : {n : Line} → r ≡ Ok n → (program_length n.code ≤ length o) × Coded (take (program_length n.code) o) × (at < n.next)
  line_coded {n} e = go n.code n.next e
    where
      go : (x : Code) (next : ℕ) → r ≡ Ok (record { code = x; next = next }) → (program_length x ≤ length o) × Coded (take (program_length x) o) × (at < next)
      go (Define x len) next e =
          let (W, n) = name_read d e refl in
          (W.written.fits, record { form = define x W.body; formed = tt; held = W.written.held; code_is = W.written.code }, omega (arith, d.ends.from, n))
      go (Rule len) next e =
          let (W, n) = rule_read d e refl in
          (W.written.fits, record { form = rule W.kind W.pattern W.contexts; formed = tt; held = W.written.held; code_is = W.written.code }, omega (arith, d.ends.from, n))

-- ---- slots

pub slots_none : (s : List ℕ) → Slots 120 3 3362 0 s
slots_none s = record { held = λ i h. absurd (omega arith) }

pub slots_next : (i : ℕ) (ys s t : List ℕ) (M : Machine) → i * 3362 + 3362 ≤ length s → Slots 120 3 3362 i s → Holds 120 3 ys M → Written s t (i * 3362) 3362 (λ j. get_or ys j 0)
    → Slots 120 3 3362 (i + 1) t
slots_next i ys s t M l S H W =
    rw (add-one i) (slots_more (slots_below 3362 i s t (omega arith) (omega arith) below S) (lent ys s t (i * 3362) 3362 (omega arith) l H W).slot)
  where
    below : Below (i * 3362) s t
    below = record { long = W.long; same = λ j b. W.there j (inl b) }

-- each name's slot is among thirteen
name_slot_lem : (names : List ℕ) → Slots 120 3 3362 13 names → (x : ℕ) → is_name x ≡ true → Slot 120 3 (name_slot 3362 names names x)
name_slot_lem names S x t = go (lt_cases 77 x)
  where
    go : LtCases 77 x → Slot 120 3 (name_slot 3362 names names x)
    go (inl p) = let e : leb x 77 ≡ false = lt-leb x 77 p.0 in let h : x - 78 < 13 = omega (arith, (name_byte x t).1) in rw e (S.held (x - 78) h)
    go (inr p) = let e : leb x 77 ≡ true = le-leb x 77 p.0 in let h : x - 65 < 13 = omega (arith, (name_byte x t).0) in rw e (S.held (x - 65) h)

-- ---- the run

-- the limits of 01, and the bytes of a slot
abbrev pub layout : Layout
layout = record { limits = record { sets = 512; states = 120 }; size = 3362 }

module _ {code : List ℕ} (C : Coded code) where
  pub running : (letters names registers stack : List ℕ) (scratch : Scratch) → 2 ≡ length letters → Slots 120 3 3362 13 names → Slots 120 3 3362 3 registers
      → 43706 ≡ length names → 10086 ≡ length registers → 63878 ≡ length stack
      → 62464 ≡ length scratch.rows.now → 14336 ≡ length scratch.table.now → 6720 ≡ length scratch.work.now → Running layout letters names names registers code stack scratch
  running letters names registers stack scratch two N S a b c d e f = record {
    shelves = record { states = omega arith; letters = omega arith; slot = omega arith; first_long = omega arith; second_long = omega arith; registers_long = omega arith };
    lent = record {
      states = (omega arith, omega arith);
      sets = (omega arith, omega arith);
      slot = omega arith;
      stack_long = omega arith;
      rows_long = omega arith;
      table_long = omega arith;
      work_long = omega arith;
      classes_long = (omega arith, omega arith);
    };
    held = subst (λ m. Slots 120 (suc m) 3362 3 registers) two S;
    height = subst (λ p. highest 0 p ≤ 19) (sym C.code_is) (program_highest 17 C.form (omega arith) C.held);
    names = λ i h t. subst (λ m. Slot 120 (suc m) (name_slot 3362 names names (get_or code i 0))) two (name_slot_lem names N (get_or code i 0) t);
  }

  pub one_machine : height_of 0 code ≡ 1
  one_machine = ap (height_of 0) C.code_is ∙ program_height 17 C.form C.formed C.held
