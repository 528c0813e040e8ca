-- Line 1, the card, and the refusals 1, 2 and 11.
use mathlib.Core.Path.{◌≡◌, refl, sym, ap, ◌∙◌, subst}
use mathlib.Core.Bool.{Bool, true, false}
use mathlib.Core.Logic.{inl, inr}
use mathlib.Core.List.{List, [], ◌∷◌, ◌++◌}
use Prim.Native.Nat.{ℕ, zero, suc, ◌-◌, ◌≤◌, ◌<◌}
use native.Mathlib.Nat.{not-suc-le-zero}
use native.Mathlib.Omega.{arith}
use lib.Dec.{leb, ltb}
use lib.ListN.{length, drop, take, length-drop}
use lib.Seq.{take_all}
use native.Mathlib.Numerals.{add-one}
use Rattle.automata.specs.Format.{narrow}
use Rattle.automata.specs.Booleans.{choose}
use Rattle.automata.specs.Basics.{LtCases, lt_cases, lt_ltb, ltb_false}
use Rattle.automata.specs.Machine.{Machine}
use Rattle.std.specs.List.{list_all, zip}
use Rattle.rows.specs.Rows.{number_at}
use Rattle.card.specs.Same.{card_of}
use Rattle.book.specs.Text.{Line, lines_of, letters_of}
use Rattle.book.specs.Line as L
use Rattle.book.specs.Line.{HeadRead, letters, read_head}
use Rattle.book.specs.HeadLaws.{Letters}
use Rattle.book.proofs.HeadLaws.{head_elim, head_letters}
use Rattle.compiler.specs.Book.{stopped, compile_lines, start_draft, after_head, compile_head, compile_text, compile_book}
use Rattle.compiler.specs.Outcome.{card, stop, outcome, enough}
use Rattle.slots.specs.Slot.{slot_machine}
use Rattle.writer.specs.Written.{Kept, kept_card}
use Rattle.writer.specs.Written as W
use Rattle.std.proofs.Common.{Option, Some, None}
use Rattle.scans.specs.Lines.{line_of, line_at, Ends}
use Rattle.scans.specs.Head.{head_of}
use Rattle.std.specs.Prelude.{Result, Ok, Err}
use Rattle.book.specs.Refusals.{refusal_number}
use Rattle.book.specs.declared.refusal.Refusal as refused_line_of
use Rattle.kept.specs.Stored.{InSlot}
use Rattle.compiler.specs.Reading.{Answers}
use Rattle.compiler.specs.Rest.{lines_from}
use Rattle.compiler.specs.Lent.{documented}
use Rattle.frame.specs.Frame.{Writable, PutsCard, Headed, Heads, Opens}
use Rattle.compiler.specs.declared.Compiled.{Compiled}
use Rattle.compiler.specs.Refusals.{reason_number, refused_number, refused_line}
use Rattle.compiler.specs.declared.LineRefusal.{LineRefusal}
use Rattle.compiler.specs.declared.Reason.TheVariants.{NotRead}
use Rattle.compiler.specs.declared.Refusal.{Refusal}
use Rattle.compiler.specs.declared.Refusal.TheVariants.{TextTooLong, BufferTooShort, Line as OnLine, OutputTooShort}
use Rattle.frame.specs.declared.Opened.{Opened}

-- a refusal leaves the card buffer as it was
pub stops : (r : Refusal) (old : List ℕ) → Answers (stop (refused_number r) (refused_line r)) old old (Err r)
stops r old = record { answer = refl; buffer = refl }

-- ---- the card

-- what the writer's answer becomes
abbrev compiled_of : ℕ → Option ℕ → Result Compiled Refusal
compiled_of peak (Some l) = Ok (record { length = l; peak = peak })
compiled_of peak None = Err OutputTooShort

put : (c old new : List ℕ) (peak : ℕ) (w : Option ℕ) → W.Written c old new w → Answers (choose (ltb (length old) (length c)) (λ _. stop 11 0) (λ _. card c peak)) old new (compiled_of peak w)
put c old new peak w R = go (lt_cases (length old) (length c))
  where
    go : LtCases (length old) (length c) → Answers (choose (ltb (length old) (length c)) (λ _. stop 11 0) (λ _. card c peak)) old new (compiled_of peak w)
    go (inl p) =
        let e : ltb (length old) (length c) ≡ true = p.1 in
        let z : w ≡ None = rw e at R.result in
        let y : new ≡ old = rw e at R.buffer in
        rw (e, z) (record { answer = refl; buffer = y })
    go (inr p) =
        let e : ltb (length old) (length c) ≡ false = p.1 in
        let z : w ≡ Some (length c) = rw e at R.result in
        let y : new ≡ c ++ drop (length c) old = rw e at R.buffer in
        rw (e, z) (record { answer = refl; buffer = y })

pub slot_long : {ls slot : List ℕ} → Writable ls slot → 122 ≤ length slot
slot_long {ls} {slot} K = omega (arith, K.held.slot.closed.long, length-drop 2 slot)

module _ (ls slot : List ℕ) (n : ℕ) (e : n ≡ number_at slot 0) where
  -- the bytes of a slot behind the number
  abbrev table : List ℕ
  table = take (length slot - 2) (drop 2 slot)

  whole : table ≡ drop 2 slot
  whole = take_all (length slot - 2) (drop 2 slot) (omega (arith, length-drop 2 slot))

  held_card : (M : Machine) → InSlot (length ls) slot M → kept_card n ls table ≡ card_of narrow ls M
  unfolding slot_machine
  held_card M H = ap (λ t. kept_card n ls t) whole ∙ ap (card_of narrow ls) (rw e H.machine)

  pub kept : Writable ls slot → Kept n (length ls) table
  unfolding slot_machine
  kept K = subst (Kept n (length ls)) (sym whole)
      (let z = K.held.machine in
      record {
        closed = rw e K.held.slot.closed;
        letters_most = K.few;
        canonical = rw (e, z) K.canonical;
        unmarked = rw (e, z) K.unmarked;
      })

  puts : (peak : ℕ) (old new : List ℕ) (w : Option ℕ) → W.Written (kept_card n ls table) old new w → PutsCard ls slot peak old new (compiled_of peak w)
  puts peak old new w R = record {
    says = λ M H. subst (λ c. Answers (choose (ltb (length old) (length c)) (λ _. stop 11 0) (λ _. card c peak)) old new (compiled_of peak w)) (held_card M H)
        (put (kept_card n ls table) old new peak w R);
  }

  pub puts_card : (peak l : ℕ) (old new : List ℕ) (w : Option ℕ) → W.Written (kept_card n ls table) old new w → w ≡ Some l → PutsCard ls slot peak old new (Ok (record { length = l; peak = peak }))
  puts_card peak l old new w R q = subst (λ w. PutsCard ls slot peak old new (compiled_of peak w)) q (puts peak old new w R)

  pub puts_none : (peak : ℕ) (old new : List ℕ) (w : Option ℕ) → W.Written (kept_card n ls table) old new w → w ≡ None → PutsCard ls slot peak old new (Err OutputTooShort)
  puts_none peak old new w R q = subst (λ w. PutsCard ls slot peak old new (compiled_of peak w)) q (puts peak old new w R)

-- ---- line 1

-- a text of no bytes: no letters, and no line behind them
pub no_bytes : (text : List ℕ) → length text ≡ 0 → Heads text (Ok (record { start = 0; end = 0 }))
unfolding compile_book compile_text compile_lines
no_bytes [] e = record {
  says = record {
    headed = record { is = refl; placed = record { some = λ h. absurd (not-suc-le-zero h); few = omega arith; short = omega arith; at = omega arith } };
    some = omega arith;
    within = omega arith;
  };
}
no_bytes (b ∷ text) e = absurd (omega arith)

behind_is : (l : Line) → letters_of l ≡ drop 1 l.bytes
behind_is l = go l.bytes l.ended
  where
    go : (bs : List ℕ) (t : Bool) → letters_of (line_of bs t) ≡ drop 1 bs
    go [] t = refl
    go (b ∷ bs) t = refl

-- the bytes behind the first, up to the line's end
tail_take : (text : List ℕ) (end : ℕ) → 1 ≤ end → drop 1 (take end text) ≡ take (end - 1) (drop 1 text)
tail_take text zero h = absurd (omega arith)
tail_take [] (suc e) h = none (suc e - 1)
  where
    none : (n : ℕ) → ◌≡◌ {A = List ℕ} [] (take n [])
    none zero = refl
    none (suc n) = refl
tail_take (b ∷ text) (suc e) h = ap (λ n. take n text) (less e)
  where
    less : (e : ℕ) → e ≡ suc e - 1
    less e = omega arith

behind_colon : (text : List ℕ) (end : ℕ) → 1 ≤ end → drop 1 (take (end - 0) (drop 0 text)) ≡ take (end - 1) (drop 1 text)
behind_colon text end h = ap (λ n. drop 1 (take n text)) (whole_end end) ∙ tail_take text end h
  where
    whole_end : (end : ℕ) → end - 0 ≡ end
    whole_end end = omega arith

-- the letters of a line 1 that was read
head_read : (l : Line) (ls : List ℕ) → read_head narrow l ≡ letters ls → (ls ≡ drop 1 l.bytes) × Letters narrow ls
head_read l ls e = subst P e (head_elim narrow l P (λ r. tt) (λ ls f. (sym (head_letters narrow l ls f) ∙ behind_is l, f.1)))
  where
    P : HeadRead → Type 0
    P (letters ls) = (ls ≡ drop 1 l.bytes) × Letters narrow ls
    P (L.HeadRead.stops r) = Unit {0}

module _ (text : List ℕ) (end : ℕ) (E : Ends text 0 end) (h : 0 < length text) where
  book_head : compile_book narrow text ≡ after_head (read_head narrow (line_at text 0 end)) (λ ls. compile_lines narrow ls (lines_of (drop (suc end) text)) 2 (start_draft (length ls)))
  unfolding compile_book compile_text compile_head
  book_head = ap (compile_text narrow) (E.lines h)

  pub headed : (m : ℕ) (x : Result ℕ refused_line_of.Refusal) → read_head narrow (line_at text 0 end) ≡ head_of (line_at text 0 end).bytes x → x ≡ Ok m → length text ≤ 16384
      → Heads text (Ok (record { start = 1; end = end }))
  headed m x e q s =
      let f : read_head narrow (line_at text 0 end) ≡ letters (take m (drop 1 (line_at text 0 end).bytes)) = rw q at e in
      let (z, K) = head_read (line_at text 0 end) (take m (drop 1 (line_at text 0 end).bytes)) f in
      let g : read_head narrow (line_at text 0 end) ≡ letters (drop 1 (line_at text 0 end).bytes) = f ∙ ap letters z in
      let K' : Letters narrow (drop 1 (line_at text 0 end).bytes) = subst (Letters narrow) z K in
      let one : 1 ≤ end = some end K'.least in
      let y : drop 1 (line_at text 0 end).bytes ≡ take (end - 1) (drop 1 text) = behind_colon text end one in
      let H : Headed text (drop 1 (line_at text 0 end).bytes) (suc end) = record {
        is = book_head ∙ ap (λ r. after_head r (λ ls. lines_from narrow text ls (suc end))) g;
        placed = record { some = λ _. K'.least; few = K'.most; short = s; at = omega (arith, E.within) };
      } in
      record {
        says = record {
          headed = subst (λ n. Headed text (take (end - 1) (drop 1 text)) n) (sym (add-one end)) (subst (λ l. Headed text l (suc end)) y H);
          some = one;
          within = E.within;
        };
      }
    where
      some : (end : ℕ) → 1 ≤ length (drop 1 (take (end - 0) (drop 0 text))) → 1 ≤ end
      some zero h = absurd (omega arith)
      some (suc e) h = omega arith

  pub head_stops : (n : refused_line_of.Refusal) (x : Result ℕ refused_line_of.Refusal) → read_head narrow (line_at text 0 end) ≡ head_of (line_at text 0 end).bytes x → x ≡ Err n → Heads text (Err (record { reason = NotRead n; line = 1 }))
  head_stops n x e q =
      let f : read_head narrow (line_at text 0 end) ≡ L.HeadRead.stops (refusal_number n) = rw q at e in
      record { says = book_head ∙ ap (λ r. after_head r (λ ls. lines_from narrow text ls (suc end))) f }

-- ---- 1 and 2

-- the lent lengths pair by pair with the documented ones
pub all_enough : (needs lent : List ℕ) → length lent ≡ length needs → enough needs lent ≡ list_all (λ x. leb x.0 x.1) (zip needs lent)
all_enough [] [] e = refl
all_enough [] (l ∷ ls) e = absurd (omega arith)
all_enough (n ∷ ns) [] e = absurd (omega arith)
all_enough (n ∷ ns) (l ∷ ls) e = rw (all_enough ns ls (omega arith)) refl

module _ (text lent : List ℕ) where
  pub too_long : 16384 < length text → Opens text lent (Err TextTooLong)
  unfolding outcome
  too_long h = record { says = λ room. rw (lt_ltb 16384 (length text) h) }

  pub too_short : length text ≤ 16384 → enough documented lent ≡ false → Opens text lent (Err BufferTooShort)
  unfolding outcome
  too_short h e = record { says = λ room. rw (ltb_false 16384 (length text) h, e) }

  -- what line 1 says
  pub opens : (o : Opened) → length text ≤ 16384 → enough documented lent ≡ true → Heads text (Ok o) → Opens text lent (Ok o)
  opens o h e H = record { says = (h, e, H.says) }

  pub opens_not : (s : LineRefusal) → length text ≤ 16384 → enough documented lent ≡ true → Heads text (Err s) → Opens text lent (Err (OnLine s))
  unfolding outcome
  opens_not s h e H = let z : compile_book narrow text ≡ stopped (reason_number s.reason) s.line = H.says in record { says = λ room. rw (ltb_false 16384 (length text) h, e, z) }
