-- What bringing an operand into a slot asks, and what the slot then holds.
use Rattle.std.specs.Prelude.{◌≡◌, refl, cond, ◌⊎◌, ◌≢◌, List, ◌++◌, ℕ, suc, ◌+◌, ◌*◌, ◌-◌, ◌≤◌, ◌<◌, leb, length, get_or, take, drop}
use Rattle.std.proofs.Common.{sym, ap, ◌∙◌, subst, inl, inr, arith, length-drop, drop-cons, length-take-le, mul-le-mul_right, suc-mul, eq-eqb, ne_eqb, le-leb, add-one}
use Rattle.std.proofs.Math.Seq.{drop-length}
use Rattle.std.proofs.lemmas.Bool.{lt-leb}
use Rattle.automata.specs.Booleans.{choose}
use Rattle.automata.specs.Basics.{nat_test, find_le}
use Rattle.automata.specs.Machine.{Machine}
use Rattle.automata.specs.Given.{letter_machine, empty_machine, all_machine, dot_machine, mark_machine}
use Rattle.language.specs.Evaluate.{column}
use Rattle.slots.specs.Slot.{Slot, slot_machine, Holds, Written}
use Rattle.slots.specs.Aside.{Aside, part_at}
use Rattle.operands.specs.Stack.{needs, slot_at, fills, fills_most, slot_filled, slot_same}
use Rattle.codes.specs.Codes.{given_of, index_of, index_small}
use Rattle.operands.specs.declared.Layout.{Layout}
use Rattle.codes.specs.declared.Given as given
use Rattle.codes.specs.declared.Given.TheVariants.{Empty, All, Dot, Mark}
use Rattle.codes.specs.declared.Register as register
use Rattle.codes.specs.declared.Source.{Source}
use Rattle.codes.specs.declared.Source.TheVariants.{Letter, Name, Given, Register}

-- a slot long enough for a given machine over m letters and the mark
pub record Writable (most m : ℕ) (s : List ℕ) : Type 0 where
  pub states : 3 ≤ most
  pub letters : 1 ≤ m
  pub long : 2 + (most + 3 * (m + 1)) ≤ length s

-- the slot of a name: A to M in the first buffer, N to Z in the second
abbrev pub name_slot : ℕ → List ℕ → List ℕ → ℕ → List ℕ
name_slot size first second x = choose (leb x 77) (λ _. drop ((x - 65) * size) first) (λ _. drop ((x - 78) * size) second)

-- the machine of an operand, as the bytes hold it
abbrev pub operand_in : Layout → List ℕ → List ℕ → List ℕ → List ℕ → Source → Machine
operand_in l ls first second registers (Letter b) = letter_machine (length ls) (column ls b)
operand_in l ls first second registers (Name b) = slot_machine l.limits.states (suc (length ls)) (name_slot l.size first second b)
operand_in l ls first second registers (Given g) = given_of (length ls) g
operand_in l ls first second registers (Register i) = slot_at l.limits.states (suc (length ls)) l.size registers (index_of i)

-- The operand is in its place.
abbrev pub OperandReady : Layout → ℕ → List ℕ → List ℕ → List ℕ → Source → Type 0
OperandReady l k first second registers (Letter b) = Unit {0}
OperandReady l k first second registers (Name b) = (65 ≤ b) × (b ≤ 90) × Slot l.limits.states k (name_slot l.size first second b)
OperandReady l k first second registers (Given g) = Unit {0}
OperandReady l k first second registers (Register i) = Slot l.limits.states k (drop (index_of i * l.size) registers)

-- Slots are long enough, and so are the buffers of the names and the registers.
pub record Shelves (l : Layout) (m : ℕ) (first second registers : List ℕ) : Type 0 where
  pub states : 3 ≤ l.limits.states
  pub letters : 1 ≤ m
  pub slot : needs l.limits.states (suc m) ≤ l.size
  pub first_long : 13 * l.size ≤ length first
  pub second_long : 13 * l.size ≤ length second
  pub registers_long : 3 * l.size ≤ length registers

pub record Bringing (l : Layout) (ls first second registers stack : List ℕ) (i : ℕ) (x : Source) : Type 0 where
  pub shelves : Shelves l (length ls) first second registers
  pub room : i * l.size + l.size ≤ length stack
  pub ready : OperandReady l (suc (length ls)) first second registers x

pub record Brought (l : Layout) (ls first second registers s t : List ℕ) (i : ℕ) (x : Source) : Type 0 where
  pub holds : Holds l.limits.states (suc (length ls)) (drop (i * l.size) t) (operand_in l ls first second registers x)
  pub aside : Aside (i * l.size) l.size s t

-- ---- what is written

pub written_aside : {s t : List ℕ} {at len : ℕ} {f : ℕ → ℕ} → Written s t at len f → Aside at len s t
written_aside W = record { long = W.long; same = λ j h. W.there j h }

-- no more than so many entries
pub written_within : {s t : List ℕ} {at len : ℕ} {f : ℕ → ℕ} (size : ℕ) → len ≤ size → Written s t at len f → Aside at size s t
written_within {s} {t} {at} {len} size h W = record { long = W.long; same = λ j b. W.there j (out j b) }
  where
    out : (j : ℕ) → (j < at) ⊎ (at + size ≤ j) → (j < at) ⊎ (at + len ≤ j)
    out j (inl b) = inl b
    out j (inr b) = inr (omega arith)

-- A slot that is copied as far as its machine goes holds the same machine.
pub copied : {most k : ℕ} (src : List ℕ) (from : ℕ) (s t : List ℕ) (at : ℕ) → at + needs most k ≤ length s → Slot most k (drop from src)
    → Written s t at (fills most k (drop from src)) (λ i. get_or src (from + i) 0) → Holds most k (drop at t) (slot_machine most k (drop from src))
copied src from s t at l S W = slot_filled src t from at S (omega (arith, fills_most S, W.long)) (λ i b. W.here i b)

-- A slot that is written as a part holds what the part does.
pub lent : {most k : ℕ} {M : Machine} (ys s t : List ℕ) (at size : ℕ) → needs most k ≤ size → at + size ≤ length s → Holds most k ys M
    → Written s t at size (λ i. get_or ys i 0) → Holds most k (drop at t) M
lent {most} {k} {M} ys s t at size h l H W =
    let r = slot_same ys t 0 at H.slot (omega (arith, W.long)) (λ i b. W.here i (omega arith) ∙ ap (λ j. get_or ys j 0) (zero_add i)) in
    record { slot = r.slot; machine = r.machine ∙ H.machine }
  where
    zero_add : (i : ℕ) → i ≡ 0 + i
    zero_add i = omega arith

-- ---- each source

module _ {l : Layout} {ls first second registers s : List ℕ} {i : ℕ} {x : Source} (B : Bringing l ls first second registers s i x) where
  abbrev k : ℕ
  k = suc (length ls)

  abbrev at : ℕ
  at = i * l.size

  -- the slot as a part of the stack
  abbrev part : List ℕ → List ℕ
  part ys = take at s ++ (ys ++ drop (at + l.size - at) (drop at s))

  few : 3 * (length ls + 1) ≤ l.limits.states * suc (length ls)
  few = rw (add-one (length ls)) (mul-le-mul_right {m = 3} {n = l.limits.states} (suc (length ls)) B.shelves.states)

  pub part_long : 2 + (l.limits.states + 3 * (length ls + 1)) ≤ length (take (at + l.size - at) (drop at s))
  part_long =
      let z : at + l.size - at ≡ l.size = omega arith in
      let w : length (take l.size (drop at s)) ≡ l.size = length-take-le l.size (drop at s) (omega (arith, length-drop at s, B.room)) in
      rw z (omega (arith, few, B.shelves.slot))

  pub part_writable : Writable l.limits.states (length ls) (take (at + l.size - at) (drop at s))
  part_writable = record { states = B.shelves.states; letters = B.shelves.letters; long = part_long }

  from_part : (ys : List ℕ) → length ys ≡ length (take (at + l.size - at) (drop at s)) → Holds l.limits.states k ys (operand_in l ls first second registers x) → Brought l ls first second registers s (part ys) i x
  from_part ys h H =
      let W = part_at at (at + l.size) l.size s ys refl B.room h in
      record { holds = lent ys s (part ys) at l.size B.shelves.slot B.room H W; aside = written_aside W }

  pub brought_letter : (b c : ℕ) (ys : List ℕ) → x ≡ Letter b → c ≡ column ls b → length ys ≡ length (take (at + l.size - at) (drop at s)) → Holds l.limits.states k ys (letter_machine (length ls) c)
      → Brought l ls first second registers s (part ys) i x
  brought_letter b c ys e q h H =
      from_part ys h (subst (λ x. Holds l.limits.states k ys (operand_in l ls first second registers x)) (sym e) (subst (λ c. Holds l.limits.states k ys (letter_machine (length ls) c)) q H))

  pub brought_given : (g : given.Given) (ys : List ℕ) → x ≡ Given g → length ys ≡ length (take (at + l.size - at) (drop at s)) → Holds l.limits.states k ys (given_of (length ls) g)
      → Brought l ls first second registers s (part ys) i x
  brought_given g ys e h H = from_part ys h (subst (λ x. Holds l.limits.states k ys (operand_in l ls first second registers x)) (sym e) H)

  -- the columns are counted
  pub columns_fit : length ls + 1 ≤ length s
  columns_fit = omega (arith, few, B.shelves.slot, B.room)

  slot_fits : at + needs l.limits.states k ≤ length s
  slot_fits = omega (arith, B.room, B.shelves.slot)

  -- what copying from a slot elsewhere asks
  copy_asks : (src : List ℕ) (from : ℕ) → Slot l.limits.states k (drop from src) → Slot l.limits.states (length ls + 1) (drop from src) × (at + needs l.limits.states (length ls + 1) ≤ length s)
  copy_asks src from S = rw (add-one (length ls)) (S, slot_fits)

  -- and what it leaves
  from_slot : (src : List ℕ) (from : ℕ) (t : List ℕ) → Slot l.limits.states k (drop from src) → slot_machine l.limits.states k (drop from src) ≡ operand_in l ls first second registers x
      → Written s t at (fills l.limits.states (length ls + 1) (drop from src)) (λ j. get_or src (from + j) 0) → Brought l ls first second registers s t i x
  from_slot src from t S e W' =
      let W : Written s t at (fills l.limits.states k (drop from src)) (λ j. get_or src (from + j) 0) = rw (add-one (length ls)) at W' in
      let H = copied src from s t at slot_fits S W in
      record { holds = record { slot = H.slot; machine = H.machine ∙ e }; aside = written_within l.size (omega (arith, fills_most S, B.shelves.slot)) W }

  name_ready : (b : ℕ) → x ≡ Name b → (65 ≤ b) × (b ≤ 90) × Slot l.limits.states k (name_slot l.size first second b)
  name_ready b e = subst (OperandReady l k first second registers) e B.ready

  pub low_room : (b : ℕ) → x ≡ Name b → b ≤ 77 → (65 ≤ b) × ((b - 65) * l.size + l.size ≤ length first)
  low_room b e h =
      let r = (name_ready b e).0 in
      (r, omega (arith, mul-le-mul_right {m = suc (b - 65)} {n = 13} l.size (omega arith), suc-mul (b - 65) l.size, B.shelves.first_long))

  pub high_room : (b : ℕ) → x ≡ Name b → 77 < b → (78 ≤ b) × ((b - 78) * l.size + l.size ≤ length second)
  high_room b e h =
      let r = (name_ready b e).1 in
      (h, omega (arith, mul-le-mul_right {m = suc (b - 78)} {n = 13} l.size (omega arith), suc-mul (b - 78) l.size, B.shelves.second_long))

  low_slot : (b : ℕ) → x ≡ Name b → b ≤ 77 → Slot l.limits.states k (drop ((b - 65) * l.size) first)
  low_slot b e h = subst (λ z. Slot l.limits.states k (choose z (λ _. drop ((b - 65) * l.size) first) (λ _. drop ((b - 78) * l.size) second))) (le-leb b 77 h) (name_ready b e).2

  high_slot : (b : ℕ) → x ≡ Name b → 77 < b → Slot l.limits.states k (drop ((b - 78) * l.size) second)
  high_slot b e h = subst (λ z. Slot l.limits.states k (choose z (λ _. drop ((b - 65) * l.size) first) (λ _. drop ((b - 78) * l.size) second))) (lt-leb b 77 h) (name_ready b e).2

  pub low_asks : (b : ℕ) → x ≡ Name b → b ≤ 77 → Slot l.limits.states (length ls + 1) (drop ((b - 65) * l.size) first) × (at + needs l.limits.states (length ls + 1) ≤ length s)
  low_asks b e h = copy_asks first ((b - 65) * l.size) (low_slot b e h)

  pub high_asks : (b : ℕ) → x ≡ Name b → 77 < b → Slot l.limits.states (length ls + 1) (drop ((b - 78) * l.size) second) × (at + needs l.limits.states (length ls + 1) ≤ length s)
  high_asks b e h = copy_asks second ((b - 78) * l.size) (high_slot b e h)

  pub brought_low : (b : ℕ) (t : List ℕ) → x ≡ Name b → b ≤ 77
      → Written s t at (fills l.limits.states (length ls + 1) (drop ((b - 65) * l.size) first)) (λ j. get_or first ((b - 65) * l.size + j) 0) → Brought l ls first second registers s t i x
  brought_low b t e h W =
      from_slot first ((b - 65) * l.size) t (low_slot b e h)
      (ap (λ z. slot_machine l.limits.states k (choose z (λ _. drop ((b - 65) * l.size) first) (λ _. drop ((b - 78) * l.size) second))) (sym (le-leb b 77 h)) ∙ ap (operand_in l ls first second registers) (sym e)) W

  pub brought_high : (b : ℕ) (t : List ℕ) → x ≡ Name b → 77 < b
      → Written s t at (fills l.limits.states (length ls + 1) (drop ((b - 78) * l.size) second)) (λ j. get_or second ((b - 78) * l.size + j) 0) → Brought l ls first second registers s t i x
  brought_high b t e h W =
      from_slot second ((b - 78) * l.size) t (high_slot b e h)
      (ap (λ z. slot_machine l.limits.states k (choose z (λ _. drop ((b - 65) * l.size) first) (λ _. drop ((b - 78) * l.size) second))) (sym (lt-leb b 77 h)) ∙ ap (operand_in l ls first second registers) (sym e)) W

  register_ready : (j : register.Register) → x ≡ Register j → Slot l.limits.states k (drop (index_of j * l.size) registers)
  register_ready j e = subst (OperandReady l k first second registers) e B.ready

  pub register_room : (j : register.Register) (n : ℕ) → n ≡ index_of j → n * l.size + l.size ≤ length registers
  register_room j n q = rw q (omega (arith, mul-le-mul_right {m = suc (index_of j)} {n = 3} l.size (index_small j), suc-mul (index_of j) l.size, B.shelves.registers_long))

  pub register_asks : (j : register.Register) (n : ℕ) → n ≡ index_of j → x ≡ Register j → Slot l.limits.states (length ls + 1) (drop (n * l.size) registers) × (at + needs l.limits.states (length ls + 1) ≤ length s)
  register_asks j n q e = rw q (copy_asks registers (index_of j * l.size) (register_ready j e))

  pub brought_register : (j : register.Register) (n : ℕ) → n ≡ index_of j → (t : List ℕ) → x ≡ Register j
      → Written s t at (fills l.limits.states (length ls + 1) (drop (n * l.size) registers)) (λ i. get_or registers (n * l.size + i) 0) → Brought l ls first second registers s t i x
  brought_register j n q t e W = from_slot registers (index_of j * l.size) t (register_ready j e) (ap (operand_in l ls first second registers) (sym e)) (rw q at W)

-- ---- the place of a letter, looked for from the front

pub column_most : (ls : List ℕ) (b c : ℕ) → c ≡ column ls b → c ≤ length ls
column_most ls b c e = omega (arith, find_le nat_test b ls)

-- Not among the first i letters.
pub record Passed (ls : List ℕ) (b i : ℕ) : Type 0 where
  pub inside : i ≤ length ls
  pub rest : i + column (drop i ls) b ≡ column ls b

pub passed_none : (ls : List ℕ) (b : ℕ) → Passed ls b 0
passed_none ls b = record { inside = omega arith; rest = zero_plus (column ls b) }
  where
    zero_plus : (n : ℕ) → 0 + n ≡ n
    zero_plus n = omega arith

pub passed_here : {ls : List ℕ} {b i : ℕ} → Passed ls b i → i < length ls → get_or ls i 0 ≡ b → i ≡ column ls b
passed_here {ls} {b} {i} P h e =
    let z : column (drop i ls) b ≡ 0 = ap (λ l. column l b) (drop-cons ls i 0 h) ∙ ap (λ t. cond t 0 (suc (column (drop (suc i) ls) b))) (eq-eqb b (get_or ls i 0) (sym e)) in
    omega (arith, P.rest)

pub passed_more : {ls : List ℕ} {b i : ℕ} → Passed ls b i → i < length ls → get_or ls i 0 ≢ b → Passed ls b (i + 1)
passed_more {ls} {b} {i} P h e =
    let z : column (drop i ls) b ≡ suc (column (drop (i + 1) ls) b) = ap (λ l. column l b) (drop-cons ls i 0 h)
    ∙ ap (λ t. cond t 0 (suc (column (drop (suc i) ls) b))) (ne_eqb b (get_or ls i 0) (λ q. e (sym q))) ∙ ap (λ j. suc (column (drop j ls) b)) (sym (add-one i)) in
    record { inside = omega arith; rest = omega (arith, P.rest) }

pub passed_all : {ls : List ℕ} {b i : ℕ} → Passed ls b i → length ls ≤ i → i ≡ column ls b
passed_all {ls} {b} {i} P h =
    let z : column (drop i ls) b ≡ 0 = ap (λ l. column l b) (ap (λ n. drop n ls) (the_end h) ∙ drop-length ls) in
    omega (arith, P.rest)
  where
    the_end : length ls ≤ i → i ≡ length ls
    the_end h = omega (arith, P.inside)

-- ---- given machines by their names

module _ {most m : ℕ} {s : List ℕ} (g : given.Given) where
  named : (n : given.Given) → g ≡ n → Holds most (suc m) s (given_of m n) → Holds most (suc m) s (given_of m g)
  named n e h = subst (λ n. Holds most (suc m) s (given_of m n)) (sym e) h

  pub given_empty : g ≡ Empty → Holds most (suc m) s (empty_machine m) → Holds most (suc m) s (given_of m g)
  given_empty e h = named Empty e h

  pub given_all : g ≡ All → Holds most (suc m) s (all_machine m) → Holds most (suc m) s (given_of m g)
  given_all e h = named All e h

  pub given_dot : g ≡ Dot → Holds most (suc m) s (dot_machine m) → Holds most (suc m) s (given_of m g)
  given_dot e h = named Dot e h

pub given_mark : {most m : ℕ} {s : List ℕ} (g : given.Given) → g ≢ Empty → g ≢ All → g ≢ Dot → Holds most (suc m) s (mark_machine m) → Holds most (suc m) s (given_of m g)
given_mark Empty a b c h = absurd (a refl)
given_mark All a b c h = absurd (b refl)
given_mark Dot a b c h = absurd (c refl)
given_mark Mark a b c h = h
