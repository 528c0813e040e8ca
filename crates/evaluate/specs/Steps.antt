-- One code over the lent buffers: its step on the machines that the slots hold.
use Rattle.std.specs.Prelude.{◌≡◌, refl, Bool, true, false, ◌⊎◌, List, [], ◌∷◌, Option, None, Some, Result, Ok, Err, ℕ, zero, suc, ◌+◌, ◌*◌, ◌-◌, ◌≤◌, ◌<◌, length, get_or, drop}
use Rattle.std.proofs.Common.{sym, ap, ap₂, ◌∙◌, subst, inl, inr, mul-le-mul_right, suc-mul, add-one, arith}
use Rattle.automata.specs.Booleans.{choose}
use Rattle.automata.specs.Basics.{LtCases, lt_cases}
use Rattle.automata.specs.Machine.{Machine}
use Rattle.automata.specs.Stage.{Made, then_made}
use Rattle.automata.specs.Stages.{star_stage, concat_stage}
use Rattle.automata.specs.Given.{empty_machine}
use Rattle.language.specs.Environment.{lookup}
use Rattle.book.specs.Kind.{is_name}
use Rattle.book.specs.StackLaws.{height_after, height_while, besides}
use Rattle.sets.specs.Operations.{operation_of, operands_of}
use Rattle.sets.specs.declared.Operation.{Operation as Code}
use Rattle.sets.specs.declared.Operation.TheVariants.{Either, Both, Without, Join, Star, Erase}
use Rattle.slots.specs.Slot.{Slot, slot_machine, Holds, Written}
use Rattle.slots.specs.Aside.{Aside}
use Rattle.answers.specs.Operate.{operate}
use Rattle.codes.specs.Execute.{Store, Ran, ran, failed, stuck, push_made, with_one, with_two, step}
use Rattle.operands.specs.Stack.{needs, slot_at, Slots, machines, fills, fills_most, slot_same, slots_below, slots_less, slots_more, machines_below}
use Rattle.codes.specs.Codes.{operand_of, stored, on_top, SourceIn, Sorted, index_of, index_small}
use Rattle.codes.specs.declared.Register as register
use Rattle.codes.specs.declared.Register.TheVariants.{Book, Pattern, Right}
use Rattle.operands.specs.Operand.{name_slot, operand_in, OperandReady, Shelves, Bringing, Brought, copied, written_within}
use Rattle.answers.specs.Refusal.{refusal_of as refused_number}
use Rattle.operations.specs.Apply.{format_of, greatest, tallest, Lent, slot_room, Applying, Makes, Doubling, Besides, aside_below}
use Rattle.answers.specs.declared.Scratch.{Scratch}
use Rattle.operands.specs.declared.Layout.{Layout}
use Rattle.codes.specs.declared.Source.{Source}
use Rattle.codes.specs.declared.Source.TheVariants.{Letter, Name, Given, Register}
use Rattle.codes.specs.declared.Sort.{Sort}
use Rattle.codes.specs.declared.Sort.TheVariants.{Push, Top, Beside, Plus, Store as Storing}
use Rattle.answers.specs.declared.TooMany as refusals
use Rattle.evaluate.specs.declared.run.Stepped.{Stepped}
use Rattle.evaluate.specs.declared.run.Failure.{Failure}
use Rattle.evaluate.specs.declared.run.Failure.TheVariants.{TooMany, Stuck}

-- why a program makes no machine, by the refusals' numbers
abbrev pub number_of : Failure → ℕ
number_of (TooMany e) = refused_number e
number_of Stuck = 0

-- the stack of sp machines and the registers, as the bytes hold them
abbrev pub store_of : Layout → ℕ → ℕ → List ℕ → List ℕ → Store
store_of l m sp stack registers = record {
  stack = machines l.limits.states (suc m) l.size stack sp;
  pattern = slot_at l.limits.states (suc m) l.size registers 1;
  right = slot_at l.limits.states (suc m) l.size registers 2;
}

-- the book so far
abbrev pub book_in : Layout → ℕ → List ℕ → Machine
book_in l m registers = slot_at l.limits.states (suc m) l.size registers 0

-- What an answer says of a run: the counts with their greatest, and what is then stored; or the refusal; or that it is stuck.
abbrev pub Gives : Layout → ℕ → List ℕ → List ℕ → Result Stepped Failure → Ran → Type 0
Gives l m registers stack (Ok r) X = (counts : List ℕ) × (greatest counts ≡ r.sets) × (X ≡ ran counts (store_of l m r.height stack registers))
Gives l m registers stack (Err (TooMany e)) X = X ≡ failed (refused_number e)
Gives l m registers stack (Err Stuck) X = X ≡ stuck

-- A code's answer by that of its stages, where the stack then has the height h.
abbrev pub stepped : ℕ → Result ℕ refusals.TooMany → Result Stepped Failure
stepped h (Ok n) = Ok (record { height = h; sets = n })
stepped h (Err e) = Err (TooMany e)

-- The height behind it, and the slots below it.
abbrev pub Stands : Layout → ℕ → List ℕ → Result Stepped Failure → ℕ → Type 0
Stands l m stack (Ok r) after = (r.height ≡ after) × Slots l.limits.states (suc m) l.size r.height stack
Stands l m stack (Err e) after = Unit {0}

-- The registers hold machines, and the book so far is the same.
pub record Shelved (l : Layout) (m : ℕ) (before registers : List ℕ) : Type 0 where
  pub held : Slots l.limits.states (suc m) l.size 3 registers
  pub book : book_in l m registers ≡ book_in l m before
  pub long : length registers ≡ length before

-- A name's slot holds what the name stands for.
abbrev pub Stood : Layout → ℕ → List ℕ → List ℕ → List (ℕ × Machine) → ℕ → Type 0
Stood l m first second env c = is_name c ≡ true → slot_machine l.limits.states (suc m) (name_slot l.size first second c) ≡ lookup c (empty_machine m) env

pub record Stepping (l : Layout) (ls first second registers : List ℕ) (c sp : ℕ) (stack : List ℕ) (scratch : Scratch) : Type 0 where
  pub shelves : Shelves l (length ls) first second registers
  pub lent : Lent l (length ls) stack scratch
  pub slots : Slots l.limits.states (suc (length ls)) l.size sp stack
  pub held : Slots l.limits.states (suc (length ls)) l.size 3 registers
  pub meanwhile : height_while c sp ≤ tallest
  pub behind : height_after c sp ≤ tallest
  pub name : is_name c ≡ true → Slot l.limits.states (suc (length ls)) (name_slot l.size first second c)

pub record Steps (l : Layout) (ls first second : List ℕ) (c sp : ℕ) (registers₀ stack₀ registers stack : List ℕ) (r : Result Stepped Failure) : Type 0 where
  pub gives : (env : List (ℕ × Machine)) → Stood l (length ls) first second env c
      → Gives l (length ls) registers stack r (step (format_of l) ls env (book_in l (length ls) registers₀) (store_of l (length ls) sp stack₀ registers₀) c)
  pub stands : Stands l (length ls) stack r (height_after c sp)
  pub shelved : Shelved l (length ls) registers₀ registers
  pub long : length stack ≡ length stack₀

-- ---- operands

module _ {l : Layout} {ls first second registers : List ℕ} {c sp : ℕ} {stack : List ℕ} {scratch : Scratch} (S : Stepping l ls first second registers c sp stack scratch) where
  abbrev m : ℕ
  m = length ls

  abbrev k : ℕ
  k = suc m

  abbrev s : Store
  s = store_of l m sp stack registers

  -- the operand of the code lies ready
  pub operand_ready : (x : Source) → SourceIn c x → OperandReady l k first second registers x
  operand_ready (Letter b) h = tt
  operand_ready (Name b) (e, n, a, z) = subst (λ b. (65 ≤ b) × (b ≤ 90) × Slot l.limits.states k (name_slot l.size first second b)) (sym e) (a, z, S.name n)
  operand_ready (Given g) h = tt
  operand_ready (Register i) h = S.held.held (index_of i) (index_small i)

  -- and is the machine that the definitions say
  operand_same : (x : Source) → SourceIn c x → (env : List (ℕ × Machine)) → Stood l m first second env c → operand_in l ls first second registers x ≡ operand_of ls env (book_in l m registers) s x
  operand_same (Letter b) h env N = refl
  operand_same (Name b) (e, n, a, z) env N = subst (λ b. slot_machine l.limits.states k (name_slot l.size first second b) ≡ lookup b (empty_machine m) env) (sym e) (N n)
  operand_same (Given g) h env N = refl
  operand_same (Register Book) h env N = refl
  operand_same (Register Pattern) h env N = refl
  operand_same (Register Right) h env N = refl

  unchanged : Shelved l m registers registers
  unchanged = record { held = S.held; book = refl; long = refl }

  -- ---- what is made becomes the top

  module _ (left : ℕ) (X : Made) (low : left < tallest) (inside : left ≤ sp) (height : height_after c sp ≡ suc left)
      (is : (env : List (ℕ × Machine)) → Stood l m first second env c → step (format_of l) ls env (book_in l m registers) s c ≡ push_made s (machines l.limits.states k l.size stack left) X) where
    room : left * l.size ≤ length stack
    room = omega (arith, slot_room S.lent left low)

    below : Slots l.limits.states k l.size left stack
    below = slots_less left inside S.slots

    pub made_steps : {t : List ℕ} (h : ℕ) → h ≡ suc left → (q : Result ℕ refusals.TooMany) → Makes l m left stack t q X → Steps l ls first second c sp registers stack registers t (stepped h q)
    made_steps {t} h a (Ok n) M =
        let (counts, g, e, T) = M.answer in
        let z = machines_below l.size left stack t S.lent.slot room M.below below in
        record {
          gives = λ env N. (
            counts,
            g,
            is env N ∙ ap (push_made s (machines l.limits.states k l.size stack left)) e
                ∙ ap (λ ms. ran counts (record { stack = slot_at l.limits.states k l.size t left ∷ ms; pattern = s.pattern; right = s.right })) (sym z)
                ∙ ap (λ h. ran counts (store_of l m h t registers)) (sym a),
          );
          stands = (a ∙ sym height, subst (λ h. Slots l.limits.states k l.size h t) (sym a) (slots_more (slots_below l.size left stack t S.lent.slot room M.below below) T));
          shelved = unchanged;
          long = M.below.long;
        }
    made_steps {t} h a (Err e) M = record { gives = λ env N. is env N ∙ ap (push_made s (machines l.limits.states k l.size stack left)) M.answer; stands = tt; shelved = unchanged; long = M.below.long }

  stuck_steps : ((env : List (ℕ × Machine)) → Stood l m first second env c → step (format_of l) ls env (book_in l m registers) s c ≡ stuck) → Steps l ls first second c sp registers stack registers stack (Err Stuck)
  stuck_steps e = record { gives = e; stands = tt; shelved = unchanged; long = refl }

  -- the topmost machines
  one_top : (n : ℕ) → 1 ≤ n → machines l.limits.states k l.size stack n ≡ slot_at l.limits.states k l.size stack (n - 1) ∷ machines l.limits.states k l.size stack (n - 1)
  one_top zero h = absurd (omega arith)
  one_top (suc n) h = let z : n ≡ suc n - 1 = omega arith in ap (λ i. slot_at l.limits.states k l.size stack i ∷ machines l.limits.states k l.size stack i) z

  two_tops : 2 ≤ sp → machines l.limits.states k l.size stack sp
      ≡ slot_at l.limits.states k l.size stack (sp - 1) ∷ slot_at l.limits.states k l.size stack (sp - 2) ∷ machines l.limits.states k l.size stack (sp - 2)
  two_tops h =
      let z : sp - 1 - 1 ≡ sp - 2 = omega arith in
      one_top sp (omega arith) ∙ ap (λ ms. slot_at l.limits.states k l.size stack (sp - 1) ∷ ms) (one_top (sp - 1) (omega arith))
      ∙ ap (λ i. slot_at l.limits.states k l.size stack (sp - 1) ∷ slot_at l.limits.states k l.size stack i ∷ machines l.limits.states k l.size stack i) z

  none_top : sp < 1 → machines l.limits.states k l.size stack sp ≡ []
  none_top h = let z : sp ≡ 0 = omega arith in ap (machines l.limits.states k l.size stack) z

  -- the stack is no taller than its room
  pub tall : sp ≤ tallest
  tall = go (besides c) S.meanwhile
    where
      go : (t : Bool) → choose t (λ _. suc sp) (λ _. sp) ≤ tallest → sp ≤ tallest
      go true h = omega arith
      go false h = h

  top_slot : 1 ≤ sp → Slot l.limits.states k (drop ((sp - 1) * l.size) stack)
  top_slot h = S.slots.held (sp - 1) (omega arith)

  module _ {r : Option Sort} (D : Sorted c r) where
    -- ---- a push

    pub push_bring : (x : Source) → r ≡ Some (Push x) → Bringing l ls first second registers stack sp x
    push_bring x e =
        let E : Sorted c (Some (Push x)) = subst (Sorted c) e D in
        record { shelves = S.shelves; room = slot_room S.lent sp (omega (arith, S.behind, E.behind sp)); ready = operand_ready x E.operand }

    pub push_steps : (x : Source) → r ≡ Some (Push x) → {t : List ℕ} → Brought l ls first second registers stack t sp x → Steps l ls first second c sp registers stack registers t (Ok (record { height = sp + 1; sets = 0 }))
    push_steps x e {t} B =
        let E : Sorted c (Some (Push x)) = subst (Sorted c) e D in
        let room : sp * l.size ≤ length stack = omega (arith, slot_room S.lent sp (omega (arith, S.behind, E.behind sp))) in
        record {
          gives = λ env N. (
            [],
            refl,
            E.steps (format_of l) ls env (book_in l m registers) s
                ∙ ap₂ (λ M ms. ran [] (record { stack = M ∷ ms; pattern = s.pattern; right = s.right })) (sym (operand_same x E.operand env N) ∙ sym B.holds.machine) (sym (machines_below l.size sp stack t S.lent.slot room (aside_below B.aside) S.slots))
                ∙ ap (λ h. ran [] (store_of l m h t registers)) (sym (add-one sp)),
          );
          stands = (add-one sp ∙ sym (E.behind sp), subst (λ h. Slots l.limits.states k l.size h t) (sym (add-one sp)) (slots_more (slots_below l.size sp stack t S.lent.slot room (aside_below B.aside) S.slots) B.holds.slot));
          shelved = unchanged;
          long = B.aside.long;
        }

    -- ---- an operation on the topmost machines

    pub top_low : (op : Code) → (1 ≤ operands_of op) × (operands_of op ≤ 2)
    top_low Either = (omega arith, omega arith)
    top_low Both = (omega arith, omega arith)
    top_low Without = (omega arith, omega arith)
    top_low Join = (omega arith, omega arith)
    top_low Star = (omega arith, omega arith)
    top_low Erase = (omega arith, omega arith)

    pub top_stuck : (op : Code) (n : ℕ) → n ≡ operands_of op → r ≡ Some (Top op) → sp < n → Steps l ls first second c sp registers stack registers stack (Err Stuck)
    top_stuck op n w e h = stuck_steps (λ env N. (subst (Sorted c) e D).steps (format_of l) ls env (book_in l m registers) s ∙ ap (on_top (format_of l) ls s op) (sym w) ∙ go n sp h (rw w (top_low op)))
      where
        go : (n sp : ℕ) → sp < n → (1 ≤ n) × (n ≤ 2) → on_top (format_of l) ls (store_of l m sp stack registers) op n ≡ stuck
        go zero sp h w = absurd (omega arith)
        go (suc zero) zero h w = refl
        go (suc zero) (suc sp) h w = absurd (omega arith)
        go (suc (suc n)) zero h w = refl
        go (suc (suc n)) (suc zero) h w = refl
        go (suc (suc n)) (suc (suc sp)) h w = absurd (omega (arith, w.1))

    pub top_apply : (op : Code) (n : ℕ) → n ≡ operands_of op → n ≤ sp → Applying l m (sp - n) (sp - 1) stack scratch
    top_apply op n w h =
        let (a, b) = top_low op in
        record {
          lent = S.lent;
          low = omega (arith, tall);
          high = omega (arith, tall);
          left_slot = S.slots.held (sp - n) (omega arith);
          right_slot = top_slot (omega arith);
        }

    pub top_steps : (op : Code) (n : ℕ) → n ≡ operands_of op → r ≡ Some (Top op) → n ≤ sp → {t : List ℕ} (h' : ℕ) → h' ≡ sp - n + 1 → {q : Result ℕ refusals.TooMany}
        → Makes l m (sp - n) stack t q (operate (format_of l) m (operation_of op) (slot_at l.limits.states k l.size stack (sp - n)) (slot_at l.limits.states k l.size stack (sp - 1)))
        → Steps l ls first second c sp registers stack registers t (stepped h' q)
    top_steps op n w e h {t} h' i {q} M =
        let (a, b) = top_low op in
        let E : Sorted c (Some (Top op)) = subst (Sorted c) e D in
        made_steps (sp - n) (operate (format_of l) m (operation_of op) (slot_at l.limits.states k l.size stack (sp - n)) (slot_at l.limits.states k l.size stack (sp - 1)))
        (omega (arith, tall)) (omega arith) (omega (arith, E.behind sp))
        (λ env N. E.steps (format_of l) ls env (book_in l m registers) s ∙ ap (on_top (format_of l) ls s op) (sym w) ∙ go n h (rw w (top_low op))) h' (i ∙ add-one (sp - n)) q M
      where
        go : (n : ℕ) → n ≤ sp → (1 ≤ n) × (n ≤ 2) → on_top (format_of l) ls s op n
            ≡ push_made s (machines l.limits.states k l.size stack (sp - n)) (operate (format_of l) m (operation_of op) (slot_at l.limits.states k l.size stack (sp - n)) (slot_at l.limits.states k l.size stack (sp - 1)))
        go zero h w = absurd (omega (arith, w.0))
        go (suc zero) h w = ap (λ ms. with_one ms λ A rest. push_made s rest (operate (format_of l) m (operation_of op) A A)) (one_top sp h)
        go (suc (suc zero)) h w = ap (λ ms. with_two ms λ A B rest. push_made s rest (operate (format_of l) m (operation_of op) A B)) (two_tops h)
        go (suc (suc (suc n))) h w = absurd (omega (arith, w.1))

    -- ---- an operation with a machine beside the top

    beside_low : (op : Code) (x : Source) → r ≡ Some (Beside op x) → sp < tallest
    beside_low op x e = omega (arith, S.meanwhile, (subst (Sorted c) e D).meanwhile sp)

    pub beside_stuck : (op : Code) (x : Source) → r ≡ Some (Beside op x) → sp < 1 → Steps l ls first second c sp registers stack registers stack (Err Stuck)
    beside_stuck op x e h = stuck_steps (λ env N. (subst (Sorted c) e D).steps (format_of l) ls env (book_in l m registers) s
        ∙ ap (λ ms. with_one ms λ A rest. push_made s rest (operate (format_of l) m (operation_of op) (operand_of ls env (book_in l m registers) s x) A)) (none_top h))

    doubling : sp < tallest → 1 ≤ sp → Doubling l m (sp - 1) stack scratch
    doubling a h = record { lent = S.lent; low = omega arith; slot = top_slot h }

    pub beside_ready : (op : Code) (x : Source) → r ≡ Some (Beside op x) → 1 ≤ sp → Besides l ls first second registers x (sp - 1) stack scratch
    beside_ready op x e h = record { doubling = doubling (beside_low op x e) h; shelves = S.shelves; ready = operand_ready x (subst (Sorted c) e D).operand }

    pub beside_steps : (op : Code) (x : Source) → r ≡ Some (Beside op x) → 1 ≤ sp → {t : List ℕ} {q : Result ℕ refusals.TooMany}
        → Makes l m (sp - 1) stack t q (operate (format_of l) m (operation_of op) (operand_in l ls first second registers x) (slot_at l.limits.states k l.size stack (sp - 1)))
        → Steps l ls first second c sp registers stack registers t (stepped sp q)
    beside_steps op x e h {t} {q} M =
        let E : Sorted c (Some (Beside op x)) = subst (Sorted c) e D in
        made_steps (sp - 1) (operate (format_of l) m (operation_of op) (operand_in l ls first second registers x) (slot_at l.limits.states k l.size stack (sp - 1)))
        (omega (arith, tall)) (omega arith) (omega (arith, E.behind sp)) (λ env N. E.steps (format_of l) ls env (book_in l m registers) s
        ∙ ap (λ ms. with_one ms λ A rest. push_made s rest (operate (format_of l) m (operation_of op) (operand_of ls env (book_in l m registers) s x) A)) (one_top sp h)
        ∙ ap (λ Y. push_made s (machines l.limits.states k l.size stack (sp - 1)) (operate (format_of l) m (operation_of op) Y (slot_at l.limits.states k l.size stack (sp - 1)))) (sym (operand_same x E.operand env N))) sp (omega arith) q M

    abbrev star_join : Machine → Made
    star_join A = then_made (star_stage (format_of l) k A) λ B. concat_stage (format_of l) k A B

    pub plus_stuck : r ≡ Some Plus → sp < 1 → Steps l ls first second c sp registers stack registers stack (Err Stuck)
    plus_stuck e h = stuck_steps (λ env N. (subst (Sorted c) e D).steps (format_of l) ls env (book_in l m registers) s ∙ ap (λ ms. with_one ms λ A rest. push_made s rest (star_join A)) (none_top h))

    pub plus_ready : r ≡ Some Plus → 1 ≤ sp → Doubling l m (sp - 1) stack scratch
    plus_ready e h = doubling (omega (arith, S.meanwhile, (subst (Sorted c) e D).meanwhile sp)) h

    pub plus_steps : r ≡ Some Plus → 1 ≤ sp → {t : List ℕ} {q : Result ℕ refusals.TooMany} → Makes l m (sp - 1) stack t q (star_join (slot_at l.limits.states k l.size stack (sp - 1)))
        → Steps l ls first second c sp registers stack registers t (stepped sp q)
    plus_steps e h {t} {q} M =
        let E : Sorted c (Some Plus) = subst (Sorted c) e D in
        made_steps (sp - 1) (star_join (slot_at l.limits.states k l.size stack (sp - 1))) (omega (arith, tall)) (omega arith) (omega (arith, E.behind sp))
        (λ env N. E.steps (format_of l) ls env (book_in l m registers) s ∙ ap (λ ms. with_one ms λ A rest. push_made s rest (star_join A)) (one_top sp h)) sp (omega arith) q M

    pub unknown_steps : r ≡ None → Steps l ls first second c sp registers stack registers stack (Err Stuck)
    unknown_steps e = stuck_steps (λ env N. (subst (Sorted c) e D).steps (format_of l) ls env (book_in l m registers) s)

    -- ---- the top stored

    pub store_stuck : (i : register.Register) → r ≡ Some (Storing i) → sp < 1 → Steps l ls first second c sp registers stack registers stack (Err Stuck)
    store_stuck i e h = stuck_steps (λ env N. (subst (Sorted c) e D).steps (format_of l) ls env (book_in l m registers) s ∙ ap (λ ms. with_one ms λ A rest. ran [] (stored s i A rest)) (none_top h))

    store_in : (i : register.Register) → r ≡ Some (Storing i) → 1 ≤ index_of i
    store_in i e = (subst (Sorted c) e D).operand

    pub store_from : 1 ≤ sp → (sp - 1) * l.size + l.size ≤ length stack
    store_from h = slot_room S.lent (sp - 1) (omega (arith, tall))

    register_ends : (i : ℕ) → i < 3 → i * l.size + l.size ≤ length registers
    register_ends i h = omega (arith, mul-le-mul_right {m = suc i} {n = 3} l.size h, suc-mul i l.size, S.shelves.registers_long)

    pub store_to : (i : register.Register) (n : ℕ) → n ≡ index_of i → n * l.size + l.size ≤ length registers
    store_to i n q = rw q (register_ends (index_of i) (index_small i))

    register_fits : (i : register.Register) → index_of i * l.size + needs l.limits.states k ≤ length registers
    register_fits i = omega (arith, register_ends (index_of i) (index_small i), S.lent.slot)

    -- what storing the top asks
    pub store_asks : (i : register.Register) (n : ℕ) → n ≡ index_of i → 1 ≤ sp
        → Slot l.limits.states (m + 1) (drop ((sp - 1) * l.size) stack) × (n * l.size + needs l.limits.states (m + 1) ≤ length registers)
    store_asks i n q h = rw (q, add-one m) (top_slot h, register_fits i)

    -- another register
    other : (i j : ℕ) → i < 3 → j < 3 → (j < i) ⊎ (i < j) → {regs : List ℕ} → Aside (i * l.size) l.size registers regs → Holds l.limits.states k (drop (j * l.size) regs) (slot_at l.limits.states k l.size registers j)
    other i j hi hj w {regs} A =
        slot_same registers regs (j * l.size) (j * l.size) (S.held.held j hj) (omega (arith, register_ends j hj, S.lent.slot, A.long)) (λ n v. A.same (j * l.size + n) (away n v w))
      where
        away : (n : ℕ) → n < needs l.limits.states k → (j < i) ⊎ (i < j) → (j * l.size + n < i * l.size) ⊎ (i * l.size + l.size ≤ j * l.size + n)
        away n v (inl b) = inl (omega (arith, mul-le-mul_right {m = suc j} {n = i} l.size b, suc-mul j l.size, S.lent.slot))
        away n v (inr b) = inr (omega (arith, mul-le-mul_right {m = suc i} {n = j} l.size b, suc-mul i l.size))

    pub store_steps : (i : register.Register) (n : ℕ) → n ≡ index_of i → r ≡ Some (Storing i) → 1 ≤ sp → {regs : List ℕ}
        → Written registers regs (n * l.size) (fills l.limits.states (m + 1) (drop ((sp - 1) * l.size) stack)) (λ j. get_or stack ((sp - 1) * l.size + j) 0)
        → Steps l ls first second c sp registers stack regs stack (Ok (record { height = sp - 1; sets = 0 }))
    store_steps i n q e h {regs} W' = record {
      gives = λ env N. ([], refl, E.steps (format_of l) ls env (book_in l m registers) s ∙ ap (λ ms. with_one ms λ A rest. ran [] (stored s i A rest)) (one_top sp h) ∙ ap (ran []) (saved i (store_in i e) A H));
      stands = (sym (E.behind sp), slots_less (sp - 1) (omega arith) S.slots);
      shelved = record { held = record { held = held (index_of i) (index_small i) A H }; book = (other (index_of i) 0 (index_small i) (omega arith) (inl (store_in i e)) A).machine; long = W'.long };
      long = refl;
    }
      where
        E : Sorted c (Some (Storing i))
        E = subst (Sorted c) e D

        W : Written registers regs (index_of i * l.size) (fills l.limits.states k (drop ((sp - 1) * l.size) stack)) (λ j. get_or stack ((sp - 1) * l.size + j) 0)
        W = rw (q, add-one m) at W'

        A : Aside (index_of i * l.size) l.size registers regs
        A = written_within l.size (omega (arith, fills_most (top_slot h), S.lent.slot)) W

        H : Holds l.limits.states k (drop (index_of i * l.size) regs) (slot_at l.limits.states k l.size stack (sp - 1))
        H = copied stack ((sp - 1) * l.size) registers regs (index_of i * l.size) (register_fits i) (top_slot h) W

        held : (i : ℕ) → i < 3 → Aside (i * l.size) l.size registers regs → Holds l.limits.states k (drop (i * l.size) regs) (slot_at l.limits.states k l.size stack (sp - 1))
            → (j : ℕ) → j < 3 → Slot l.limits.states k (drop (j * l.size) regs)
        held i hi A H j b = go (lt_cases j i) (lt_cases i j)
          where
            go : LtCases j i → LtCases i j → Slot l.limits.states k (drop (j * l.size) regs)
            go (inl p) q = (other i j hi b (inl p.0) A).slot
            go (inr p) (inl q) = (other i j hi b (inr q.0) A).slot
            go (inr p) (inr q) = let z : i ≡ j = omega arith in subst (λ j. Slot l.limits.states k (drop (j * l.size) regs)) z H.slot

        both : Machine → Machine → Store
        both P R = record { stack = machines l.limits.states k l.size stack (sp - 1); pattern = P; right = R }

        saved : (i : register.Register) → 1 ≤ index_of i → Aside (index_of i * l.size) l.size registers regs
            → Holds l.limits.states k (drop (index_of i * l.size) regs) (slot_at l.limits.states k l.size stack (sp - 1))
            → stored s i (slot_at l.limits.states k l.size stack (sp - 1)) (machines l.limits.states k l.size stack (sp - 1)) ≡ store_of l m (sp - 1) stack regs
        saved Book a A H = absurd (omega arith)
        saved Pattern a A H = ap₂ both (sym H.machine) (sym (other 1 2 (omega arith) (omega arith) (inr (omega arith)) A).machine)
        saved Right a A H = ap₂ both (sym (other 2 1 (omega arith) (omega arith) (inl (omega arith)) A).machine) (sym H.machine)
