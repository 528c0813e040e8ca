-- Slots copied: the machine goes along, and the other slots of a buffer stay.
use mathlib.Core.Path.{◌≡◌, refl, sym, ap₂, ◌∙◌, subst}
use mathlib.Core.Bool.{true, false}
use mathlib.Core.Logic.{◌⊎◌, inl, inr, ◌≢◌}
use mathlib.Core.List.{List, ◌∷◌}
use Prim.Native.Nat.{ℕ, zero, suc, ◌+◌, ◌-◌, ◌*◌, ◌≤◌, ◌<◌}
use native.Mathlib.Nat.{mul-le-mul_right}
use native.Mathlib.Omega.{arith}
use borrow.Author.Tests.{le-leb, lt-leb}
use lib.Dec.{eqb, leb}
use lib.ListN.{length, get_or, drop, length-drop}
use lib.Seq.{get_or-drop}
use Rattle.automata.specs.Basics.{LtCases, lt_cases, SameCases, same_cases, nat_test}
use Rattle.automata.specs.Machine.{Machine}
use Rattle.automata.specs.Table.{table_machine, ClosedTable}
use Rattle.automata.specs.Given.{empty_machine, all_machine}
use Rattle.language.specs.Expression.{member}
use Rattle.language.specs.Environment.{lookup, names_of}
use Rattle.book.specs.Kind.{is_name}
use Rattle.rows.specs.Rows.{number_at}
use Rattle.slots.specs.Slot.{slot_machine, Slot, Written, table_same}
use Rattle.reader.proofs.SymbolLaws.{name_byte, member_other}
use Rattle.kept.specs.Stored.{InSlot, name_slot, Registers, Stored, StoresName, Begins, Right, Keeps}
use Rattle.kept.specs.declared.Place.{Place}
use Rattle.kept.specs.declared.Place.TheVariants.{Name, Book}

-- A slot with the same bytes holds the same machine.
pub slot_same : (m : ℕ) (s t : List ℕ) (M : Machine) → m ≤ 26 → InSlot m s M → 3362 ≤ length t → ((i : ℕ) → i < 3362 → get_or t i 0 ≡ get_or s i 0) → InSlot m t M
unfolding slot_machine
slot_same m s t M h H l e = record { slot = record { closed = rw n≡ both.0 }; machine = rw n≡ (sym both.1) ∙ H.machine }
  where
    n≡ : number_at t 0 ≡ number_at s 0
    n≡ = ap₂ (λ a b. a + 256 * b) (e 0 (omega arith)) (e 1 (omega arith))

    C : ClosedTable 120 (number_at s 0) (suc m) (drop 2 s)
    C = H.slot.closed

    small : number_at s 0 * suc m ≤ 3240
    small =
        let a : number_at s 0 * suc m ≤ 120 * suc m = mul-le-mul_right {m = number_at s 0} {n = 120} (suc m) C.flags in
        omega arith

    both : ClosedTable 120 (number_at s 0) (suc m) (drop 2 t) × (table_machine 120 (number_at s 0) (suc m) (drop 2 s) ≡ table_machine 120 (number_at s 0) (suc m) (drop 2 t))
    both = table_same 120 (number_at s 0) (suc m) (drop 2 s) (drop 2 t) C (omega (arith, small, length-drop 2 t))
        (λ i b. get_or-drop 2 s i 0 ∙ sym (e (2 + i) (omega (arith, small))) ∙ sym (get_or-drop 2 t i 0))

-- The slot that was copied,
pub slot_copied : (m : ℕ) (src s t : List ℕ) (at : ℕ) (M : Machine) → m ≤ 26 → InSlot m src M → at + 3362 ≤ length s → Written s t at 3362 (λ i. get_or src i 0) → InSlot m (drop at t) M
slot_copied m src s t at M h H l w = slot_same m src (drop at t) M h H (omega (arith, length-drop at t, w.long)) (λ i b. get_or-drop at t i 0 ∙ w.here i b)

-- and one beside it.
pub slot_beside : (m : ℕ) (src s t : List ℕ) (at other : ℕ) (M : Machine) → m ≤ 26 → InSlot m (drop other s) M → other + 3362 ≤ length s → (other + 3362 ≤ at) ⊎ (at + 3362 ≤ other)
    → Written s t at 3362 (λ i. get_or src i 0) → InSlot m (drop other t) M
slot_beside m src s t at other M h H l d w =
    slot_same m (drop other s) (drop other t) M h H (omega (arith, length-drop other t, w.long)) (λ i b. get_or-drop other t i 0 ∙ w.there (other + i) (out i b d) ∙ sym (get_or-drop other s i 0))
  where
    out : (i : ℕ) → i < 3362 → (other + 3362 ≤ at) ⊎ (at + 3362 ≤ other) → (other + i < at) ⊎ (at + 3362 ≤ other + i)
    out i b (inl p) = inl (omega arith)
    out i b (inr p) = inr (omega arith)

-- two different places of slots
apart : (a b : ℕ) → a ≢ b → (b * 3362 + 3362 ≤ a * 3362) ⊎ (a * 3362 + 3362 ≤ b * 3362)
apart a b n = go (lt_cases b a)
  where
    go : LtCases b a → (b * 3362 + 3362 ≤ a * 3362) ⊎ (a * 3362 + 3362 ≤ b * 3362)
    go (inl p) = inl (omega arith)
    go (inr p) = inr (let z : a < b = less (lt_cases a b) in omega arith)
      where
        less : LtCases a b → a < b
        less (inl q) = q.0
        less (inr q) = absurd (n (omega arith))

-- ---- the registers

-- a slot's own machine
own : (m : ℕ) (s : List ℕ) → Slot 120 (suc m) s → InSlot m s (slot_machine 120 (suc m) s)
own m s S = record { slot = S; machine = refl }

-- the book so far replaced
pub registers_kept : (m : ℕ) (src s t : List ℕ) (kept M : Machine) → m ≤ 26 → InSlot m src M → 10086 ≤ length s → Registers m kept s → Written s t 0 3362 (λ i. get_or src i 0) → Registers m M t
registers_kept m src s t kept M h H l R w = record { book = slot_copied m src s t 0 M h H (omega arith) w; held = held }
  where
    beside : (at : ℕ) → 3362 ≤ at → at ≤ 6724 → Slot 120 (suc m) (drop at s) → Slot 120 (suc m) (drop at t)
    beside at a b S = (slot_beside m src s t 0 at _ h (own m (drop at s) S) (omega arith) (inr a) w).slot

    held : (i : ℕ) → i < 3 → Slot 120 (suc m) (drop (i * 3362) t)
    held zero b = (slot_copied m src s t 0 M h H (omega arith) w).slot
    held (suc zero) b = beside 3362 (omega arith) (omega arith) (R.held 1 (omega arith))
    held (suc (suc zero)) b = beside 6724 (omega arith) (omega arith) (R.held 2 (omega arith))
    held (suc (suc (suc i))) b = absurd (omega arith)

-- the same machine in all three
pub registers_begin : (m : ℕ) (src r₀ r₁ r₂ r₃ : List ℕ) → m ≤ 26 → InSlot m src (all_machine m) → 10086 ≤ length r₀
    → Written r₀ r₁ 0 3362 (λ i. get_or src i 0) → Written r₁ r₂ 3362 3362 (λ i. get_or src i 0) → Written r₂ r₃ 6724 3362 (λ i. get_or src i 0) → Begins m r₃
registers_begin m src r₀ r₁ r₂ r₃ h H l w₀ w₁ w₂ = record { registers = record { book = first; held = held } }
  where
    first : InSlot m (drop 0 r₃) (all_machine m)
    first =
        let a : InSlot m (drop 0 r₁) (all_machine m) = slot_copied m src r₀ r₁ 0 (all_machine m) h H (omega arith) w₀ in
        let b : InSlot m (drop 0 r₂) (all_machine m) = slot_beside m src r₁ r₂ 3362 0 (all_machine m) h a (omega (arith, w₀.long)) (inl (omega arith)) w₁ in
        slot_beside m src r₂ r₃ 6724 0 (all_machine m) h b (omega (arith, w₀.long, w₁.long)) (inl (omega arith)) w₂

    second : InSlot m (drop 3362 r₃) (all_machine m)
    second =
        let b : InSlot m (drop 3362 r₂) (all_machine m) = slot_copied m src r₁ r₂ 3362 (all_machine m) h H (omega (arith, w₀.long)) w₁ in
        slot_beside m src r₂ r₃ 6724 3362 (all_machine m) h b (omega (arith, w₀.long, w₁.long)) (inl (omega arith)) w₂

    held : (i : ℕ) → i < 3 → Slot 120 (suc m) (drop (i * 3362) r₃)
    held zero b = first.slot
    held (suc zero) b = second.slot
    held (suc (suc zero)) b = (slot_copied m src r₂ r₃ 6724 (all_machine m) h H (omega (arith, w₀.long, w₁.long)) w₂).slot
    held (suc (suc (suc i))) b = absurd (omega arith)

-- ---- a name more

module _ (x : ℕ) (src low high low' high' : List ℕ) (n : is_name x ≡ true) where
  -- the new name, and the other names as before
  more : length low' ≡ length low → length high' ≡ length high → ((m : ℕ) (M : Machine) → m ≤ 26 → InSlot m src M → InSlot m (name_slot x low' high') M)
      → ((m y : ℕ) (N : Machine) → m ≤ 26 → is_name y ≡ true → y ≢ x → InSlot m (name_slot y low high) N → InSlot m (name_slot y low' high') N)
      → StoresName x src low high low' high'
  more ll hl f g = record { low_long = ll; high_long = hl; more = λ m env kept M registers h H S. record { names = λ y v w. go m env kept M registers h H S y v w (same_cases nat_test y x); registers = S.registers } }
    where
      go : (m : ℕ) (env : List (ℕ × Machine)) (kept M : Machine) (registers : List ℕ) → m ≤ 26 → InSlot m src M → Stored m env kept low high registers
          → (y : ℕ) → is_name y ≡ true → member y (x ∷ names_of env) ≡ true → SameCases nat_test y x → InSlot m (name_slot y low' high') (lookup y (empty_machine m) ((x, M) ∷ env))
      go m env kept M registers h H S y v w (inl p) = let e : eqb y x ≡ true = p.1 in let z : y ≡ x = p.0 in rw (e, z) (f m M h H)
      go m env kept M registers h H S y v w (inr p) =
          let e : eqb y x ≡ false = p.1 in
          let t : member y (names_of env) ≡ true = sym (member_other y x (names_of env) (λ q. p.0 (sym q))) ∙ w in
          rw e (g m y (lookup y (empty_machine m) env) h v p.0 (S.names y v t))

pub store_low : (x : ℕ) (src low high low' : List ℕ) → is_name x ≡ true → x ≤ 77 → 43706 ≤ length low → 43706 ≤ length high → Written low low' ((x - 65) * 3362) 3362 (λ i. get_or src i 0)
    → StoresName x src low high low' high
store_low x src low high low' n b l k w = more x src low high low' high n w.long refl new old
  where
    lt : leb x 77 ≡ true
    lt = le-leb x 77 b

    new : (m : ℕ) (M : Machine) → m ≤ 26 → InSlot m src M → InSlot m (name_slot x low' high) M
    new m M h H = rw lt (slot_copied m src low low' ((x - 65) * 3362) M h H (omega (arith, (name_byte x n).0)) w)

    old : (m y : ℕ) (N : Machine) → m ≤ 26 → is_name y ≡ true → y ≢ x → InSlot m (name_slot y low high) N → InSlot m (name_slot y low' high) N
    old m y N h v d H = go (lt_cases 77 y) H
      where
        go : LtCases 77 y → InSlot m (name_slot y low high) N → InSlot m (name_slot y low' high) N
        go (inr p) H =
            let e : leb y 77 ≡ true = le-leb y 77 p.0 in
            rw e (slot_beside m src low low' ((x - 65) * 3362) ((y - 65) * 3362) N h (rw e at H) (omega (arith, (name_byte y v).0, p.0))
            (apart (x - 65) (y - 65) (λ z. d (omega (arith, (name_byte x n).0, (name_byte y v).0)))) w)
        go (inl p) H = let e : leb y 77 ≡ false = lt-leb y 77 p.0 in rw e (rw e at H)

pub store_high : (x : ℕ) (src low high high' : List ℕ) → is_name x ≡ true → 77 < x → 43706 ≤ length low → 43706 ≤ length high → Written high high' ((x - 78) * 3362) 3362 (λ i. get_or src i 0)
    → StoresName x src low high low high'
store_high x src low high high' n b l k w = more x src low high low high' n refl w.long new old
  where
    lt : leb x 77 ≡ false
    lt = lt-leb x 77 b

    new : (m : ℕ) (M : Machine) → m ≤ 26 → InSlot m src M → InSlot m (name_slot x low high') M
    new m M h H = rw lt (slot_copied m src high high' ((x - 78) * 3362) M h H (omega (arith, (name_byte x n).1)) w)

    old : (m y : ℕ) (N : Machine) → m ≤ 26 → is_name y ≡ true → y ≢ x → InSlot m (name_slot y low high) N → InSlot m (name_slot y low high') N
    old m y N h v d H = go (lt_cases 77 y) H
      where
        go : LtCases 77 y → InSlot m (name_slot y low high) N → InSlot m (name_slot y low high') N
        go (inr p) H = let e : leb y 77 ≡ true = le-leb y 77 p.0 in rw e (rw e at H)
        go (inl p) H =
            let e : leb y 77 ≡ false = lt-leb y 77 p.0 in
            rw e (slot_beside m src high high' ((x - 78) * 3362) ((y - 78) * 3362) N h (rw e at H) (omega (arith, (name_byte y v).1))
            (apart (x - 78) (y - 78) (λ z. d (omega (arith, p.0)))) w)

-- ---- a line's machine kept at its place

pub keeps_name : (x : ℕ) (p : Place) (src low high registers low' high' : List ℕ) → p ≡ Name x → StoresName x src low high low' high' → Keeps p src low high registers low' high' registers
keeps_name x p src low high registers low' high' e S =
    subst (λ p. Keeps p src low high registers low' high' registers) (sym e) (record { stored = λ m env kept M h H T. S.more m env kept M registers h H T })

pub keeps_book : (p : Place) (src low high registers registers' : List ℕ) → p ≡ Book → 10086 ≤ length registers → Written registers registers' 0 3362 (λ i. get_or src i 0)
    → Keeps p src low high registers low high registers'
keeps_book p src low high registers registers' e l w =
    subst (λ p. Keeps p src low high registers low high registers') (sym e)
    (record { stored = λ m env kept M h H T. record { names = T.names; registers = registers_kept m src registers registers' kept M h H l T.registers w } })

pub right_name : (x : ℕ) (p : Place) → p ≡ Name x → Right p → is_name x ≡ true
right_name x p e r = rw e at r
